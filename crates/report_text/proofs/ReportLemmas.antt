-- Lines one after another.
use Rattle.std.specs.Prelude.{Result, Ok, Err, IsErr, ◌==◌, if◌then◌else◌}
use Rattle.std.specs.List.{join_with_byte}
use Rattle.std.specs.Result.{IsErrAnd}
use Rattle.std.specs.Option.{SomeIff}
use Rattle.std.specs.Borrow.{Bor}
use Rattle.std.proofs.Common.{◌≡◌, ◌∙◌, ℕ, suc, ◌+◌, Bool, true, false, List, [], ◌∷◌, ◌++◌, length, Option, Some, None, refl, sym, ap, subst, append_assoc, append-nil, arith}
use Rattle.std.proofs.lemmas.Bool.{false≢true, ne_eqb}
use Rattle.std.proofs.lemmas.List.Splits.{join_with_byte-slice_split}
use Rattle.report_text.proofs.WordLemmas.{some_part}
use Rattle.report_text.specs.Grammar.{is_end}
use Rattle.report_text.specs.Parts.{split_at, rest_of}
use Rattle.report_text.specs.Reading.{report_of, behind, read_on, next_of, line_of, IsNext, Reads}
use Rattle.report_text.specs.declared.error.ReportError.{ReportError}
use Rattle.report_text.specs.declared.error.ReportError.TheVariants as fails
use Rattle.report_text.specs.declared.line.ReportLine.{ReportLine}

-- how much is left
abbrev pub left_long : Option (Bor (List ℕ)) → ℕ
left_long None = 0
left_long (Some text) = suc (length text.now)

-- the lines so far, with those of what is left, are the report's
pub record IsOnWay (lines : List ReportLine) (ended : Bool) (number : ℕ) (left bytes : List ℕ) : Type 0 where
  pub before : ℕ
  pub counted : number ≡ suc before
  pub whole : behind lines (report_of ended before (split_at 10 left)) ≡ report_of false 0 (split_at 10 bytes)

pub on_way_first : (bytes : List ℕ) → IsOnWay [] false 1 bytes bytes
on_way_first bytes = record { before = 0; counted = refl; whole = by (report_of false 0 (split_at 10 bytes)) }
  where
    by : (r : Result (List ReportLine) ℕ) → behind [] r ≡ r
    by (Ok ls) = refl
    by (Err n) = refl

next_some : (ended : Bool) (line : List ℕ) (parts : List (List ℕ)) → (w : List ℕ) × (ws : List (List ℕ)) × (parts ≡ w ∷ ws) → next_of ended (line ∷ parts) ≡ (if ended then None else line_of (split_at 32 line))
next_some ended line [] some = cc
next_some ended line (next ∷ parts) some = refl

-- the next line is the first part's, where something stands behind it
pub next_first : (line rest : List ℕ) → next_of false (line ∷ split_at 10 rest) ≡ line_of (split_at 32 line)
next_first line rest = next_some false line (split_at 10 rest) (some_part 10 rest)

-- a line that is read is the next
pub next_is : (ended : Bool) (text line : List ℕ) (rest : Option (Bor (List ℕ))) (b : Bor (List ℕ)) (l : ReportLine) → split_at 10 text ≡ line ∷ rest_of 10 rest → rest ≡ Some b → ended ≡ false → line_of (split_at 32 line) ≡ Some l
    → IsNext ended (split_at 10 text) (Some (l, b))
next_is ended text line rest b l parts more not_ended is =
    let p : split_at 10 text ≡ line ∷ split_at 10 b.now = parts ∙ ap (λ r. line ∷ rest_of 10 r) more in
    (line, p, (λ i. next_of (not_ended i) (p i)) ∙ next_first line b.now ∙ is)

-- no next line
pub next_none : (ended : Bool) (parts : List (List ℕ)) (o : Option (ReportLine × Bor (List ℕ))) → IsNext ended parts o → o ≡ None → next_of ended parts ≡ None
next_none ended parts None next none = next
next_none ended parts (Some p) next none = cc

joined : (old : List ReportLine) (l : ReportLine) (rest : Result (List ReportLine) ℕ) → behind old (behind (l ∷ []) rest) ≡ behind (old ++ l ∷ []) rest
joined old l (Ok more) = ap Ok (sym (append_assoc old (l ∷ []) more))
joined old l (Err n) = refl

-- a line that may stand, and those behind it
pub goes : (ended : Bool) (before : ℕ) (line : List ℕ) (parts : List (List ℕ)) (l : ReportLine) (some : (w : List ℕ) × (ws : List (List ℕ)) × (parts ≡ w ∷ ws)) → next_of ended (line ∷ parts) ≡ Some l
    → report_of ended before (line ∷ parts) ≡ behind (l ∷ []) (report_of (is_end l.text) (suc before) parts)
unfolding report_of
goes ended before line [] l some is = cc
goes ended before line (next ∷ parts) l some is = ap (λ o. read_on o before (λ m. report_of (is_end m.text) (suc before) (next ∷ parts))) is

-- a turn of the reader at a line that may stand
pub turn_goes : (lines new : List ReportLine) (ended : Bool) (number next : ℕ) (left bytes text : List ℕ) (l : ReportLine) (line : List ℕ) → IsOnWay lines ended number left bytes
    → split_at 10 left ≡ line ∷ split_at 10 text → next_of ended (split_at 10 left) ≡ Some l → new ≡ lines ++ l ∷ [] → next ≡ number + 1 → IsOnWay new (is_end l.text) next text bytes
turn_goes lines new ended number next left bytes text l line way parts is more counted = record {
  before = suc way.before;
  counted = omega (arith, counted, way.counted);
  whole =
      ap (λ ls. behind ls (report_of (is_end l.text) (suc way.before) (split_at 10 text))) more
      ∙ sym (joined lines l (report_of (is_end l.text) (suc way.before) (split_at 10 text)))
      ∙ ap (behind lines) (sym (goes ended way.before line (split_at 10 text) l (some_part 10 text) (ap (next_of ended) (sym parts) ∙ is)))
      ∙ ap (λ ps. behind lines (report_of ended way.before ps)) (sym parts) ∙ way.whole;
}

-- nothing may stand next, and something does
pub stops : (ended : Bool) (before : ℕ) (parts : List (List ℕ)) → next_of ended parts ≡ None → (parts ≡ [] ∷ [] → ⊥) → report_of ended before parts ≡ Err (suc before)
unfolding report_of
stops ended before [] none some = refl
stops true before ([] ∷ []) none some = absurd (some refl)
stops false before ([] ∷ []) none some = refl
stops true before ((b ∷ tail) ∷ []) none some = refl
stops false before ((b ∷ tail) ∷ []) none some = refl
stops ended before (line ∷ next ∷ parts) none some = ap (λ o. read_on o before (λ m. report_of (is_end m.text) (suc before) (next ∷ parts))) none

-- a text of one empty part is empty
pub only_nothing : (left : List ℕ) → split_at 10 left ≡ [] ∷ [] → left ≡ []
only_nothing left is = sym (join_with_byte-slice_split 10 left) ∙ ap (join_with_byte 10) is

-- a turn at a line that may not stand
pub turn_stops : (lines : List ReportLine) (ended : Bool) (number : ℕ) (left bytes : List ℕ) → IsOnWay lines ended number left bytes → next_of ended (split_at 10 left) ≡ None → (left ≡ [] → ⊥)
    → report_of false 0 (split_at 10 bytes) ≡ Err number
turn_stops lines ended number left bytes way none some =
    sym way.whole ∙ ap (behind lines) (stops ended way.before (split_at 10 left) none (λ is. some (only_nothing left is))) ∙ ap Err (sym way.counted)

-- nothing is left
pub turn_ends : (lines : List ReportLine) (ended : Bool) (number : ℕ) (left bytes : List ℕ) → IsOnWay lines ended number left bytes → left ≡ [] → ended ≡ true → report_of false 0 (split_at 10 bytes) ≡ Ok lines
unfolding report_of
turn_ends lines ended number left bytes way nothing over =
    sym way.whole ∙ ap (λ t. behind lines (report_of ended way.before (split_at 10 t))) nothing ∙ ap (λ e. behind lines (report_of e way.before (split_at 10 []))) over ∙ ap Ok (append-nil lines)

pub turn_lacks : (lines : List ReportLine) (ended : Bool) (number : ℕ) (left bytes : List ℕ) → IsOnWay lines ended number left bytes → left ≡ [] → ended ≡ false → report_of false 0 (split_at 10 bytes) ≡ Err number
unfolding report_of
turn_lacks lines ended number left bytes way nothing over =
    sym way.whole ∙ ap (λ t. behind lines (report_of ended way.before (split_at 10 t))) nothing ∙ ap (λ e. behind lines (report_of e way.before (split_at 10 []))) over ∙ ap Err (sym way.counted)

-- the number of the next line
pub counted : (o : Option ℕ) (P : Type 0) (x m : ℕ) → SomeIff o P x → o ≡ Some m → m ≡ x
counted None P x m told is = cc
counted (Some y) P x m told is = let same : y ≡ m = cc in sym same ∙ told.1

-- an answer that is want of memory
pub reads_nothing : (report : Result (List ReportLine) ℕ) (result : Result (List ReportLine) ReportError) (x : ReportError) → IsErr result × IsErrAnd result (λ e. e ≡ x) → x ≡ fails.NoMemory → Reads report result
reads_nothing report (Ok ls) x failed none = cc
reads_nothing report (Err e) x failed none = subst (λ y. Reads report (Err y)) (sym none ∙ sym failed.1) tt

-- whether nothing is left
pub empty_is : (t : Bool) (left : List ℕ) → t ≡ (length left == 0) → t ≡ true → left ≡ []
empty_is t [] is yes_ = refl
empty_is t (b ∷ left) is yes_ = absurd (false≢true (sym (ne_eqb (suc (length left)) 0 (λ e. omega (arith, e))) ∙ sym is ∙ yes_))

pub empty_not : (t : Bool) (left : List ℕ) → t ≡ (length left == 0) → t ≡ false → left ≡ [] → ⊥
empty_not t left is not_ nothing = false≢true (sym not_ ∙ is ∙ ap (λ (xs : List ℕ). length xs == 0) nothing)
