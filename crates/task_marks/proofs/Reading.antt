-- The instructions and the marks that a program has of its lines, and where each of them leads.
use Rattle.std.specs.Prelude.{◌≡◌, ℕ, zero, suc, ◌+◌, ◌<◌, Bool, true, false, ◌==◌, if◌then◌else◌, List, [], ◌∷◌, ◌++◌, length, slice_get, Option, Some, None, refl}
use Rattle.std.specs.Option.{option_and_then}
use Rattle.std.proofs.Common.{ap, sym, ◌∙◌, arith, subst}
use Rattle.std.proofs.lemmas.Bool.Decides.{nat_tests}
use Rattle.word_isa.specs.Decoding.{decoded}
use Rattle.word_isa.specs.Instructions.{encoded}
use Rattle.word_isa.specs.Marks.{mark_at}
use Rattle.word_isa.specs.RowLaws.{row_decoded}
use Rattle.word_isa.specs.declared.instr.Instr.{Instr}
use Rattle.word_isa.specs.declared.mark.Mark.{Mark}
use Rattle.line_code.specs.declared.line.Line.{Line}
use Rattle.line_code.specs.declared.line.Sign.{Sign}
use Rattle.word_code.specs.CodeOf.{words_of, mark_of, marks_of}
use Rattle.word_code.specs.Passing.{AllFit}
use Rattle.code_places.proofs.Standing.{instr_in}
use Rattle.task_marks.proofs.Steps.{Fares}

-- ---- instructions

pub words_read : (lines : List Line) → AllFit lines → (k : ℕ) → option_and_then decoded (slice_get (words_of lines) k) ≡ instr_in lines k
words_read [] fit zero = refl
words_read [] fit (suc k) = refl
words_read (l ∷ lines) fit zero = row_decoded (encoded l.instr) l.instr (fit.0, refl)
words_read (l ∷ lines) fit (suc k) = words_read lines fit.1 k

-- ---- marks

-- the mark of a line at an address
abbrev pub mark_here : (at : ℕ) → Option Sign → Option Mark
mark_here at None = None
mark_here at (Some s) = Some (record { at = at; kind = s.kind; site = s.site; task = s.task })

-- the mark of the k-th of lines from an address on
abbrev pub mark_in : (at : ℕ) → List Line → (k : ℕ) → Option Mark
mark_in at [] k = None
mark_in at (l ∷ lines) zero = mark_here at l.sign
mark_in at (l ∷ lines) (suc k) = mark_in (at + 1) lines k

no_marks : (at : ℕ) → mark_at [] at ≡ None
unfolding mark_at
no_marks at = refl

found : (m : Mark) (rest : List Mark) (at : ℕ) → m.at ≡ at → mark_at (m ∷ rest) at ≡ Some m
unfolding mark_at
found m rest at is =
    let test : (m.at == at) ≡ true = grind (arith, nat_tests) in
    ap (λ (b : Bool). if b then Some m else mark_at rest at) test

passed : (m : Mark) (rest : List Mark) (at : ℕ) → m.at < at → mark_at (m ∷ rest) at ≡ mark_at rest at
unfolding mark_at
passed m rest at low =
    let test : (m.at == at) ≡ false = grind (arith, nat_tests) in
    ap (λ (b : Bool). if b then Some m else mark_at rest at) test

ahead : (m : Mark) (rest : List Mark) (at : ℕ) → at < m.at → mark_at (m ∷ rest) at ≡ mark_at rest at
unfolding mark_at
ahead m rest at low =
    let test : (m.at == at) ≡ false = grind (arith, nat_tests) in
    ap (λ (b : Bool). if b then Some m else mark_at rest at) test

none_by : (o : Option Sign) (n at : ℕ) (rest : List Mark) → at < n → mark_at rest at ≡ None → mark_at (mark_of n o ++ rest) at ≡ None
none_by None n at rest low none = none
none_by (Some s) n at rest low none = ahead (record { at = n; kind = s.kind; site = s.site; task = s.task }) rest at low ∙ none

none_below : (lines : List Line) (n at : ℕ) → at < n → mark_at (marks_of n lines) at ≡ None
none_below [] n at low = no_marks at
none_below (l ∷ lines) n at low = none_by l.sign n at (marks_of (n + 1) lines) low (none_below lines (n + 1) at (omega (arith, low)))

here_by : (o : Option Sign) (n at : ℕ) (rest : List Mark) → at ≡ n → mark_at rest at ≡ None → mark_at (mark_of n o ++ rest) at ≡ mark_here n o
here_by None n at rest is none = none
here_by (Some s) n at rest is none = found (record { at = n; kind = s.kind; site = s.site; task = s.task }) rest at (sym is)

later_by : (o : Option Sign) (n at : ℕ) (rest : List Mark) → n < at → mark_at (mark_of n o ++ rest) at ≡ mark_at rest at
later_by None n at rest low = refl
later_by (Some s) n at rest low = passed (record { at = n; kind = s.kind; site = s.site; task = s.task }) rest at low

pub marks_read : (lines : List Line) (n k at : ℕ) → at ≡ n + k → mark_at (marks_of n lines) at ≡ mark_in n lines k
marks_read [] n k at is = no_marks at
marks_read (l ∷ lines) n zero at is = here_by l.sign n at (marks_of (n + 1) lines) (omega (arith, is)) (none_below lines (n + 1) at (omega (arith, is)))
marks_read (l ∷ lines) n (suc k) at is =
    later_by l.sign n at (marks_of (n + 1) lines) (omega (arith, is)) ∙ marks_read lines (n + 1) k at (omega (arith, is))

-- ---- where they lead

-- each line from an address on fares well, where it may be reached
abbrev pub AllFare : (May : Option ℕ → ℕ → Type 0) → (at : ℕ) → List Line → Type 0
AllFare May at [] = Unit {0}
AllFare May at (l ∷ lines) = ((b : Option ℕ) → May b at → Fares May b at l.instr (mark_here at l.sign)) × AllFare May (at + 1) lines

pub fare_joined : (May : Option ℕ → ℕ → Type 0) (m n : ℕ) (xs ys : List Line) → n ≡ m + length xs → AllFare May m xs → AllFare May n ys → AllFare May m (xs ++ ys)
fare_joined May m n [] ys is h g = let same : n ≡ m = omega (arith, is) in subst (λ (at : ℕ). AllFare May at ys) same g
fare_joined May m n (x ∷ xs) ys is h g = (h.0, fare_joined May (m + 1) n xs ys (omega (arith, is)) h.1 g)

pub fares_at : (May : Option ℕ → ℕ → Type 0) (lines : List Line) (n k at : ℕ) (b : Option ℕ) (i : Instr) → at ≡ n + k → AllFare May n lines → instr_in lines k ≡ Some i → May b at → Fares May b at i (mark_in n lines k)
fares_at May [] n k at b i is h e may = absurd (cc e)
fares_at May (l ∷ lines) n zero at b i is h e may =
    let same : at ≡ n = omega (arith, is) in
    let instr : l.instr ≡ i = cc e in
    subst (λ (x : Instr). Fares May b at x (mark_here n l.sign)) instr
    (subst (λ (x : ℕ). Fares May b x l.instr (mark_here n l.sign)) (sym same) (h.0 b (subst (May b) same may)))
fares_at May (l ∷ lines) n (suc k) at b i is h e may = fares_at May lines (n + 1) k at b i (omega (arith, is)) h.1 e may
