-- A report is read as the lines that it is of, and else the first line that may not stand is told.
use Rattle.std.specs.Prelude.{Result, Ok, Err, IfOk, IfErr, IsTrue, codes, decimal, if◌then◌else◌}
use Rattle.std.specs.List.{flat_map, join_with_byte}
use Rattle.std.proofs.Common.{◌≡◌, ◌∙◌, ◌≢◌, ℕ, zero, suc, ◌+◌, Bool, true, false, List, [], ◌∷◌, ◌++◌, Option, Some, None, refl, sym, ap, subst, append_assoc, arith}
use Rattle.std.proofs.lemmas.List.Splits.{join_with_byte-slice_split}
use Rattle.report_text.proofs.PartLemmas.{Lacks, AllLack, AllShown, split_lacks, split_whole, split_join, join_lacks, parts_lack, all_lack, word_shown, decimal_word}
use Rattle.report_text.proofs.ReportLemmas.{next_first, goes, stops, only_nothing}
use Rattle.report_text.proofs.TextLemmas.{words_of, text_spelled, text_shown, text_found, text_whole}
use Rattle.report_text.proofs.WordLemmas.{number_of_digits, digits_of_number, some_part}
use Rattle.report_text.specs.Grammar.{row, is_end, IsLine, AreLines, IsReport, NoLine, IsRefused, ReadsAs, TellsFirst, TellsLine}
use Rattle.report_text.specs.Grammar as grammar
use Rattle.report_text.specs.Parts.{split_at}
use Rattle.report_text.specs.Reading.{◌>>=◌, number_in, text_of, line_of, report_of, behind, read_on, next_of, Reads}
use Rattle.report_text.specs.declared.error.ReportError.{ReportError}
use Rattle.report_text.specs.declared.error.ReportError.TheVariants as fails
use Rattle.report_text.specs.declared.line.ReportLine.{ReportLine}

-- the words of a line, and the line without its line feed
abbrev pub line_words : ReportLine → List (List ℕ)
line_words l = decimal l.steps ∷ words_of l.text

abbrev pub line_bytes : ReportLine → List ℕ
line_bytes l = join_with_byte 32 (line_words l)

row_is : (l : ReportLine) (rest : List ℕ) → row l ++ rest ≡ line_bytes l ++ (10 ∷ rest)
row_is l rest =
    append_assoc (decimal l.steps ++ codes " " ++ grammar.text_of l.text) (10 ∷ []) rest
    ∙ ap (λ x. x ++ (10 ∷ rest)) (append_assoc (decimal l.steps) (codes " ") (grammar.text_of l.text) ∙ sym (text_spelled l.text (decimal l.steps)))

line_shown : (l : ReportLine) → IsLine l → AllShown (line_words l)
line_shown l is = (word_shown (decimal l.steps) (decimal_word l.steps is.steps), text_shown l.text is.text)

words_parted : (l : ReportLine) → IsLine l → split_at 32 (line_bytes l) ≡ line_words l
words_parted l is = split_join 32 (decimal l.steps) (words_of l.text) (all_lack 32 (omega arith) (line_words l) (line_shown l is))

-- a line at the front is the first part
row_parted : (l : ReportLine) (rest : List ℕ) → IsLine l → split_at 10 (row l ++ rest) ≡ line_bytes l ∷ split_at 10 rest
row_parted l rest is =
    ap (split_at 10) (row_is l rest)
    ∙ split_lacks 10 (line_bytes l) rest (join_lacks 10 32 refl (line_words l) (all_lack 10 (omega arith) (line_words l) (line_shown l is)))

line_whole : (l : ReportLine) → IsLine l → line_of (line_words l) ≡ Some l
unfolding line_of
line_whole l is =
    ap (λ o. o >>= (λ n. text_of (words_of l.text) >>= (λ t. Some (record { steps = n; text = t })))) (number_of_digits l.steps is.steps)
    ∙ ap (λ o. o >>= (λ t. Some (record { steps = l.steps; text = t }))) (text_whole l.text is.text)

same_some : {A : Type 0} (x y : A) → Some x ≡ Some y → x ≡ y
same_some x y e = cc

then_found : {A B : Type 0} (o : Option A) (f : A → Option B) (y : B) → (o >>= f) ≡ Some y → (x : A) × (o ≡ Some x) × (f x ≡ Some y)
then_found None f y e = cc
then_found (Some x) f y e = (x, refl, e)

line_found : (words : List (List ℕ)) (l : ReportLine) → line_of words ≡ Some l → IsLine l × (words ≡ line_words l)
unfolding line_of
line_found [] l e = cc
line_found (w ∷ ws) l e =
    let n = then_found (number_in w) (λ n. text_of ws >>= (λ t. Some (record { steps = n; text = t }))) l e in
    let t = then_found (text_of ws) (λ t. Some (record { steps = n.0; text = t })) l n.2 in
    let d = digits_of_number n.0 w n.1 in
    let f = text_found ws t.0 t.1 in
    subst (λ m. IsLine m × (w ∷ ws ≡ line_words m)) (same_some _ l t.2) (record { steps = d.0; text = f.0 }, λ i. d.1 i ∷ f.1 i)

-- a line that is read is a line, and stands there
read_line : (line : List ℕ) (l : ReportLine) → line_of (split_at 32 line) ≡ Some l → IsLine l × (line ≡ line_bytes l)
read_line line l e =
    let f = line_found (split_at 32 line) l e in
    (f.0, sym (join_with_byte-slice_split 32 line) ∙ ap (join_with_byte 32) f.1)

whole_line : (l : ReportLine) → IsLine l → line_of (split_at 32 (line_bytes l)) ≡ Some l
whole_line l is = ap line_of (words_parted l is) ∙ line_whole l is

-- the lines of what is behind a line
ok_behind : (l : ReportLine) (r : Result (List ReportLine) ℕ) (ls : List ReportLine) → behind (l ∷ []) r ≡ Ok ls → (more : List ReportLine) × (r ≡ Ok more) × (ls ≡ l ∷ more)
ok_behind l (Ok more) ls e = let same : l ∷ more ≡ ls = cc in (more, refl, sym same)
ok_behind l (Err n) ls e = cc

err_behind : (l : ReportLine) (r : Result (List ReportLine) ℕ) (m : ℕ) → behind (l ∷ []) r ≡ Err m → r ≡ Err m
err_behind l (Ok more) m e = cc
err_behind l (Err n) m e = e

not_ended : (ended : Bool) (line : List ℕ) (l : ReportLine) → (if ended then None else line_of (split_at 32 line)) ≡ Some l → (ended ≡ false) × (line_of (split_at 32 line) ≡ Some l)
not_ended true line l e = cc
not_ended false line l e = (refl, e)

joined_row : (line rest : List ℕ) (l : ReportLine) → line ≡ line_bytes l → line ++ (10 ∷ rest) ≡ row l ++ rest
joined_row line rest l is = ap (λ x. x ++ (10 ∷ rest)) is ∙ sym (row_is l rest)

-- what is read are the lines
report_found : (parts : List (List ℕ)) (ended : Bool) (n : ℕ) (ls : List ReportLine) → report_of ended n parts ≡ Ok ls → AreLines ended ls × (join_with_byte 10 parts ≡ flat_map row ls)
unfolding report_of
report_found [] ended n ls e = cc
report_found ([] ∷ []) true n ls e = let same : [] ≡ ls = cc in subst (λ xs. AreLines true xs × ([] ≡ flat_map row xs)) same (refl, refl)
report_found ([] ∷ []) false n ls e = cc
report_found ((b ∷ tail) ∷ []) true n ls e = cc
report_found ((b ∷ tail) ∷ []) false n ls e = cc
report_found (line ∷ next ∷ parts) ended n ls e =
    by (if ended then None else line_of (split_at 32 line)) refl (λ l. report_of (is_end l.text) (suc n) (next ∷ parts)) e (λ l. report_found (next ∷ parts) (is_end l.text) (suc n))
  where
    by : (o : Option ReportLine) → (if ended then None else line_of (split_at 32 line)) ≡ o → (rest : ReportLine → Result (List ReportLine) ℕ) → read_on o n rest ≡ Ok ls
        → ((l : ReportLine) (more : List ReportLine) → rest l ≡ Ok more → AreLines (is_end l.text) more × (join_with_byte 10 (next ∷ parts) ≡ flat_map row more))
        → AreLines ended ls × (line ++ (10 ∷ join_with_byte 10 (next ∷ parts)) ≡ flat_map row ls)
    by None is rest e found = cc
    by (Some l) is rest e found =
        let m = ok_behind l (rest l) ls e in
        let f = found l m.0 m.1 in
        let open_ = not_ended ended line l is in
        let r = read_line line l open_.1 in
        subst (λ xs. AreLines ended xs × (line ++ (10 ∷ join_with_byte 10 (next ∷ parts)) ≡ flat_map row xs)) (sym m.2)
        ((open_.0, r.0, f.0), joined_row line (join_with_byte 10 (next ∷ parts)) l r.1 ∙ ap (λ x. row l ++ x) f.1)

-- a line at the front, and what comes of what stands behind it
at_line : (ended : Bool) (n : ℕ) (l : ReportLine) (rest : List ℕ) → ended ≡ false → IsLine l → report_of ended n (split_at 10 (row l ++ rest)) ≡ behind (l ∷ []) (report_of (is_end l.text) (suc n) (split_at 10 rest))
at_line ended n l rest not_over is =
    ap (report_of ended n) (row_parted l rest is)
    ∙ goes ended n (line_bytes l) (split_at 10 rest) l (some_part 10 rest) (ap (λ e. next_of e (line_bytes l ∷ split_at 10 rest)) not_over ∙ next_first (line_bytes l) rest ∙ whole_line l is)

nothing_left : (ended : Bool) (n : ℕ) → IsTrue ended → report_of ended n ([] ∷ []) ≡ Ok []
unfolding report_of
nothing_left true n over = refl
nothing_left false n over = cc

-- lines are read
report_whole : (ls : List ReportLine) (ended : Bool) (n : ℕ) → AreLines ended ls → report_of ended n (split_at 10 (flat_map row ls)) ≡ Ok ls
report_whole [] ended n are = nothing_left ended n are
report_whole (l ∷ ls) ended n are = at_line ended n l (flat_map row ls) are.0 are.1 ∙ ap (behind (l ∷ [])) (report_whole ls (is_end l.text) (suc n) are.2)

-- where a line stands at the front it is read
front_read : (l : ReportLine) (line bytes behind : List ℕ) (parts : List (List ℕ)) → IsLine l → split_at 10 bytes ≡ line ∷ parts → bytes ≡ row l ++ behind → (line_of (split_at 32 line) ≡ Some l) × (parts ≡ split_at 10 behind)
front_read l line bytes behind parts is parted spelled =
    let two : line ∷ parts ≡ line_bytes l ∷ split_at 10 behind = sym parted ∙ ap (split_at 10) spelled ∙ row_parted l behind is in
    let first : line ≡ line_bytes l = cc in
    let others : parts ≡ split_at 10 behind = cc in
    (ap (λ w. line_of (split_at 32 w)) first ∙ whole_line l is, others)

no_tail : (tail : List ℕ) → Lacks 10 tail → NoLine tail
no_tail tail lacks l behind is spelled =
    let f = front_read l tail tail behind [] is (split_whole 10 tail lacks) spelled in
    let some = some_part 10 behind in
    never (split_at 10 behind) some.0 some.1 f.1 some.2
  where
    never : (parts : List (List ℕ)) (w : List ℕ) (ws : List (List ℕ)) → [] ≡ parts → parts ≡ w ∷ ws → ⊥
    never parts w ws e f = cc

no_line : (line rest : List ℕ) → Lacks 10 line → line_of (split_at 32 line) ≡ None → NoLine (line ++ (10 ∷ rest))
no_line line rest lacks none l behind is spelled =
    let f = front_read l line (line ++ (10 ∷ rest)) behind (split_at 10 rest) is (split_lacks 10 line rest lacks) spelled in
    never (line_of (split_at 32 line)) none f.0
  where
    never : (o : Option ReportLine) → o ≡ None → o ≡ Some l → ⊥
    never o e f = cc

some_left : (line rest : List ℕ) → line ++ (10 ∷ rest) ≢ []
some_left [] rest e = cc
some_left (b ∷ line) rest e = cc

-- what is told is the first line that may not stand
abbrev pub Told : (ended : Bool) → (n : ℕ) → List ℕ → (m : ℕ) → Type 0
Told ended n bytes m = (before : ℕ) × (m ≡ suc (n + before)) × IsRefused ended bytes before

told_first : (ended : Bool) (n m : ℕ) (bytes : List ℕ) → ◌≡◌ {A = Result (List ReportLine) ℕ} (Err (suc n)) (Err m) → IsRefused ended bytes zero → Told ended n bytes m
told_first ended n m bytes e refused = let same : suc n ≡ m = cc in (0, omega (arith, same), refused)

-- behind a line, the first that may not stand is one later
told_later : (ended : Bool) (l : ReportLine) (bytes rest : List ℕ) (k : ℕ) → ended ≡ false → IsLine l → bytes ≡ row l ++ rest → IsRefused (is_end l.text) rest k → IsRefused ended bytes (suc k)
told_later true l bytes rest k over is spelled refused = (l, rest, over, is, spelled, refused)
told_later false l bytes rest k over is spelled refused = (l, rest, over, is, spelled, refused)

refused_line : (ended : Bool) (line rest : List ℕ) → Lacks 10 line → (if ended then None else line_of (split_at 32 line)) ≡ None → IsRefused ended (line ++ (10 ∷ rest)) zero
refused_line true line rest lacks none = some_left line rest
refused_line false line rest lacks none = no_line line rest lacks none

report_told : (parts : List (List ℕ)) (ended : Bool) (n m : ℕ) → AllLack 10 parts → (parts ≡ [] → ⊥) → report_of ended n parts ≡ Err m → Told ended n (join_with_byte 10 parts) m
unfolding report_of
report_told [] ended n m lack some e = absurd (some refl)
report_told ([] ∷ []) true n m lack some e = cc
report_told ([] ∷ []) false n m lack some e = told_first false n m [] e (no_tail [] refl)
report_told ((b ∷ tail) ∷ []) true n m lack some e = told_first true n m (b ∷ tail) e (λ is. never b tail is)
  where
    never : (b : ℕ) (tail : List ℕ) → b ∷ tail ≡ [] → ⊥
    never b tail is = cc
report_told ((b ∷ tail) ∷ []) false n m lack some e = told_first false n m (b ∷ tail) e (no_tail (b ∷ tail) lack.0)
report_told (line ∷ next ∷ parts) ended n m lack some e =
    by (if ended then None else line_of (split_at 32 line)) refl (λ l. report_of (is_end l.text) (suc n) (next ∷ parts)) e (λ l. report_told (next ∷ parts) (is_end l.text) (suc n) m lack.1 (λ is. never is))
  where
    never : next ∷ parts ≡ [] → ⊥
    never is = cc

    by : (o : Option ReportLine) → (if ended then None else line_of (split_at 32 line)) ≡ o → (rest : ReportLine → Result (List ReportLine) ℕ) → read_on o n rest ≡ Err m
        → ((l : ReportLine) → rest l ≡ Err m → Told (is_end l.text) (suc n) (join_with_byte 10 (next ∷ parts)) m)
        → Told ended n (line ++ (10 ∷ join_with_byte 10 (next ∷ parts))) m
    by None is rest e told = told_first ended n m (line ++ (10 ∷ join_with_byte 10 (next ∷ parts))) e (refused_line ended line (join_with_byte 10 (next ∷ parts)) lack.0 is)
    by (Some l) is rest e told =
        let t = told l (err_behind l (rest l) m e) in
        let open_ = not_ended ended line l is in
        let r = read_line line l open_.1 in
        (suc t.0, omega (arith, t.1), told_later ended l (line ++ (10 ∷ join_with_byte 10 (next ∷ parts))) (join_with_byte 10 (next ∷ parts)) t.0 open_.0 r.0 (joined_row line (join_with_byte 10 (next ∷ parts)) l r.1) t.2)

-- where nothing may stand next, nothing is read next
next_stops : (ended : Bool) (bytes : List ℕ) → IsRefused ended bytes zero → next_of ended (split_at 10 bytes) ≡ None
next_stops true bytes refused = ended_none (split_at 10 bytes)
  where
    ended_none : (parts : List (List ℕ)) → next_of true parts ≡ None
    ended_none [] = refl
    ended_none (tail ∷ []) = refl
    ended_none (line ∷ next ∷ parts) = refl
next_stops false bytes refused = by (split_at 10 bytes) refl
  where
    unread : (line next : List ℕ) (parts : List (List ℕ)) → split_at 10 bytes ≡ line ∷ next ∷ parts → (o : Option ReportLine) → line_of (split_at 32 line) ≡ o → o ≡ None
    unread line next parts parted None is = refl
    unread line next parts parted (Some l) is =
        let r = read_line line l is in
        let joined : bytes ≡ line ++ (10 ∷ join_with_byte 10 (next ∷ parts)) = sym (join_with_byte-slice_split 10 bytes) ∙ ap (join_with_byte 10) parted in
        absurd (refused l (join_with_byte 10 (next ∷ parts)) r.0 (joined ∙ joined_row line (join_with_byte 10 (next ∷ parts)) l r.1))

    by : (parts : List (List ℕ)) → split_at 10 bytes ≡ parts → next_of false parts ≡ None
    by [] parted = refl
    by (tail ∷ []) parted = refl
    by (line ∷ next ∷ parts) parted = unread line next parts parted (line_of (split_at 32 line)) refl

nothing_told : (ended : Bool) (n : ℕ) (bytes : List ℕ) → IsRefused ended bytes zero → report_of ended n (split_at 10 bytes) ≡ Err (suc n)
unfolding report_of
nothing_told true n bytes refused = stops true n (split_at 10 bytes) (next_stops true bytes refused) (λ is. refused (only_nothing bytes is))
nothing_told false n bytes refused = by (split_at 10 bytes) (next_stops false bytes refused)
  where
    by : (parts : List (List ℕ)) → next_of false parts ≡ None → report_of false n parts ≡ Err (suc n)
    by [] none = refl
    by (tail ∷ []) none = refl
    by (line ∷ next ∷ parts) none = stops false n (line ∷ next ∷ parts) none (λ is. never line next parts is)
      where
        never : (line next : List ℕ) (parts : List (List ℕ)) → line ∷ next ∷ parts ≡ [] ∷ [] → ⊥
        never line next parts is = cc

-- the first line that may not stand is told
report_refused : (before : ℕ) (ended : Bool) (n : ℕ) (bytes : List ℕ) → IsRefused ended bytes before → report_of ended n (split_at 10 bytes) ≡ Err (suc (n + before))
report_refused zero true n bytes refused = nothing_told true n bytes refused ∙ ap Err (omega arith)
report_refused zero false n bytes refused = nothing_told false n bytes refused ∙ ap Err (omega arith)
report_refused (suc k) true n bytes refused = absurd (never refused.2)
  where
    never : true ≡ false → ⊥
    never e = cc
report_refused (suc k) false n bytes refused =
    ap (λ b. report_of false n (split_at 10 b)) refused.4 ∙ at_line false n refused.0 refused.1 refl refused.3
    ∙ ap (behind (refused.0 ∷ [])) (report_refused k (is_end refused.0.text) (suc n) refused.1 refused.5) ∙ ap Err (omega arith)

-- what the reader of lines answers is what a reader of reports is to answer
pub read_found : (bytes : List ℕ) (ls : List ReportLine) → report_of false 0 (split_at 10 bytes) ≡ Ok ls → IsReport bytes ls
read_found bytes ls e = let f = report_found (split_at 10 bytes) false 0 ls e in record { are = f.0; spelled = sym (join_with_byte-slice_split 10 bytes) ∙ f.1 }

read_whole : (bytes : List ℕ) (ls : List ReportLine) → IsReport bytes ls → report_of false 0 (split_at 10 bytes) ≡ Ok ls
read_whole bytes ls is = ap (λ b. report_of false 0 (split_at 10 b)) is.spelled ∙ report_whole ls false 0 is.are

pub reads_found : (bytes : List ℕ) (result : Result (List ReportLine) ReportError) → Reads (report_of false 0 (split_at 10 bytes)) result → IfOk result (λ ls. IsReport bytes ls)
reads_found bytes (Ok read) reads = read_found bytes read reads
reads_found bytes (Err e) reads = tt

pub reads_only : (bytes : List ℕ) (result : Result (List ReportLine) ReportError) (ls : List ReportLine) → Reads (report_of false 0 (split_at 10 bytes)) result → IsReport bytes ls → ReadsAs ls result
reads_only bytes (Ok read) ls reads is = same (report_of false 0 (split_at 10 bytes)) reads (read_whole bytes ls is)
  where
    same : (r : Result (List ReportLine) ℕ) → r ≡ Ok read → r ≡ Ok ls → read ≡ ls
    same r e f = cc
reads_only bytes (Err (fails.Line n)) ls reads is = never (report_of false 0 (split_at 10 bytes)) reads (read_whole bytes ls is)
  where
    never : (r : Result (List ReportLine) ℕ) → r ≡ Err n → r ≡ Ok ls → ⊥
    never r e f = cc
reads_only bytes (Err fails.NoMemory) ls reads is = tt

told_by : (bytes : List ℕ) (e : ReportError) → Reads (report_of false 0 (split_at 10 bytes)) (Err e) → TellsFirst bytes e
told_by bytes (fails.Line n) reads =
    let some = some_part 10 bytes in
    let t = report_told (split_at 10 bytes) false 0 n (parts_lack 10 bytes) (λ none. never (split_at 10 bytes) some.0 some.1 none some.2) reads in
    (t.0, omega (arith, t.1), subst (λ b. IsRefused false b t.0) (join_with_byte-slice_split 10 bytes) t.2)
  where
    never : (parts : List (List ℕ)) (w : List ℕ) (ws : List (List ℕ)) → parts ≡ [] → parts ≡ w ∷ ws → ⊥
    never parts w ws e f = cc
told_by bytes fails.NoMemory reads = tt

pub reads_told : (bytes : List ℕ) (result : Result (List ReportLine) ReportError) → Reads (report_of false 0 (split_at 10 bytes)) result → IfErr result (λ e. TellsFirst bytes e)
reads_told bytes (Ok read) reads = tt
reads_told bytes (Err e) reads = told_by bytes e reads

from_first : (before : ℕ) → suc (0 + before) ≡ suc before
from_first before = omega arith

pub reads_refused : (bytes : List ℕ) (before : ℕ) (result : Result (List ReportLine) ReportError) → Reads (report_of false 0 (split_at 10 bytes)) result → IsRefused false bytes before → TellsLine (suc before) result
reads_refused bytes before (Ok read) reads refused = never (report_of false 0 (split_at 10 bytes)) reads (report_refused before false 0 bytes refused ∙ ap Err (from_first before))
  where
    never : (r : Result (List ReportLine) ℕ) → r ≡ Ok read → r ≡ Err (suc before) → ⊥
    never r e f = cc
reads_refused bytes before (Err (fails.Line n)) reads refused = same (report_of false 0 (split_at 10 bytes)) reads (report_refused before false 0 bytes refused ∙ ap Err (from_first before))
  where
    same : (r : Result (List ReportLine) ℕ) → r ≡ Err n → r ≡ Err (suc before) → n ≡ suc before
    same r e f = cc
reads_refused bytes before (Err fails.NoMemory) reads refused = tt
