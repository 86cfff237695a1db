-- Words and marks of lines that pass and fit their fields pass the tests of an image.
use Rattle.std.specs.Prelude.{◌≡◌, ℕ, zero, suc, ◌+◌, ◌-◌, ◌<◌, ◌≤◌, Bool, true, false, ◌&&◌, cond, List, [], ◌∷◌, ◌++◌, length, slice_get, Option, Some, None, refl}
use Rattle.std.specs.List.{AllByRecursion, position_from}
use Rattle.std.specs.Option.{is_none, option_map}
use Rattle.std.proofs.Common.{ap, ◌∙◌, arith}
use Rattle.std.proofs.lemmas.Bool.Decides.{nat_tests}
use Rattle.std.proofs.lemmas.Iterator.Adapters.{position_from-zero}
use Rattle.word_isa.specs.declared.instr.Instr.{Instr}
use Rattle.word_isa.specs.declared.mark.Mark.{Mark}
use Rattle.word_isa.specs.Checks.{first_bad_word}
use Rattle.word_isa.specs.Decoding.{decoded}
use Rattle.word_isa.specs.FirstFailing.{first_failing}
use Rattle.word_isa.specs.Instructions.{encoded, FitsFields}
use Rattle.word_isa.specs.Marks.{may_stand, may_stand_at, stands_at, is_above, site_passes, task_passes, mark_passes, first_bad_mark}
use Rattle.word_isa.specs.RowLaws.{row_decoded}
use Rattle.line_code.specs.declared.line.Line.{Line}
use Rattle.line_code.specs.declared.line.Sign.{Sign}
use Rattle.word_code.specs.CodeOf.{words_of, mark_of, marks_of}
use Rattle.word_code.specs.Passing.{is_placed, MayStand, AllPass, AllFit}

read_back : (i : Instr) → FitsFields i → decoded (encoded i) ≡ Some i
read_back i fits = row_decoded (encoded i) i (fits, refl)

-- ---- words

none_found : (n : ℕ) (lines : List Line) → AllFit lines → position_from (λ word. is_none (decoded word)) n (words_of lines) ≡ None
none_found n [] fit = refl
none_found n (l ∷ lines) fit =
    ap (λ (o : Option Instr). cond (is_none o) (Some n) (position_from (λ word. is_none (decoded word)) (n + 1) (words_of lines))) (read_back l.instr fit.0) ∙ none_found (n + 1) lines fit.1

pub words_pass : (lines : List Line) → AllFit lines → first_bad_word (words_of lines) ≡ None
unfolding first_bad_word
words_pass lines fit = position_from-zero (λ word. is_none (decoded word)) (words_of lines) ∙ none_found 0 lines fit

-- ---- marks

both_true : (p q : Bool) → (p && q) ≡ true → (p ≡ true) × (q ≡ true)
both_true true q e = (refl, e)
both_true false q e = cc

four_true : (p q r s : Bool) → p ≡ true → q ≡ true → r ≡ true → s ≡ true → (p && q && r && s) ≡ true
four_true p q r s one two three four = rw (one, two, three, four) refl

-- the word of the line at a place
word_at : (before : List Line) (l : Line) (rest : List Line) → slice_get (words_of (before ++ l ∷ rest)) (length before) ≡ Some (encoded l.instr)
word_at [] l rest = refl
word_at (b ∷ before) l rest = word_at before l rest

-- marks lie below the line that follows
abbrev LiesBelow : ℕ → Mark → Type 0
LiesBelow n m = m.at < n

below_joined : (n : ℕ) (xs ys : List Mark) → AllByRecursion (LiesBelow n) xs → AllByRecursion (LiesBelow n) ys → AllByRecursion (LiesBelow n) (xs ++ ys)
below_joined n [] ys one two = two
below_joined n (x ∷ xs) ys one two = (one.0, below_joined n xs ys one.1 two)

below_more : (n m : ℕ) (xs : List Mark) → n ≤ m → AllByRecursion (LiesBelow n) xs → AllByRecursion (LiesBelow m) xs
below_more n m [] more all = tt
below_more n m (x ∷ xs) more all = (omega (arith, more, all.0), below_more n m xs more all.1)

one_below : (n : ℕ) (s : Option Sign) → AllByRecursion (LiesBelow (n + 1)) (mark_of n s)
one_below n None = tt
one_below n (Some s) = (omega arith, tt)

above_all : (n k : ℕ) (xs : List Mark) (m : Mark) → m.at ≡ n → AllByRecursion (LiesBelow n) xs → is_above (slice_get xs k) m ≡ true
above_all n zero [] m is all = refl
above_all n (suc k) [] m is all = refl
above_all n zero (x ∷ xs) m is all =
    let lower : x.at < m.at = omega (arith, is, all.0) in
    grind (arith, nat_tests)
above_all n (suc k) (x ∷ xs) m is all = above_all n k xs m is all.1

-- of a marked line
mark_good : (code : List ℕ) (earlier : List Mark) (n : ℕ) (s : Sign) (i : Instr) → slice_get code n ≡ Some (encoded i) → FitsFields i → is_placed s i ≡ true → AllByRecursion (LiesBelow n) earlier
    → mark_passes 2 code earlier (record { at = n; kind = s.kind; site = s.site; task = s.task }) ≡ true
unfolding mark_passes
mark_good code earlier n s i there fits placed lower =
    let front = both_true (may_stand s.kind i && site_passes s.kind s.site) (task_passes 2 s.kind s.site s.task) placed in
    let parts = both_true (may_stand s.kind i) (site_passes s.kind s.site) front.0 in
    let stands : stands_at s.kind (slice_get code n) ≡ true = ap (stands_at s.kind) there ∙ ap (may_stand_at s.kind) (read_back i fits) ∙ parts.0 in
    four_true (stands_at s.kind (slice_get code n)) (is_above (slice_get earlier (length earlier - 1)) (record { at = n; kind = s.kind; site = s.site; task = s.task }))
    (site_passes s.kind s.site) (task_passes 2 s.kind s.site s.task) stands (above_all n (length earlier - 1) earlier _ refl lower) parts.1 front.1

pub one_passes : {A : Type 0} (test : List A → A → Bool) (earlier : List A) (x : A) (xs : List A) → test earlier x ≡ true → first_failing test (earlier ++ x ∷ []) xs ≡ None → first_failing test earlier (x ∷ xs) ≡ None
unfolding first_failing
one_passes test earlier x xs here rest = (λ i. cond (here i) (option_map suc (first_failing test (earlier ++ x ∷ []) xs)) (Some 0)) ∙ ap (option_map suc) rest

pub no_more : {A : Type 0} (test : List A → A → Bool) (earlier : List A) → first_failing test earlier [] ≡ None
unfolding first_failing
no_more test earlier = refl

-- with the marks of the lines before
module _ (code : List ℕ) where
  marks_from : (behind : List Line) (at : ℕ) (earlier : List Mark) → ((k : ℕ) → slice_get code (at + k) ≡ slice_get (words_of behind) k) → AllFit behind → AllPass behind → AllByRecursion (LiesBelow at) earlier
      → first_failing (mark_passes 2 code) earlier (marks_of at behind) ≡ None
  marks_from [] at earlier there fit pass lower = no_more (mark_passes 2 code) earlier
  marks_from (l ∷ rest) at earlier there fit pass lower =
      by_sign l.sign pass.0.1 (λ earlier' lower'. marks_from rest (at + 1) earlier' (λ k. next k) fit.1 pass.1 lower')
    where
      next : (k : ℕ) → slice_get code (at + 1 + k) ≡ slice_get (words_of rest) k
      next k =
          let same : at + 1 + k ≡ at + suc k = omega arith in
          ap (slice_get code) same ∙ there (suc k)

      by_sign : (s : Option Sign) → MayStand s l.instr
          → ((earlier' : List Mark) → AllByRecursion (LiesBelow (at + 1)) earlier' → first_failing (mark_passes 2 code) earlier' (marks_of (at + 1) rest) ≡ None)
          → first_failing (mark_passes 2 code) earlier (mark_of at s ++ marks_of (at + 1) rest) ≡ None
      by_sign None placed further = further earlier (below_more at (at + 1) earlier (omega arith) lower)
      by_sign (Some s) placed further =
          let here : at ≡ at + 0 = omega arith in
          let word : slice_get code at ≡ Some (encoded l.instr) = ap (slice_get code) here ∙ there 0 in
          let m : Mark = record { at = at; kind = s.kind; site = s.site; task = s.task } in
          let lies : m.at < at + 1 = omega arith in
          one_passes (mark_passes 2 code) earlier m (marks_of (at + 1) rest) (mark_good code earlier at s l.instr word fit.0 placed lower)
          (further (earlier ++ m ∷ []) (below_joined (at + 1) earlier (m ∷ []) (below_more at (at + 1) earlier (omega arith) lower) (lies, tt)))

pub marks_pass : (lines : List Line) → AllFit lines → AllPass lines → first_bad_mark 2 (words_of lines) (marks_of 0 lines) ≡ None
marks_pass lines fit pass = marks_from (words_of lines) lines 0 [] (λ k. let same : 0 + k ≡ k = omega arith in ap (slice_get (words_of lines)) same) fit pass tt
