-- Two regions write no array first, both of them.
use Rattle.std.proofs.Common.{◌≡◌, ◌∙◌, ◌⊎◌, ℕ, zero, suc, ◌+◌, ◌<◌, Bool, true, false, not, ◌||◌, ◌&&◌, ◌==◌, cond, List, [], ◌∷◌, length, filter, slice_get, refl, sym, ap, arith}
use Rattle.std.specs.List.{range_with_len}
use Rattle.std.proofs.lemmas.Bool.{cases_eq, cases_lt, eqb-true, ne_eqb, or_cases, or_left, or_right, and_parts, true≢false}
use mathlib.Core.Logic.{⊎_elim}
use Rattle.task_ast.specs.declared.core_form.CoreTask.{CoreTask}
use Rattle.task_ast.specs.declared.core_form.Core.{Core}
use Rattle.task_ast.specs.Pointing.{pointing}
use Rattle.io_depend.specs.Sets.{has}
use Rattle.io_depend.specs.RangeLaws.{any_cond}
use Rattle.region_split.specs.Regions.{Touch, all_touches, writes_in, writes_before, keeps_words, first}

-- what passes a filter, and what doesn't
passes : (f : ℕ → Bool) (xs : List ℕ) (a : ℕ) → has (filter f xs) a ≡ true → f a ≡ true
passes f [] a is = absurd (true≢false (sym is))
passes f (x ∷ xs) a is = ⊎_elim
    (λ h. let both = and_parts (f x) (x == a) h in ap f (sym (eqb-true x a both.1)) ∙ both.0)
    (λ h. passes f xs a h)
    (or_cases (f x && (x == a)) (has (filter f xs) a) (sym (any_cond (λ y. y == a) (f x) x (filter f xs)) ∙ is))

never : (t : Bool) → (t && false) ≡ false
never true = refl
never false = refl

stopped : (f : ℕ → Bool) (xs : List ℕ) (a : ℕ) → f a ≡ false → has (filter f xs) a ≡ false
stopped f [] a is = refl
stopped f (x ∷ xs) a is =
    any_cond (λ y. y == a) (f x) x (filter f xs) ∙ ap (λ t. (f x && (x == a)) || t) (stopped f xs a is)
    ∙ ap (λ t. t || false) (⊎_elim (λ e. ap (λ t. t && (x == a)) (ap f e ∙ is)) (λ apart. ap (λ t. f x && t) (ne_eqb x a apart) ∙ never (f x)) (cases_eq x a))

-- what a region writes is written before each later one
before : (ts : List Touch) (r q a : ℕ) → r < q → writes_in ts r a ≡ true → writes_before ts q a ≡ true
before ts r zero a less there = absurd (omega arith)
before ts r (suc q) a less there = ⊎_elim
    (λ h. or_left (writes_before ts q a) (writes_in ts q a) (before ts r q a h there))
    (λ h. let same : r ≡ q = omega (arith, less, h) in or_right (writes_before ts q a) (writes_in ts q a) (ap (λ n. writes_in ts n a) (sym same) ∙ there))
    (cases_lt r q)

pub apart : (c : Core) (t : CoreTask) (r q a : ℕ) → r < q → has (first c t r) a ≡ true → has (first c t q) a ≡ false
apart c t r q a less is =
    let ts = all_touches (pointing t) t.body in
    let test = passes (λ x. keeps_words (slice_get c.arrays x) && (writes_in ts r x && not (writes_before ts r x))) (range_with_len 0 (length c.arrays)) a is in
    let kept = and_parts (keeps_words (slice_get c.arrays a)) (writes_in ts r a && not (writes_before ts r a)) test in
    let here = and_parts (writes_in ts r a) (not (writes_before ts r a)) kept.1 in
    stopped (λ x. keeps_words (slice_get c.arrays x) && (writes_in ts q x && not (writes_before ts q x))) (range_with_len 0 (length c.arrays)) a
    (ap (λ b. keeps_words (slice_get c.arrays a) && (writes_in ts q a && not b)) (before ts r q a less here.0)
    ∙ ap (λ b. keeps_words (slice_get c.arrays a) && b) (never (writes_in ts q a)) ∙ never (keeps_words (slice_get c.arrays a)))
