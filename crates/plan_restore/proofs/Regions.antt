-- The arrays that regions write first: what a region may write is in one of them, no two share one, and the places of them.
use Rattle.std.proofs.Common.{◌≡◌, ◌∙◌, ◌⊎◌, inl, inr, ℕ, zero, suc, ◌+◌, ◌<◌, ◌≤◌, Bool, true, false, not, ◌||◌, ◌&&◌, ◌==◌, List, [], ◌∷◌, length, map, filter, slice_get, slice_index_or, get_or, refl, sym, ap, subst, arith, eqb-true}
use Rattle.std.specs.List.{AllByRecursion, range_with_len}
use Rattle.std.proofs.lemmas.Bool.{cases_lt, or_cases, or_left, or_right, and_parts, true≢false}
use Rattle.task_ast.specs.declared.core_form.Array.{Array}
use Rattle.task_ast.specs.declared.core_form.CoreTask.{CoreTask}
use Rattle.task_ast.specs.declared.core_form.Core.{Core}
use Rattle.task_ast.specs.CoreSites.{room}
use Rattle.task_ast.specs.Pointing.{pointing}
use Rattle.io_depend.specs.Sets.{has}
use Rattle.io_depend.specs.RangeLaws.{any_cond, has_filter}
use Rattle.region_split.specs.Regions.{Touch, all_touches, writes_in, writes_before, keeps_words, first, regions}
use Rattle.region_split.specs.Owners.{all_first}
use Rattle.walk_run.specs.declared.place.Place.{Place}
use Rattle.walk_run.specs.Store.{place}
use Rattle.run_plan.specs.Words.{places_from, places_of}
use Rattle.plan_restore.proofs.Lists.{all_joined, all_parts, is_itself}

-- the touches of a task
abbrev pub touched : CoreTask → List Touch
touched t = all_touches (pointing t) t.body

-- what passes a filter
pub passes : (f : ℕ → Bool) (xs : List ℕ) (a : ℕ) → has (filter f xs) a ≡ true → f a ≡ true
passes f [] a is = absurd (true≢false (sym is))
passes f (x ∷ xs) a is = by_cases (or_cases (f x && (x == a)) (has (filter f xs) a) (sym (any_cond (λ y. y == a) (f x) x (filter f xs)) ∙ is)) (passes f xs a)
  where
    by_cases : ((f x && (x == a)) ≡ true) ⊎ (has (filter f xs) a ≡ true) → (has (filter f xs) a ≡ true → f a ≡ true) → f a ≡ true
    by_cases (inl h) more = let both = and_parts (f x) (x == a) h in ap f (sym (eqb-true x a both.1)) ∙ both.0
    by_cases (inr h) more = more h

-- what a region writes is written before each later one
before : (ts : List Touch) (r q a : ℕ) → r < q → writes_in ts r a ≡ true → writes_before ts q a ≡ true
before ts r zero a less there = absurd (omega arith)
before ts r (suc q) a less there = by_order (cases_lt r q) (λ h. before ts r q a h there)
  where
    by_order : (r < q) ⊎ (q ≤ r) → (r < q → writes_before ts q a ≡ true) → (writes_before ts q a || writes_in ts q a) ≡ true
    by_order (inl h) more = or_left (writes_before ts q a) (writes_in ts q a) (more h)
    by_order (inr h) more = let same : r ≡ q = omega (arith, less, h) in or_right (writes_before ts q a) (writes_in ts q a) (ap (λ n. writes_in ts n a) (sym same) ∙ there)

-- what is written before a region is written before each later one
pub still_before : (ts : List Touch) (r n a : ℕ) → writes_before ts r a ≡ true → writes_before ts (r + n) a ≡ true
still_before ts r zero a there = let e : r ≡ r + 0 = omega arith in subst (λ k. writes_before ts k a ≡ true) e there
still_before ts r (suc n) a there =
    let e : suc (r + n) ≡ r + suc n = omega arith in
    subst (λ k. writes_before ts k a ≡ true) e (or_left (writes_before ts (r + n) a) (writes_in ts (r + n) a) (still_before ts r n a there))

module _ (c : Core) (t : CoreTask) where
  -- what is known of an array that a region writes first
  pub record IsFirst (r a : ℕ) : Type 0 where
    pub kept : keeps_words (slice_get c.arrays a) ≡ true
    pub here : writes_in (touched t) r a ≡ true
    pub new : writes_before (touched t) r a ≡ false

  not_true : (b : Bool) → not b ≡ true → b ≡ false
  not_true true is = absurd (cc is)
  not_true false is = refl

  pub is_first : (r a : ℕ) → has (first c t r) a ≡ true → IsFirst r a
  is_first r a is =
      let test = passes (λ x. keeps_words (slice_get c.arrays x) && (writes_in (touched t) r x && not (writes_before (touched t) r x))) (range_with_len 0 (length c.arrays)) a is in
      let kept = and_parts (keeps_words (slice_get c.arrays a)) (writes_in (touched t) r a && not (writes_before (touched t) r a)) test in
      let here = and_parts (writes_in (touched t) r a) (not (writes_before (touched t) r a)) kept.1 in
      record { kept = kept.0; here = here.0; new = not_true _ here.1 }

  in_range : (arrays : List Array) (a : ℕ) → keeps_words (slice_get arrays a) ≡ true → a < length arrays
  in_range [] a kept = absurd (cc kept)
  in_range (x ∷ arrays) zero kept = omega arith
  in_range (x ∷ arrays) (suc a) kept = let less = in_range arrays a kept in omega (arith, less)

  both : (x y : Bool) → x ≡ true → y ≡ true → (x && y) ≡ true
  both x y p q = λ i. p i && q i

  pub first_has : (r a : ℕ) → keeps_words (slice_get c.arrays a) ≡ true → writes_in (touched t) r a ≡ true → writes_before (touched t) r a ≡ false → has (first c t r) a ≡ true
  first_has r a kept here new =
      has_filter (λ x. keeps_words (slice_get c.arrays x) && (writes_in (touched t) r x && not (writes_before (touched t) r x))) a 0 (length c.arrays) (omega arith) (let less = in_range c.arrays a kept in omega (arith, less))
      ∙ both _ _ kept (both _ _ here (ap not new))

  -- what may be written before a region is written first by an earlier one
  pub owner : (m a : ℕ) → keeps_words (slice_get c.arrays a) ≡ true → writes_before (touched t) m a ≡ true → (q : ℕ) × (q < m) × (has (first c t q) a ≡ true)
  owner zero a kept there = absurd (cc there)
  owner (suc m) a kept there = by_before (writes_before (touched t) m a) refl there (owner m a kept)
    where
      by_before : (b : Bool) → writes_before (touched t) m a ≡ b → (b || writes_in (touched t) m a) ≡ true → (writes_before (touched t) m a ≡ true → (q : ℕ) × (q < m) × (has (first c t q) a ≡ true))
          → (q : ℕ) × (q < suc m) × (has (first c t q) a ≡ true)
      by_before true is h more = let below = more is in (below.0, (let less = below.1 in omega (arith, less)), below.2)
      by_before false is h more = (m, omega arith, first_has m a kept h is)

  -- no array is in two of them
  pub one_region : (q r a : ℕ) → has (first c t q) a ≡ true → has (first c t r) a ≡ true → q ≡ r
  one_region q r a one two = by_order (cases_lt q r) (cases_lt r q)
    where
      by_order : (q < r) ⊎ (r ≤ q) → (r < q) ⊎ (q ≤ r) → q ≡ r
      by_order (inl h) k = absurd (true≢false (sym (before (touched t) q r a h (is_first q a one).here) ∙ (is_first r a two).new))
      by_order (inr h) (inl k) = absurd (true≢false (sym (before (touched t) r q a k (is_first r a two).here) ∙ (is_first q a one).new))
      by_order (inr h) (inr k) = omega (arith, h, k)

  -- ---- by their list

  at_index : (f : ℕ → List ℕ) (m n r : ℕ) → r < n → get_or (map f (range_with_len m n)) r [] ≡ f (m + r)
  at_index f m zero r less = absurd (omega arith)
  at_index f m (suc n) zero less = let e : m ≡ m + 0 = omega arith in ap f e
  at_index f m (suc n) (suc r) less = let e : m + 1 + r ≡ m + suc r = omega arith in at_index f (m + 1) n r (omega arith) ∙ ap f e

  behind_all : (f : ℕ → List ℕ) (m n r : ℕ) → n ≤ r → get_or (map f (range_with_len m n)) r [] ≡ []
  behind_all f m zero r more = refl
  behind_all f m (suc n) zero more = absurd (omega arith)
  behind_all f m (suc n) (suc r) more = behind_all f (m + 1) n r (omega arith)

  pub at_region : (r : ℕ) → r < regions t → slice_index_or (all_first c t) r [] ≡ first c t r
  at_region r less = at_index (first c t) 0 (regions t) r less ∙ (let e : 0 + r ≡ r = omega arith in ap (first c t) e)

  pub no_region : (r : ℕ) → regions t ≤ r → slice_index_or (all_first c t) r [] ≡ []
  no_region r more = behind_all (first c t) 0 (regions t) r more

  ranged : (f : ℕ → List ℕ) (m n : ℕ) → length (map f (range_with_len m n)) ≡ n
  ranged f m zero = refl
  ranged f m (suc n) = ap suc (ranged f (m + 1) n)

  pub firsts_long : length (all_first c t) ≡ regions t
  firsts_long = ranged (first c t) 0 (regions t)

-- ---- places

from_all : (P : Place → Type 0) (a i n : ℕ) → ((j : ℕ) → i ≤ j → j < i + n → P (place a j)) → AllByRecursion P (places_from a i n)
from_all P a i zero each = tt
from_all P a i (suc n) each = (each i (omega arith) (omega arith), from_all P a (i + 1) n (λ j low high. each j (omega (arith, low)) (omega (arith, high))))

-- what holds of each place of some arrays holds of all their places
pub places_all : (c : Core) (P : Place → Type 0) (arrays : List ℕ) → ((at : Place) → has arrays at.array ≡ true → at.index < room (slice_get c.arrays at.array) → P at) → AllByRecursion P (places_of c arrays)
places_all c P [] each = tt
places_all c P (a ∷ arrays) each =
    all_joined P (places_from a 0 (room (slice_get c.arrays a))) (places_of c arrays)
    (from_all P a 0 (room (slice_get c.arrays a)) (λ j low high. each (place a j) (or_left (a == a) (has arrays a) (is_itself a)) (omega (arith, high))))
    (places_all c P arrays (λ at there inside. each at (or_right (a == at.array) (has arrays at.array) there) inside))

all_from : (P : Place → Type 0) (a i n : ℕ) → AllByRecursion P (places_from a i n) → (j : ℕ) → i ≤ j → j < i + n → P (place a j)
all_from P a i zero all j low high = absurd (omega (arith, low, high))
all_from P a i (suc n) all j low high = by_order (cases_lt i j) (λ h. all_from P a (i + 1) n all.1 j (omega (arith, h)) (omega (arith, high)))
  where
    by_order : (i < j) ⊎ (j ≤ i) → (i < j → P (place a j)) → P (place a j)
    by_order (inl h) more = more h
    by_order (inr h) more = let e : i ≡ j = omega (arith, h, low) in subst (λ k. P (place a k)) e all.0

-- what holds of all places of some arrays holds of each
pub all_places : (c : Core) (P : Place → Type 0) (arrays : List ℕ) → AllByRecursion P (places_of c arrays) → (at : Place) → has arrays at.array ≡ true → at.index < room (slice_get c.arrays at.array) → P at
all_places c P [] all at there inside = absurd (cc there)
all_places c P (a ∷ arrays) all at there inside = by_test (a == at.array) refl (λ h. all_places c P arrays (all_parts P (places_from a 0 (room (slice_get c.arrays a))) (places_of c arrays) all).1 at h inside)
  where
    parts : AllByRecursion P (places_from a 0 (room (slice_get c.arrays a))) × AllByRecursion P (places_of c arrays)
    parts = all_parts P (places_from a 0 (room (slice_get c.arrays a))) (places_of c arrays) all

    by_test : (b : Bool) → (a == at.array) ≡ b → (has arrays at.array ≡ true → P at) → P at
    by_test true is more =
        let same : a ≡ at.array = eqb-true a at.array is in
        let less : at.index < room (slice_get c.arrays a) = subst (λ n. at.index < room (slice_get c.arrays n)) (sym same) inside in
        subst (λ n. P (place n at.index)) same (all_from P a 0 (room (slice_get c.arrays a)) parts.0 at.index (omega arith) (omega (arith, less)))
    by_test false is more = more (sym (ap (λ b. b || has arrays at.array) is) ∙ there)
