-- Laws of filtered ranges: what is in them, and how they go on.
use Rattle.std.proofs.Common.{◌≡◌, ◌∙◌, ◌⊎◌, ℕ, zero, suc, ◌+◌, ◌<◌, ◌≤◌, Bool, true, false, ◌||◌, ◌&&◌, ◌==◌, cond, List, [], ◌∷◌, ◌++◌, filter, refl, sym, ap, arith}
use Rattle.std.specs.List.{AllByRecursion, list_any, range_with_len}
use Rattle.std.proofs.lemmas.Bool.{cases_eq, cases_lt, eq-eqb, ne_eqb}
use mathlib.Core.Logic.{⊎_elim}
use Rattle.io_depend.specs.Sets.{has}
use Rattle.io_depend.specs.Laws.{Ascends}

or_none : (a : Bool) → (a || false) ≡ a
or_none true = refl
or_none false = refl

and_none : (a : Bool) → (a && false) ≡ false
and_none true = refl
and_none false = refl

and_all : (a : Bool) → (a && true) ≡ a
and_all true = refl
and_all false = refl

-- one number more
pub any_cond : (f : ℕ → Bool) (t : Bool) (a : ℕ) (xs : List ℕ) → list_any f (cond t (a ∷ xs) xs) ≡ ((t && f a) || list_any f xs)
any_cond f true a xs = refl
any_cond f false a xs = refl

-- whether a number of a range is among the filtered ones
pub has_past : (f : ℕ → Bool) (k m n : ℕ) → k < m → has (filter f (range_with_len m n)) k ≡ false
has_past f k m zero past = refl
has_past f k m (suc n) past =
    any_cond (λ y. y == k) (f m) m (filter f (range_with_len (m + 1) n))
    ∙ (λ i. (f m && ne_eqb m k (λ e. absurd (omega (arith, e))) i) || has_past f k (m + 1) n (omega arith) i)
    ∙ or_none (f m && false) ∙ and_none (f m)

pub has_filter : (f : ℕ → Bool) (k m n : ℕ) → m ≤ k → k < m + n → has (filter f (range_with_len m n)) k ≡ f k
has_filter f k m zero low high = absurd (omega arith)
has_filter f k m (suc n) low high =
    any_cond (λ y. y == k) (f m) m (filter f (range_with_len (m + 1) n))
    ∙ here (cases_eq m k) (λ e. has_past f k (m + 1) n (omega (arith, e))) (λ apart. has_filter f k (m + 1) n (above apart) (omega arith))
  where
    above : (m ≡ k → ⊥) → m + 1 ≤ k
    above apart = ⊎_elim (λ h. omega (arith, h)) (λ h. absurd (apart (omega (arith, low, h)))) (cases_lt m k)

    here : (m ≡ k) ⊎ (m ≡ k → ⊥) → (m ≡ k → has (filter f (range_with_len (m + 1) n)) k ≡ false) → ((m ≡ k → ⊥) → has (filter f (range_with_len (m + 1) n)) k ≡ f k)
        → ((f m && (m == k)) || has (filter f (range_with_len (m + 1) n)) k) ≡ f k
    here cases past later = ⊎_elim
        (λ e. (λ i. (f m && eq-eqb m k e i) || past e i) ∙ or_none (f m && true) ∙ and_all (f m) ∙ ap f e)
        (λ apart. (λ i. (f m && ne_eqb m k apart i) || later apart i) ∙ ap (λ t. t || f k) (and_none (f m))) cases

-- filters by tests that agree in a range
one_test : (t u : Bool) (m : ℕ) (xs ys : List ℕ) → t ≡ u → xs ≡ ys → cond t (m ∷ xs) xs ≡ cond u (m ∷ ys) ys
one_test t u m xs ys test rest = λ i. cond (test i) (m ∷ rest i) (rest i)

pub same_filter : (f g : ℕ → Bool) (m n : ℕ) → ((a : ℕ) → a < m + n → f a ≡ g a) → filter f (range_with_len m n) ≡ filter g (range_with_len m n)
same_filter f g m zero same = refl
same_filter f g m (suc n) same = one_test (f m) (g m) m _ _ (same m (omega arith)) (same_filter f g (m + 1) n (λ a l. same a (omega arith)))

-- one number more of a range
pub range_more : (m n : ℕ) → range_with_len m (n + 1) ≡ range_with_len m n ++ (m + n) ∷ []
range_more m zero = let at : m ≡ m + 0 = omega arith in ap (λ k. k ∷ []) at
range_more m (suc n) =
    let next : suc n + 1 ≡ suc (n + 1) = omega arith in
    let at : m + 1 + n ≡ m + suc n = omega arith in
    ap (range_with_len m) next ∙ ap (λ xs. m ∷ xs) (range_more (m + 1) n ∙ ap (λ k. range_with_len (m + 1) n ++ k ∷ []) at)

-- numbers from one on are more than a number before it
all_above : (a m : ℕ) (xs : List ℕ) → a < m → AllByRecursion (λ x. m ≤ x) xs → AllByRecursion (λ x. a < x) xs
all_above a m [] low all = tt
all_above a m (x ∷ xs) low all = (omega (arith, low, all.0), all_above a m xs low all.1)

all_later : (m : ℕ) (xs : List ℕ) → AllByRecursion (λ x. m + 1 ≤ x) xs → AllByRecursion (λ x. m ≤ x) xs
all_later m [] all = tt
all_later m (x ∷ xs) all = (omega (arith, all.0), all_later m xs all.1)

filter_from : (f : ℕ → Bool) (m n : ℕ) → AllByRecursion (λ x. m ≤ x) (filter f (range_with_len m n))
filter_from f m zero = tt
filter_from f m (suc n) = here (f m) _ (all_later m _ (filter_from f (m + 1) n))
  where
    here : (t : Bool) (xs : List ℕ) → AllByRecursion (λ x. m ≤ x) xs → AllByRecursion (λ x. m ≤ x) (cond t (m ∷ xs) xs)
    here true xs all = (omega arith, all)
    here false xs all = all

-- a filtered range ascends
pub filter_ascends : (f : ℕ → Bool) (m n : ℕ) → Ascends (filter f (range_with_len m n))
filter_ascends f m zero = tt
filter_ascends f m (suc n) = here (f m) _ (all_above m (m + 1) _ (omega arith) (filter_from f (m + 1) n)) (filter_ascends f (m + 1) n)
  where
    here : (t : Bool) (xs : List ℕ) → AllByRecursion (λ x. m < x) xs → Ascends xs → Ascends (cond t (m ∷ xs) xs)
    here true xs all rest = (all, rest)
    here false xs all rest = rest
