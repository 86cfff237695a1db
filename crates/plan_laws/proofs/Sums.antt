-- Sums over lists, and over ranges of a list's places.
use Rattle.std.proofs.Common.{◌≡◌, ℕ, suc, ◌+◌, ◌≤◌, Bool, true, false, cond, List, [], ◌∷◌, length, filter, Option, Some, slice_get, sum_by, refl, sym, ap, ◌∙◌, arith}
use Rattle.std.specs.List.{range_with_len}
use Rattle.std.proofs.lemmas.List.Sums.{sum_by-cons, sum_by-append}
use Rattle.io_depend.specs.RangeLaws.{range_more}

-- smaller summands
pub sum_less : {X : Type 0} (f g : X → ℕ) (xs : List X) → ((x : X) → f x ≤ g x) → sum_by f xs ≤ sum_by g xs
sum_less f g [] less = omega arith
sum_less f g (x ∷ xs) less = omega (arith, sum_by-cons f x xs, sum_by-cons g x xs, less x, sum_less f g xs less)

-- two sums that are at most a third
pub sums_less : {X : Type 0} (f g h : X → ℕ) (xs : List X) → ((x : X) → f x + g x ≤ h x) → sum_by f xs + sum_by g xs ≤ sum_by h xs
sums_less f g h [] less = omega arith
sums_less f g h (x ∷ xs) less = omega (arith, sum_by-cons f x xs, sum_by-cons g x xs, sum_by-cons h x xs, less x, sums_less f g h xs less)

-- a filtered sum
one_of : {X : Type 0} (f : X → ℕ) (b : Bool) (x : X) (xs : List X) (n : ℕ) → sum_by f xs ≡ n → sum_by f (cond b (x ∷ xs) xs) ≡ cond b (f x) 0 + n
one_of f true x xs n is = sum_by-cons f x xs ∙ ap (λ m. f x + m) is
one_of f false x xs n is = let e : n ≡ 0 + n = omega arith in is ∙ e

pub filter_sum : {X : Type 0} (f : X → ℕ) (p : X → Bool) (xs : List X) → sum_by f (filter p xs) ≡ sum_by (λ x. cond (p x) (f x) 0) xs
filter_sum f p [] = refl
filter_sum f p (x ∷ xs) = one_of f (p x) x (filter p xs) _ (filter_sum f p xs) ∙ sym (sum_by-cons (λ x. cond (p x) (f x) 0) x xs)

-- a sum over the places of a list is one over its items
pub places_sum : {X : Type 0} (g : Option X → ℕ) (h : ℕ → ℕ) (m : ℕ) (xs : List X) → ((i : ℕ) → h (m + i) ≡ g (slice_get xs i)) → sum_by h (range_with_len m (length xs)) ≡ sum_by (λ x. g (Some x)) xs
places_sum g h m [] at = refl
places_sum g h m (x ∷ xs) at =
    let here : m ≡ m + 0 = omega arith in
    let behind = places_sum g h (m + 1) xs (λ i. let e : m + 1 + i ≡ m + suc i = omega arith in ap h e ∙ at (suc i)) in
    sum_by-cons h m (range_with_len (m + 1) (length xs)) ∙ (λ j. (ap h here ∙ at 0) j + behind j) ∙ sym (sum_by-cons (λ x. g (Some x)) x xs)

-- one place more
pub sum_more : (f : ℕ → ℕ) (m n : ℕ) → sum_by f (range_with_len m (n + 1)) ≡ sum_by f (range_with_len m n) + f (m + n)
sum_more f m n =
    let last : sum_by f ((m + n) ∷ []) ≡ f (m + n) = sum_by-cons f (m + n) [] ∙ (let e : f (m + n) + 0 ≡ f (m + n) = omega arith in e) in
    ap (sum_by f) (range_more m n) ∙ sum_by-append f (range_with_len m n) ((m + n) ∷ []) ∙ ap (λ k. sum_by f (range_with_len m n) + k) last

-- a filtered list is no longer
one_longer : {X : Type 0} (b : Bool) (x : X) (xs : List X) (n : ℕ) → length xs ≤ n → length (cond b (x ∷ xs) xs) ≤ suc n
one_longer true x xs n few = omega (arith, few)
one_longer false x xs n few = omega (arith, few)

pub filter_few : {X : Type 0} (p : X → Bool) (xs : List X) → length (filter p xs) ≤ length xs
filter_few p [] = omega arith
filter_few p (x ∷ xs) = one_longer (p x) x (filter p xs) (length xs) (filter_few p xs)
