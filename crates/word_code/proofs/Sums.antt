-- Sums over ranges.
use Rattle.std.specs.Prelude.{◌≡◌, ℕ, zero, suc, ◌+◌, ◌-◌, ◌*◌, ◌≤◌, ◌<◌, Bool, true, false, nat_lt, cond, List, [], ◌∷◌, length, filter, sum_by, refl}
use Rattle.std.specs.List.{range_with_len}
use Rattle.std.proofs.Common.{ap, sym, ◌∙◌, arith}
use Rattle.std.proofs.lemmas.Bool.{ltb-true, ltb-false}
use Rattle.std.proofs.lemmas.List.Sums.{sum_by-cons}

-- a number more in each summand
pub sum_and : (f : ℕ → ℕ) (n : ℕ) (xs : List ℕ) → sum_by (λ x. f x + n) xs ≡ sum_by f xs + n * length xs
sum_and f n [] = omega arith
sum_and f n (x ∷ xs) =
    let more : n * suc (length xs) ≡ n + n * length xs = omega arith in
    omega (arith, sum_by-cons (λ x. f x + n) x xs, sum_by-cons f x xs, sum_and f n xs, more)

pub sum_smaller : {X : Type 0} (f g : X → ℕ) (xs : List X) → ((x : X) → f x ≤ g x) → sum_by f xs ≤ sum_by g xs
sum_smaller f g [] less = omega arith
sum_smaller f g (x ∷ xs) less = omega (arith, sum_by-cons f x xs, sum_by-cons g x xs, less x, sum_smaller f g xs less)

-- three sums in one
pub sum_of_three : (n : ℕ) (f g : ℕ → ℕ) (xs : List ℕ) → sum_by (λ x. n + 2 * f x + g x) xs ≡ n * length xs + 2 * sum_by f xs + sum_by g xs
sum_of_three n f g [] = omega arith
sum_of_three n f g (x ∷ xs) =
    let more : n * suc (length xs) ≡ n + n * length xs = omega arith in
    omega (arith, sum_by-cons (λ x. n + 2 * f x + g x) x xs, sum_by-cons f x xs, sum_by-cons g x xs, sum_of_three n f g xs, more)

-- only the numbers below a bound count
below : (b : Bool) (f : ℕ → ℕ) (m n r : ℕ) → nat_lt m r ≡ b → sum_by (λ x. cond (nat_lt x r) (f x) 0) (range_with_len (m + 1) n) ≤ sum_by f (range_with_len (m + 1) (r - (m + 1)))
    → cond b (f m) 0 + sum_by (λ x. cond (nat_lt x r) (f x) 0) (range_with_len (m + 1) n) ≤ sum_by f (range_with_len m (r - m))
below true f m n r is rest =
    let low : m < r = ltb-true m r is in
    let more : r - m ≡ suc (r - (m + 1)) = omega (arith, low) in
    omega (arith, ap (λ k. sum_by f (range_with_len m k)) more, sum_by-cons f m (range_with_len (m + 1) (r - (m + 1))), rest)
below false f m n r is rest =
    let high : r ≤ m = ltb-false m r is in
    let none : r - m ≡ 0 = omega (arith, high) in
    let last : r - (m + 1) ≡ 0 = omega (arith, high) in
    omega (arith, ap (λ k. sum_by f (range_with_len m k)) none, ap (λ k. sum_by f (range_with_len (m + 1) k)) last, rest)

pub sum_below : (f : ℕ → ℕ) (m n r : ℕ) → sum_by (λ x. cond (nat_lt x r) (f x) 0) (range_with_len m n) ≤ sum_by f (range_with_len m (r - m))
sum_below f m zero r = omega arith
sum_below f m (suc n) r =
    omega (arith, sum_by-cons (λ x. cond (nat_lt x r) (f x) 0) m (range_with_len (m + 1) n), below (nat_lt m r) f m n r refl (sum_below f (m + 1) n r))

-- a filtered sum
one_of : {X : Type 0} (f : X → ℕ) (b : Bool) (x : X) (xs : List X) (n : ℕ) → sum_by f xs ≡ n → sum_by f (cond b (x ∷ xs) xs) ≡ cond b (f x) 0 + n
one_of f true x xs n is = sum_by-cons f x xs ∙ ap (λ m. f x + m) is
one_of f false x xs n is =
    let e : n ≡ 0 + n = omega arith in
    is ∙ e

pub filter_sum : {X : Type 0} (f : X → ℕ) (p : X → Bool) (xs : List X) → sum_by f (filter p xs) ≡ sum_by (λ x. cond (p x) (f x) 0) xs
filter_sum f p [] = refl
filter_sum f p (x ∷ xs) = one_of f (p x) x (filter p xs) _ (filter_sum f p xs) ∙ sym (sum_by-cons (λ x. cond (p x) (f x) 0) x xs)
