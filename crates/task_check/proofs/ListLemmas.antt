-- Lists that a loop has come through as far as a place.
use Rattle.std.proofs.Common.{◌≡◌, ℕ, zero, suc, ◌+◌, ◌<◌, ◌≤◌, refl, List, [], ◌∷◌, ◌++◌, length, take, drop, get_or, sum_by, map, sym, ap, ◌∙◌, arith, drop-cons}
use Rattle.std.proofs.lemmas.List.{take_more, map-append}
use Rattle.std.proofs.lemmas.List.Sums.{sum_by_push}

module _ {X : Type 0} (xs : List X) (i : ℕ) (x : X) (within : i < length xs) (is : x ≡ get_or xs i x) where
  -- what is left begins with the item at the place
  pub rest_is : drop i xs ≡ x ∷ drop (i + 1) xs
  rest_is = let e : suc i ≡ i + 1 = omega arith in drop-cons xs i x within ∙ (λ j. sym is j ∷ drop (e j) xs)

  -- the front with one more
  pub front_is : take (i + 1) xs ≡ take i xs ++ x ∷ []
  front_is = take_more xs i x within ∙ (λ j. take i xs ++ sym is j ∷ [])

  -- one more item in a sum
  pub sum_more : (f : X → ℕ) (sum new : ℕ) → sum ≡ sum_by f (take i xs) → new ≡ sum + f x → new ≡ sum_by f (take (i + 1) xs)
  sum_more f sum new at_sum at_new = at_new ∙ ap (λ (n : ℕ). n + f x) at_sum ∙ sym (ap (sum_by f) front_is ∙ sum_by_push f (take i xs) x)

-- past the last item nothing is left
pub drop_past : {X : Type 0} (xs : List X) (i : ℕ) → length xs ≤ i → drop i xs ≡ []
drop_past [] zero h = refl
drop_past [] (suc i) h = refl
drop_past (x ∷ xs) zero h = absurd (omega (arith, h))
drop_past (x ∷ xs) (suc i) h = drop_past xs i (omega (arith, h))

-- one more item in what a list is mapped to
pub map_more : {X Y : Type 0} (xs : List X) (i : ℕ) (x : X) → i < length xs → x ≡ get_or xs i x → (f : X → Y) (done new : List Y) (y : Y) → done ≡ map f (take i xs) → new ≡ done ++ y ∷ [] → y ≡ f x → new ≡ map f (take (i + 1) xs)
map_more xs i x within is f done new y at_done at_new at_y =
    at_new ∙ (λ j. at_done j ++ at_y j ∷ []) ∙ sym (map-append f (take i xs) (x ∷ [])) ∙ ap (map f) (sym (front_is xs i x within is))
