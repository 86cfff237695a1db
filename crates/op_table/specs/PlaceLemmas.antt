-- The first place of an element, and elements that stand twice.
use Rattle.std.specs.Prelude.{◌≡◌, ◌↔◌, ℕ, ◌+◌, ◌<◌, Bool, true, false, not, cond, nat_lt, ◌||◌, List, [], ◌∷◌, Option, Some, None, length, refl, map, zero, suc, IfSome}
use Rattle.std.proofs.Common.{sym, ◌∙◌, ap, subst, inl, inr, arith}
use Rattle.std.specs.Bool.{Decides}
use Rattle.std.specs.List.{slice_get, position, position_or_len}
use Rattle.std.specs.Option.{option_map, is_some}
use Rattle.std.proofs.lemmas.Bool.{cases_order}
use Rattle.std.proofs.lemmas.Bool.Decides.{nat_tests}
use Rattle.std.proofs.lemmas.Option.{slice_get_within}
use Rattle.op_table.specs.Places.{IsAt, StandsTwice, place_of, repeats}

-- a test that decides whether two elements are the same
abbrev pub DecidesSame : {A : Type 0} → (A → A → Bool) → Type 0
DecidesSame {A} same = (x y : A) → Decides (same x y) (x ≡ y)

-- std's first place, one element after another
position_step : (met : Bool) (n l : ℕ) → cond (nat_lt (cond (not met) (1 + n) 0) (suc l)) (Some (cond (not met) (1 + n) 0)) None ≡ cond met (Some 0) (option_map suc (cond (nat_lt n l) (Some n) None))
position_step true n l = grind (arith, nat_tests)
position_step false n l = grind (arith, nat_tests)

position_more : {A : Type 0} (p : A → Bool) (y : A) (ys : List A) → position p (y ∷ ys) ≡ cond (p y) (Some 0) (option_map suc (position p ys))
position_more p y ys = position_step (p y) (position_or_len p ys) (length ys)

pub position-map : {R B A : Type 0} (same : A → A → Bool) (f : R → B) (g : B → A) (x : A) (rows : List R) → position (λ row. same (g (f row)) x) rows ≡ place_of same x (map g (map f rows))
unfolding place_of
position-map same f g x [] = refl
position-map same f g x (row ∷ rows) =
    position_more (λ r. same (g (f r)) x) row rows ∙ ap (λ o. cond (same (g (f row)) x) (Some 0) (option_map suc o)) (position-map same f g x rows)

-- what is found at the first element or behind it
found_first : {A : Type 0} (x y : A) (ys : List A) (i : ℕ) (met : Bool) (behind : Option ℕ) → (met ≡ true → y ≡ x) → ((k : ℕ) → behind ≡ Some k → slice_get ys k ≡ Some x) → cond met (Some 0) (option_map suc behind) ≡ Some i → slice_get (y ∷ ys) i ≡ Some x
found_first x y ys i true behind told rest e = let at : 0 ≡ i = cc in subst (λ (n : ℕ). slice_get (y ∷ ys) n ≡ Some x) at (ap Some (told refl))
found_first x y ys i false None told rest e = cc
found_first x y ys i false (Some k) told rest e = let at : suc k ≡ i = cc in subst (λ (n : ℕ). slice_get (y ∷ ys) n ≡ Some x) at (rest k refl)

-- the element stands at its first place
pub place_found : {A : Type 0} (same : A → A → Bool) → DecidesSame same → (x : A) (xs : List A) (i : ℕ) → place_of same x xs ≡ Some i → slice_get xs i ≡ Some x
unfolding place_of
place_found same decides x [] i e = cc
place_found same decides x (y ∷ ys) i e =
    found_first x y ys i (same y x) (place_of same x ys) (decides y x).0 (λ k. place_found same decides x ys k) e

some_behind : (met : Bool) (behind : Option ℕ) → is_some behind ≡ true → is_some (cond met (Some 0) (option_map suc behind)) ≡ true
some_behind true behind e = refl
some_behind false None e = cc
some_behind false (Some k) e = refl

-- an element that stands somewhere has a first place
pub placed : {A : Type 0} (same : A → A → Bool) → DecidesSame same → (x : A) (xs : List A) (i : ℕ) → slice_get xs i ≡ Some x → is_some (place_of same x xs) ≡ true
unfolding place_of
placed same decides x [] i e = cc
placed same decides x (y ∷ ys) zero e = let met : y ≡ x = cc in rw ((decides y x).1 met)
placed same decides x (y ∷ ys) (suc i) e = some_behind (same y x) (place_of same x ys) (placed same decides x ys i e)

-- in a list where none stands twice, an element has one place
one_place : {A : Type 0} (x : A) (xs : List A) (i j : ℕ) → (StandsTwice xs → ⊥) → slice_get xs i ≡ Some x → slice_get xs j ≡ Some x → i ≡ j
one_place x xs i j clear at_i at_j = elim (cases_order i j) [
  | inl same ↦ same
  | inr (inl less) ↦ absurd (clear (i, j, x, less, at_i, at_j))
  | inr (inr more) ↦ absurd (clear (j, i, x, more, at_j, at_i))
]

found_once : {A : Type 0} (x : A) (xs : List A) (i : ℕ) (place : Option ℕ) → (StandsTwice xs → ⊥) → ((k : ℕ) → place ≡ Some k → slice_get xs k ≡ Some x) → is_some place ≡ true → slice_get xs i ≡ Some x → place ≡ Some i
found_once x xs i None clear told some at = cc
found_once x xs i (Some k) clear told some at = ap Some (one_place x xs k i clear (told k refl) at)

-- a place is answered exactly where the element stands
pub found_exactly : {A : Type 0} (same : A → A → Bool) → DecidesSame same → (x : A) (xs : List A) (place : Option ℕ) → (StandsTwice xs → ⊥) → place ≡ place_of same x xs → (i : ℕ) → (place ≡ Some i) ↔ IsAt xs i x
found_exactly same decides x xs place clear is i = (
  λ e. place_found same decides x xs i (sym is ∙ e),
  λ at. is ∙ found_once x xs i (place_of same x xs) clear (place_found same decides x xs) (placed same decides x xs i at) at,
)

none_found : {A : Type 0} (x : A) (xs : List A) (place : Option ℕ) → ((k : ℕ) → place ≡ Some k → slice_get xs k ≡ Some x) → ((i : ℕ) → IsAt xs i x → ⊥) → place ≡ None
none_found x xs None told nowhere = refl
none_found x xs (Some k) told nowhere = absurd (nowhere k (told k refl))

none_at : (place : Option ℕ) → place ≡ None → is_some place ≡ true → ⊥
none_at None e some = cc
none_at (Some k) e some = cc

-- None is answered exactly where the element stands nowhere
pub missed_exactly : {A : Type 0} (same : A → A → Bool) → DecidesSame same → (x : A) (xs : List A) (place : Option ℕ) → place ≡ place_of same x xs → (place ≡ None) ↔ ((i : ℕ) → IsAt xs i x → ⊥)
missed_exactly same decides x xs place is = (
  λ e i at. none_at (place_of same x xs) (sym is ∙ e) (placed same decides x xs i at),
  λ nowhere. is ∙ none_found x xs (place_of same x xs) (place_found same decides x xs) nowhere,
)

some_place : {A : Type 0} (x : A) (xs : List A) (place : Option ℕ) → ((k : ℕ) → place ≡ Some k → slice_get xs k ≡ Some x) → is_some place ≡ true → (k : ℕ) × IsAt xs k x
some_place x xs None told some = cc
some_place x xs (Some k) told some = (k, told k refl)

twice_more : {A : Type 0} (x : A) (xs : List A) → StandsTwice xs → StandsTwice (x ∷ xs)
twice_more x xs twice = (suc twice.0, suc twice.1, twice.2, omega (arith, twice.3), twice.4, twice.5)

twice_first : {A : Type 0} (x : A) (xs : List A) → (k : ℕ) × IsAt xs k x → StandsTwice (x ∷ xs)
twice_first x xs again = (0, suc again.0, x, omega arith, refl, again.1)

twice_either : {A : Type 0} (x : A) (xs : List A) (again behind : Bool) → (again ≡ true → (k : ℕ) × IsAt xs k x) → (behind ≡ true → StandsTwice xs) → (again || behind) ≡ true → StandsTwice (x ∷ xs)
twice_either x xs true behind first rest e = twice_first x xs (first refl)
twice_either x xs false true first rest e = twice_more x xs (rest refl)
twice_either x xs false false first rest e = cc

-- the test finds only what stands twice
pub repeats_found : {A : Type 0} (same : A → A → Bool) → DecidesSame same → (xs : List A) → repeats same xs ≡ true → StandsTwice xs
unfolding repeats
repeats_found same decides [] e = cc
repeats_found same decides (x ∷ xs) e =
    twice_either x xs (is_some (place_of same x xs)) (repeats same xs) (λ some. some_place x xs (place_of same x xs) (place_found same decides x xs) some) (λ again. repeats_found same decides xs again) e

or_left : (a b : Bool) → a ≡ true → (a || b) ≡ true
or_left true b e = refl
or_left false b e = cc

or_right : (a b : Bool) → b ≡ true → (a || b) ≡ true
or_right true b e = refl
or_right false b e = e

-- and finds it wherever it stands
pub repeats_all : {A : Type 0} (same : A → A → Bool) → DecidesSame same → (xs : List A) (i j : ℕ) (x : A) → i < j → slice_get xs i ≡ Some x → slice_get xs j ≡ Some x → repeats same xs ≡ true
unfolding repeats
repeats_all same decides [] i j x less at_i at_j = cc
repeats_all same decides (y ∷ ys) i zero x less at_i at_j = absurd (omega arith)
repeats_all same decides (y ∷ ys) zero (suc j) x less at_i at_j =
    let is : x ≡ y = cc in
    or_left (is_some (place_of same y ys)) (repeats same ys) (placed same decides y ys j (at_j ∙ ap Some is))
repeats_all same decides (y ∷ ys) (suc i) (suc j) x less at_i at_j =
    or_right (is_some (place_of same y ys)) (repeats same ys) (repeats_all same decides ys i j x (omega arith) at_i at_j)

-- the test decides whether an element stands twice
pub repeats-Decides : {A : Type 0} (same : A → A → Bool) → DecidesSame same → (xs : List A) → Decides (repeats same xs) (StandsTwice xs)
repeats-Decides same decides xs = (repeats_found same decides xs, λ twice. repeats_all same decides xs twice.0 twice.1 twice.2 twice.3 twice.4 twice.5)

-- one step of the test
pub repeats_more : {A : Type 0} (same : A → A → Bool) (x : A) (xs : List A) → repeats same (x ∷ xs) ≡ (is_some (place_of same x xs) || repeats same xs)
unfolding repeats
repeats_more same x xs = refl

pub repeats_end : {A : Type 0} (same : A → A → Bool) → repeats same [] ≡ false
unfolding repeats
repeats_end same = refl

-- a place is one of the list
pub place_within : {A : Type 0} (same : A → A → Bool) → DecidesSame same → (x : A) (xs : List A) (place : Option ℕ) → place ≡ place_of same x xs → IfSome place (λ i. i < length xs)
place_within same decides x xs None is = tt
place_within same decides x xs (Some i) is = slice_get_within xs i x (place_found same decides x xs i (sym is))
