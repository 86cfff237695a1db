-- What stands at which place of a list.
use Rattle.std.specs.Prelude.{◌≡◌, ℕ, ◌<◌, suc, Bool, false, ◌||◌, List, [], ◌∷◌, Option, Some, None, if◌then◌else◌}
use Rattle.std.specs.List.{slice_get}
use Rattle.std.specs.Option.{option_map, is_some}

-- x stands at this place, counted from 0
abbrev pub IsAt : {A : Type 0} → List A → ℕ → A → Type 0
IsAt xs place x = slice_get xs place ≡ Some x

-- one and the same element stands at two places
abbrev pub StandsTwice : {A : Type 0} → List A → Type 0
StandsTwice {A} xs = (i : ℕ) × (j : ℕ) × (x : A) × (i < j) × IsAt xs i x × IsAt xs j x

-- the first place of an element, by a test for the same
unfoldable pub place_of : {A : Type 0} → (A → A → Bool) → A → List A → Option ℕ
place_of same x [] = None
place_of same x (y ∷ ys) = if same y x then Some 0 else option_map suc (place_of same x ys)

-- whether an element stands again behind itself
unfoldable pub repeats : {A : Type 0} → (A → A → Bool) → List A → Bool
repeats same [] = false
repeats same (x ∷ xs) = is_some (place_of same x xs) || repeats same xs
