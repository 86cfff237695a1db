-- The first item of a list that fails a test which knows the items before it.
use Rattle.std.specs.Prelude.{ℕ, suc, Bool, List, [], ◌∷◌, ◌++◌, Option, Some, None, if◌then◌else◌}
use Rattle.std.specs.Option.{option_map}

-- the place of the first item, from 0, that fails behind these earlier ones
unfoldable pub first_failing : {A : Type 0} → (List A → A → Bool) → List A → List A → Option ℕ
first_failing test earlier [] = None
first_failing test earlier (x ∷ xs) = if test earlier x then option_map suc (first_failing test (earlier ++ x ∷ []) xs) else Some 0
