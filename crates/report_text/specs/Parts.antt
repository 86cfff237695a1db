-- A text parted at each of one byte, its parts one by one, and a text of parts.
use Rattle.std.specs.Prelude.{ℕ, ◌==◌, List, [], ◌∷◌, Option, Some, None}
use Rattle.std.specs.Borrow.{Bor}
use Rattle.std.specs.List.{slice_split}

-- the parts of a text between the places of a byte
abbrev pub split_at : (at : ℕ) → List ℕ → List (List ℕ)
split_at at text = slice_split (λ b. b == at) text

-- the parts behind the first
abbrev pub rest_of : (at : ℕ) → Option (Bor (List ℕ)) → List (List ℕ)
rest_of at None = []
rest_of at (Some rest) = split_at at rest.now

-- the only part
abbrev pub only_part : List (List ℕ) → Option (List ℕ)
only_part [] = None
only_part (w ∷ []) = Some w
only_part (w ∷ v ∷ words) = None
