-- A name that is declared twice, told by its first bearer.
use Rattle.std.specs.Prelude.{ℕ, ◌==◌, List, [], ◌∷◌, Option, None, Some, if◌then◌else◌}
use Rattle.ease_base.specs.declared.place.Pos.{Pos}
use Rattle.task_check.specs.declared.error.CheckError.{CheckError}
use Rattle.task_check.specs.declared.error.CheckError.TheVariants.{TwiceNamed}
use Rattle.task_check.specs.declared.names.Meaning.{Meaning}
use Rattle.task_check.specs.declared.names.Meaning.TheVariants as meaning

-- the name at a place stands for another than the task of this number
abbrev pub other_bearer : Pos → ℕ → Option Meaning → List CheckError
other_bearer at n None = TwiceNamed at ∷ []
other_bearer at n (Some (meaning.Scalar a kind)) = TwiceNamed at ∷ []
other_bearer at n (Some (meaning.Array a kind)) = TwiceNamed at ∷ []
other_bearer at n (Some (meaning.Pointer p)) = TwiceNamed at ∷ []
other_bearer at n (Some (meaning.Peripheral p)) = TwiceNamed at ∷ []
other_bearer at n (Some (meaning.Task t)) = if t == n then [] else TwiceNamed at ∷ []
