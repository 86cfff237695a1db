-- The longest of some arrays.
use Rattle.std.proofs.Common.{◌≡◌, ℕ, List, [], ◌∷◌, arith}
use Rattle.std.specs.Prelude.{slice_get}
use Rattle.task_ast.specs.declared.core_form.Array.{Array}
use Rattle.task_ast.specs.CoreSites.{longest, room}

-- of one array it is that one
pub longest_one : (arrays : List Array) (a : ℕ) → longest arrays (a ∷ []) ≡ room (slice_get arrays a)
longest_one arrays a = omega arith
