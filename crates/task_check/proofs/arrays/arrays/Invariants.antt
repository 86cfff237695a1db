use Rattle.std.proofs.Common.{◌≡◌, take}
use Rattle.std.specs.List.{flat_map}
use Rattle.task_check.specs.CheckedForm.{core_arrays}
use Rattle.task_check.proofs.arrays.arrays.Given as goal

abbrev pub invariant-loop-d : goal.invariant-loop-d
invariant-loop-d l = l.done ≡ flat_map core_arrays (take l.d-index l.decls)
