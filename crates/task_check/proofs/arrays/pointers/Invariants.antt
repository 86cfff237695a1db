use Rattle.std.proofs.Common.{◌≡◌, take}
use Rattle.std.specs.List.{flat_map}
use Rattle.task_check.specs.CheckedForm.{core_pointers}
use Rattle.task_check.proofs.arrays.pointers.Given as goal

abbrev pub invariant-loop-d : goal.invariant-loop-d
invariant-loop-d l = l.done ≡ flat_map core_pointers (take l.d-index l.decls)
