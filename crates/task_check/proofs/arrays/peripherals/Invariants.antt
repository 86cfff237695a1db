use Rattle.std.proofs.Common.{◌≡◌, take, drop}
use Rattle.std.specs.List.{AllByRecursion, flat_map}
use Rattle.task_check.specs.CheckedForm.{core_peripherals}
use Rattle.task_check.specs.Limits.{IsByte}
use Rattle.task_check.specs.Refusals.{decl_number}
use Rattle.task_check.proofs.arrays.peripherals.Given as goal

abbrev pub invariant-loop-d : goal.invariant-loop-d
invariant-loop-d l = record {
  done : l.done ≡ flat_map core_peripherals (take l.d-index l.decls);
  left : AllByRecursion IsByte (flat_map decl_number (drop l.d-index l.decls));
}
