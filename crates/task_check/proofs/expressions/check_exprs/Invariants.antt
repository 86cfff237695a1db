use Rattle.std.proofs.Common.{◌≡◌, drop}
use Rattle.std.specs.List.{flat_map}
use Rattle.task_check.specs.Faults.{expr_faults}
use Rattle.task_check.specs.Table.{meanings}
use Rattle.task_check.proofs.expressions.check_exprs.Given as goal

abbrev pub invariant-loop-e : goal.invariant-loop-e
invariant-loop-e l = flat_map (expr_faults (meanings l.names)) l.es ≡ flat_map (expr_faults (meanings l.names)) (drop l.e-index l.es)
