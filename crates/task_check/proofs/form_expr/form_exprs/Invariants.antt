use Rattle.std.proofs.Common.{◌≡◌, map, take}
use Rattle.task_check.specs.CheckedForm.{core_expr}
use Rattle.task_check.specs.Table.{meanings}
use Rattle.task_check.proofs.form_expr.form_exprs.Given as goal

abbrev pub invariant-loop-e : goal.invariant-loop-e
invariant-loop-e l = l.forms ≡ map (core_expr (meanings l.names)) (take l.e-index l.es)
