use Rattle.std.proofs.Common.{◌≡◌, sum_by, take}
use Rattle.task_check.specs.Capped.{capped}
use Rattle.task_check.specs.Nodes.{nodes_of_expr}
use Rattle.task_check.proofs.nodes.count_exprs.Given as goal

abbrev pub invariant-loop-e : goal.invariant-loop-e
invariant-loop-e l = l.total ≡ capped (sum_by nodes_of_expr (take l.e-index l.es))
