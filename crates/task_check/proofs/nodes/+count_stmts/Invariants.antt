use Rattle.std.proofs.Common.{◌≡◌, sum_by, take}
use Rattle.task_check.specs.Capped.{capped}
use Rattle.task_check.specs.Nodes.{nodes_of_stmt}
use Rattle.task_check.proofs.nodes.+count_stmts.Given as goal

abbrev pub invariant-count_body-loop-s : goal.invariant-count_body-loop-s
invariant-count_body-loop-s l = l.total ≡ capped (sum_by nodes_of_stmt (take l.s-index l.body))
