use Rattle.std.proofs.Common.{◌≡◌, drop}
use Rattle.task_check.specs.Faults.{body_faults}
use Rattle.task_check.specs.Table.{around_of}
use Rattle.task_check.proofs.statements.+check_stmts.Given as goal

abbrev pub invariant-check_body-loop-s : goal.invariant-check_body-loop-s
invariant-check_body-loop-s l = body_faults (around_of l.around) l.body ≡ body_faults (around_of l.around) (drop l.s-index l.body)
