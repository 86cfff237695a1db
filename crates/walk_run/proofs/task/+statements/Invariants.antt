-- The statements that are left give what all give.
use Rattle.std.proofs.Common.{◌≡◌, drop}
use Rattle.walk_run.specs.Outcome.{body_outcome}
use Rattle.walk_run.proofs.task.+statements.Given as goal

abbrev pub invariant-run_body-statements : goal.invariant-run_body-statements
invariant-run_body-statements l = body_outcome (drop l.statement-index l.body) l.live l.readings ≡ body_outcome l.body l.initial.live l.initial.readings
