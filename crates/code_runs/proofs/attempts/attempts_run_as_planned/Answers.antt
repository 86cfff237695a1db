-- By the number of attempts that are left.
use Rattle.code_runs.proofs.InStubs.{attempts_lead}
use Rattle.code_runs.proofs.attempts.attempts_run_as_planned.Goals as goal

pub returns : goal.returns
returns c = λ p place_of x number task stubs most. attempts_lead p place_of x number task stubs most
