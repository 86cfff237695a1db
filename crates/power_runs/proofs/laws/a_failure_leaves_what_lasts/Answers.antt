-- FRAM stays, and of the state what is volatile is lost.
use Rattle.power_runs.proofs.Failing.{failing}
use Rattle.power_runs.proofs.laws.a_failure_leaves_what_lasts.Goals as goal

pub returns : goal.returns
returns c = λ p rules scheme well. failing c.same_fram_keeps_cells.ensures p rules scheme well
