-- Boot by boot.
use Rattle.power_runs.proofs.Looks.{journal_due}
use Rattle.power_runs.proofs.laws.the_looks_of_a_journal_are_due.Goals as goal

pub returns : goal.returns
returns c = λ p place_of unmarked rows m. journal_due p place_of unmarked rows 0 m
