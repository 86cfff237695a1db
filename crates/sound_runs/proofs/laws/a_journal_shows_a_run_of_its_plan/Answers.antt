-- Boot by boot.
use Rattle.sound_runs.proofs.Shown.{journal_shows}
use Rattle.sound_runs.proofs.laws.a_journal_shows_a_run_of_its_plan.Goals as goal

pub returns : goal.returns
returns c = λ p place_of unmarked x rows m s h. journal_shows p place_of unmarked x rows m s h
