-- As the plan's run does that it shows.
use Rattle.sound_runs.proofs.Whole.{sound_on}
use Rattle.sound_runs.proofs.laws.a_journal_keeps_what_the_rules_say.Goals as goal

pub returns : goal.returns
returns c = λ p place_of unmarked rows m h. sound_on c.args.c.now c.args.world.now c.args.scheme p place_of unmarked c.every_run_of_a_plan_is_sound.ensures rows m h
