-- Boot by boot, from every run of the plan.
use Rattle.timely_events.proofs.InTime.{journal_in_time}
use Rattle.timely_events.proofs.laws.each_event_comes_within_its_steps.Goals as goal

pub returns : goal.returns
returns c = journal_in_time c.args.c.now c.args.world.now c.args.scheme c.every_run_of_a_plan_is_sound.ensures
