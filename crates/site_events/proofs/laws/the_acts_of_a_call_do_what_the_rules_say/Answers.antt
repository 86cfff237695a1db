-- Of the plan's run.
use Rattle.plan_restore.specs.Kept.{planned}
use Rattle.site_events.proofs.SiteProofs.{calls_do}
use Rattle.site_events.proofs.laws.the_acts_of_a_call_do_what_the_rules_say.Goals as goal

pub returns : goal.returns
returns c = calls_do (planned c.args.c.now c.args.world.now c.args.scheme)
