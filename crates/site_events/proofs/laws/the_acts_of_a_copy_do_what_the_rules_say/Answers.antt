-- Of the plan's run.
use Rattle.plan_restore.specs.Kept.{planned}
use Rattle.site_events.proofs.SiteProofs.{copies_do}
use Rattle.site_events.proofs.laws.the_acts_of_a_copy_do_what_the_rules_say.Goals as goal

pub returns : goal.returns
returns c = copies_do (planned c.args.c.now c.args.world.now c.args.scheme)
