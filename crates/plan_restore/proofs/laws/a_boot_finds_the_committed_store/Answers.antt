-- Of every plan.
use Rattle.plan_restore.proofs.Boots.{plan_keeps}
use Rattle.plan_restore.proofs.laws.a_boot_finds_the_committed_store.Goals as goal

pub returns : goal.returns
returns c = plan_keeps c.args.c.now c.args.world.now c.args.scheme c.requires
