-- Of every plan.
use Rattle.plan_laws.proofs.KindLaws.{plan_kinds}
use Rattle.plan_laws.proofs.laws.every_act_is_of_its_task.Goals as goal

pub returns : goal.returns
returns c = plan_kinds c.args.c.now c.args.scheme c.requires
