-- Of every plan.
use Rattle.plan_laws.proofs.OrderLaws.{plan_ordered}
use Rattle.plan_laws.proofs.laws.acts_stand_in_order.Goals as goal

pub returns : goal.returns
returns c = plan_ordered c.args.c.now c.args.scheme c.requires
