-- Of every plan.
use Rattle.word_code.proofs.WithinLaws.{plan_within}
use Rattle.word_code.proofs.laws.every_plan_is_within_its_formulas.Goals as goal

pub returns-clause-within : goal.returns-clause-within
returns-clause-within c = plan_within c.args.c.now c.args.scheme c.requires c.every_act_is_of_its_task.ensures
