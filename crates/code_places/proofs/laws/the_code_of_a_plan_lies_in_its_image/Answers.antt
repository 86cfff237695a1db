-- Of every plan.
use Rattle.code_places.proofs.Placing.{placed}
use Rattle.code_places.proofs.laws.the_code_of_a_plan_lies_in_its_image.Goals as goal

pub returns : goal.returns
returns c = λ values. placed c.args.c.now c.args.scheme c.requires c.every_plan_is_within_its_formulas.ensures.within c.every_plan_is_within_its_formulas.ensures.limits values
