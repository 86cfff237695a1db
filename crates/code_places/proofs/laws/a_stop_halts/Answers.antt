-- Of every plan.
use Rattle.code_places.proofs.Placing.{halts}
use Rattle.code_places.proofs.laws.a_stop_halts.Goals as goal

pub returns : goal.returns
returns c = λ values e running shows. halts c.args.c.now c.args.scheme c.requires c.every_plan_is_within_its_formulas.ensures.within c.every_plan_is_within_its_formulas.ensures.limits values e running shows
