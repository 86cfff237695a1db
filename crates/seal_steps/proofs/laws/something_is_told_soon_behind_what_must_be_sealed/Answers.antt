-- Of every plan.
use Rattle.seal_steps.proofs.Every.{follows}
use Rattle.seal_steps.proofs.laws.something_is_told_soon_behind_what_must_be_sealed.Goals as goal

pub returns : goal.returns
returns c = λ p place_of placed tells n m pc. follows c.args.c.now c.args.scheme c.requires c.every_plan_is_within_its_formulas.ensures.within.fram place_of tells p placed n m pc
