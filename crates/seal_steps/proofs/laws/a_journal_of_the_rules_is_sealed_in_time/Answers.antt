-- Of every plan.
use Rattle.seal_steps.proofs.Every.{sealed}
use Rattle.seal_steps.proofs.laws.a_journal_of_the_rules_is_sealed_in_time.Goals as goal

pub returns : goal.returns
returns c = λ p place_of placed tells rules same rows m pc legal. sealed c.args.c.now c.args.scheme c.requires c.every_plan_is_within_its_formulas.ensures.within.fram place_of tells p placed rules same rows m pc legal
