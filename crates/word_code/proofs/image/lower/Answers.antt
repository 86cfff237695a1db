-- The plan of a well-formed program fits, and has an image.
use Rattle.std.proofs.Common.{subst, sym}
use Rattle.run_plan.specs.declared.parts.Plan.{Plan}
use Rattle.word_code.specs.FitPlan.{IsFitPlan}
use Rattle.word_code.proofs.FitLaws.{plan_fits}
use Rattle.word_code.proofs.ImagePasses.{plan_passes}
use Rattle.word_code.proofs.image.lower.Goals as goal

pub image_of-requires-clause-fit : goal.image_of-requires-clause-fit
image_of-requires-clause-fit c = subst (λ (p : Plan). IsFitPlan p c.args.c.now) (sym c.requires.plan) (plan_fits c.args.c.now c.args.p.now.scheme c.requires.well_formed)

pub image_of-requires-clause-passes : goal.image_of-requires-clause-passes
image_of-requires-clause-passes c =
    plan_passes c.args.c.now c.args.p.now c.requires.well_formed c.requires.plan c.every_plan_is_within_its_formulas.ensures.within c.every_plan_is_within_its_formulas.ensures.limits
