-- What is done with what is left is the whole.
use Rattle.std.proofs.Common.{◌≡◌, ◌++◌, drop}
use Rattle.run_plan.specs.PlanOf.{body_acts}
use Rattle.run_plan.specs.Told.{told}
use Rattle.run_plan.proofs.statements.+plan_stmts.Given as goal

abbrev pub invariant-plan_body-statements : goal.invariant-plan_body-statements
invariant-plan_body-statements l = l.acts ++ body_acts (told l.around) (drop l.s-index l.body) ≡ l.initial.acts ++ body_acts (told l.around) l.body
