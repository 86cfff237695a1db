-- A choice of exits.
use Rattle.run_plan.proofs.PlanLemmas.{choose_made}
use Rattle.run_plan.proofs.statements.+plan_exit.Goals as goal

pub returns-in_ok-when_no-in-Choose : goal.returns-in_ok-when_no-in-Choose
returns-in_ok-when_no-in-Choose t c =
    choose_made _ _ _ _ _ _ _ _ _ _ _ c.in-Choose.is c.get.ensures c.get-in-Choose.ensures c.in_ok-c-in-Choose.ensures c.in_ok-first-in-Choose.ensures c.in_ok-when_yes-in-Choose.ensures
    c.in_ok-second-in-Choose.ensures c.in_ok-when_no-in-Choose.ensures
