-- An `if` with sites, and a block, by their bodies.
use Rattle.run_plan.specs.Told.{told}
use Rattle.run_plan.proofs.PlanLemmas.{on_ok, if_made, block_made}
use Rattle.run_plan.proofs.statements.+plan_stmts.Goals as goal

pub plan_stmt-returns-in_ok-plan_body-in-If-2 : goal.plan_stmt-returns-in_ok-plan_body-in-If-2
plan_stmt-returns-in_ok-plan_body-in-If-2 t c =
    on_ok c.push-in-If.result (λ made. if_made (told c.args.around.now) c.args.s.now _ _ _ _ _ _ _ _ _ _ _ _ _ c.in-If.is c.has_sites.ensures c.if-not-has_sites.false c.as_slice.ensures c.as_slice-in-If.ensures
    c.in_ok-c-in-If.ensures c.new-when_yes.ensures c.in_ok-plan_body-in-If.ensures c.new-when_no.ensures c.in_ok-plan_body-in-If-2.ensures made) c.push-in-If.ensures.ok

pub plan_stmt-returns-in_ok-plan_body-in-Block : goal.plan_stmt-returns-in_ok-plan_body-in-Block
plan_stmt-returns-in_ok-plan_body-in-Block t c =
    on_ok c.end_block.result (λ made. block_made (told c.args.around.now) c.args.s.now _ _ _ _ _ _ _ _ c.in-Block.is c.as_slice-in-Block.ensures c.in_ok-push-in-Block.ensures.ok c.in_ok-push-in-Block-2.ensures.ok
    c.in_ok-plan_body-in-Block.ensures made) c.end_block.ensures
