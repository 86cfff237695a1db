-- An `if` by its condition, a block by its body, and a body by its first statement.
use Rattle.std.proofs.Common.{◌∙◌, sym}
use Rattle.std.proofs.lemmas.Result.{err_from_is_err_and}
use Rattle.walk_run.proofs.Runs.{run_holds, run_fails, run_block, body_step}
use Rattle.walk_run.proofs.task.+statements.Goals as goal

pub run_statement-returns-then-word-ne0 : goal.run_statement-returns-then-word-ne0
run_statement-returns-then-word-ne0 t c =
    run_holds _ _ _ _ _ _ _ _ _ c.in-If.is (sym c.value.ensures ∙ c.in_ok-word-in-If.was) c.if-word-ne0.true c.as_slice.ensures c.run_body.ensures

pub run_statement-returns-else-word-ne0 : goal.run_statement-returns-else-word-ne0
run_statement-returns-else-word-ne0 t c =
    run_fails _ _ _ _ _ _ _ _ _ c.in-If.is (sym c.value.ensures ∙ c.in_ok-word-in-If.was) c.if-word-ne0.false c.as_slice-else-word-ne0.ensures c.run_body-else-word-ne0.ensures

pub run_statement-returns-in-Block : goal.run_statement-returns-in-Block
run_statement-returns-in-Block t c = run_block _ _ _ _ _ _ _ c.in-Block.is c.as_slice-in-Block.ensures c.run_body-in-Block.ensures

pub run_body-returns-in_err-run_statement : goal.run_body-returns-in_err-run_statement
run_body-returns-in_err-run_statement t c =
    let exit = c.from_residual in
    let p = err_from_is_err_and exit.result exit.ensures.1 in
    rw (p.1, p.2)
    (sym (body_step c.args.body.now c.statements.statement-index _ _ _ _ _ _ _ _ c.statements-test.true c.statement-item.is c.run_statement.ensures c.in_err-run_statement.was)
    ∙ c.statements.invariant)

pub run_body-statements-preserved : goal.run_body-statements-preserved
run_body-statements-preserved t c =
    sym (body_step c.args.body.now c.statements.statement-index _ _ _ _ _ _ _ _ c.statements-test.true c.statement-item.is c.run_statement.ensures c.in_ok-run_statement.was)
    ∙ c.statements.invariant
