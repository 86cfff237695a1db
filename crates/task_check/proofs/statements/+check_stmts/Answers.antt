use Rattle.std.proofs.lemmas.Result.{err_from_is_err_and}
use Rattle.std.proofs.Common.{refl}
use Rattle.task_check.specs.Table.{around_of}
use Rattle.task_check.proofs.StatementLemmas.{if_faults, block_faults, loop_faults, loop_head}
use Rattle.task_check.proofs.FirstLemmas.{finds_front, finds_behind, finds_same, second_of_three, third_of_three}
use Rattle.task_check.proofs.statements.+check_stmts.Goals as goal

pub check_stmt-returns-in_err-check_body-in-If : goal.check_stmt-returns-in_err-check_body-in-If
check_stmt-returns-in_err-check_body-in-If t c =
    let p = err_from_is_err_and c.from_residual-in_err-check_body-in-If.result c.from_residual-in_err-check_body-in-If.ensures.1 in
    rw (p.1, p.2) (second_of_three _ _ _ _ _ (if_faults (around_of c.args.around.now) _ _ _ _ _ _ c.in-If.is c.as_slice.ensures refl) c.in_ok-check_expr-in-If.ensures.0 c.in_err-check_body-in-If.ensures)

pub check_stmt-returns-in_ok-check_body-in-If : goal.check_stmt-returns-in_ok-check_body-in-If
check_stmt-returns-in_ok-check_body-in-If t c =
    third_of_three _ _ _ _ _ (if_faults (around_of c.args.around.now) _ _ _ _ _ _ c.in-If.is c.as_slice.ensures c.as_slice-in-If.ensures)
    c.in_ok-check_expr-in-If.ensures.0 c.in_ok-check_body-in-If.ensures.0 c.check_body-in-If.ensures

pub check_stmt-returns-in_err-inside-in-For : goal.check_stmt-returns-in_err-inside-in-For
check_stmt-returns-in_err-inside-in-For t c =
    let p = err_from_is_err_and c.from_residual-in_err-inside-in-For.result c.from_residual-in_err-inside-in-For.ensures.1 in
    rw (p.1, p.2) (finds_front _ _ _ _ (loop_head (around_of c.args.around.now) _ _ _ _ _ _ _ _ c.in-For.is c.as_slice-in-For.ensures c.body_has_sites-unrolled.ensures) c.in_err-inside-in-For.ensures)

pub check_stmt-returns-in_ok-inside-in-For : goal.check_stmt-returns-in_ok-inside-in-For
check_stmt-returns-in_ok-inside-in-For t c =
    finds_behind _ _ _ _ (loop_faults (around_of c.args.around.now) _ _ _ _ _ _ _ _ _ _ _ _ c.in-For.is c.as_slice-in-For.ensures c.body_has_sites-unrolled.ensures c.as_slice-in-For-3.ensures
    c.as_slice-in-For-2.ensures c.in_ok-inside-in-For.ensures.1.0 c.in_ok-inside-in-For.ensures.1.1) c.in_ok-inside-in-For.ensures.0 c.check_body-in-For.ensures

pub check_stmt-returns-in-Block : goal.check_stmt-returns-in-Block
check_stmt-returns-in-Block t c = finds_same _ _ _ (block_faults (around_of c.args.around.now) _ _ _ _ _ c.in-Block.is c.as_slice-in-Block.ensures) c.check_body-in-Block.ensures
