use Rattle.task_check.proofs.NodeLemmas.{counts_if, counts_for, counts_block}
use Rattle.task_check.proofs.nodes.+count_stmts.Goals as goal

pub count_stmt-returns-in-If : goal.count_stmt-returns-in-If
count_stmt-returns-in-If t c =
    counts_if _ _ _ _ _ _ _ _ _ _ c.in-If.is c.as_slice.ensures c.as_slice-in-If.ensures c.count_expr-c.ensures c.count_body-first.ensures c.count_body.ensures c.count_parts.ensures

pub count_stmt-returns-in-For : goal.count_stmt-returns-in-For
count_stmt-returns-in-For t c =
    counts_for _ _ _ _ _ _ _ _ _ _ _ c.in-For.is c.as_slice-in-For.ensures c.body_has_sites-unrolled.ensures c.as_slice-in-For-2.ensures c.count_body-in-For.ensures c.count_loop.ensures

pub count_stmt-returns-in-Block : goal.count_stmt-returns-in-Block
count_stmt-returns-in-Block t c = counts_block _ _ _ _ _ _ _ c.in-Block.is c.as_slice-in-Block.ensures c.count_body-in-Block.ensures c.plus-in-Block.ensures
