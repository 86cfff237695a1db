-- A block is put with its annotation and its body.
use Rattle.task_print.proofs.PrintSteps.{block_put}
use Rattle.task_print.proofs.print_stmt.+statements.Goals as goal

pub put_stmt-returns-in_ok-put_opening-in-Block : goal.put_stmt-returns-in_ok-put_opening-in-Block
put_stmt-returns-in_ok-put_opening-in-Block t c =
    block_put _ _ _ _ _ _ _ _ _ c.in-Block.is c.as_slice-in-Block.ensures c.in_ok-put_opening-in-Block.ensures c.put_braced-in-Block.ensures
