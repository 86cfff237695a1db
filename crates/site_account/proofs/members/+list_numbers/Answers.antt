-- An `if`, a loop and a block by their bodies.
use Rattle.site_account.proofs.Joining.{on_ok, one_part, two_parts, numbers_in_if, numbers_in_loop, numbers_in_block}
use Rattle.site_account.proofs.members.+list_numbers.Goals as goal

pub list_stmt-returns-in_ok-list_body-in-If : goal.list_stmt-returns-in_ok-list_body-in-If
list_stmt-returns-in_ok-list_body-in-If t c =
    on_ok c.list_body-in-If.result (two_parts _ _ _ _ _ _ (numbers_in_if _ _ _ _ _ _ c.in-If.is c.as_slice.ensures c.as_slice-in-If.ensures) c.in_ok-list_body-in-If.ensures) c.list_body-in-If.ensures

pub list_stmt-returns-in-Loop : goal.list_stmt-returns-in-Loop
list_stmt-returns-in-Loop t c =
    on_ok c.list_body-in-Loop.result (one_part _ _ _ _ (numbers_in_loop _ _ _ _ _ c.in-Loop.is c.as_slice-in-Loop.ensures)) c.list_body-in-Loop.ensures

pub list_stmt-returns-in_ok-put_one-in-Block : goal.list_stmt-returns-in_ok-put_one-in-Block
list_stmt-returns-in_ok-put_one-in-Block t c =
    on_ok c.list_body-in-Block.result (two_parts _ _ _ _ _ _ (numbers_in_block _ _ _ _ c.in-Block.is c.as_slice-in-Block.ensures) c.in_ok-put_one-in-Block.ensures) c.list_body-in-Block.ensures
