-- An `if`, a loop and a block by their bodies.
use Rattle.site_account.proofs.Joining.{on_ok, one_part, two_parts, lines_in_if, lines_in_loop, lines_in_block}
use Rattle.site_account.specs.Told.{told}
use Rattle.site_account.proofs.sites.+put_sites.Goals as goal

pub put_stmt-returns-in_ok-put_body-in-If : goal.put_stmt-returns-in_ok-put_body-in-If
put_stmt-returns-in_ok-put_body-in-If t c =
    on_ok c.put_body-in-If.result (two_parts _ _ _ _ _ _ (lines_in_if (told c.args.view.now) _ _ _ _ _ _ c.in-If.is c.as_slice.ensures c.as_slice-in-If.ensures) c.in_ok-put_body-in-If.ensures) c.put_body-in-If.ensures

pub put_stmt-returns-in-Loop : goal.put_stmt-returns-in-Loop
put_stmt-returns-in-Loop t c =
    on_ok c.put_body-in-Loop.result (one_part _ _ _ _ (lines_in_loop (told c.args.view.now) _ _ _ _ _ c.in-Loop.is c.as_slice-in-Loop.ensures)) c.put_body-in-Loop.ensures

pub put_stmt-returns-in_ok-put_block-in-Block : goal.put_stmt-returns-in_ok-put_block-in-Block
put_stmt-returns-in_ok-put_block-in-Block t c =
    on_ok c.put_body-in-Block.result
    (two_parts _ _ _ _ _ _ (lines_in_block (told c.args.view.now) _ _ _ _ _ c.in-Block.is c.as_slice-in-Block.ensures c.as_slice-in-Block-2.ensures) c.in_ok-put_block-in-Block.ensures) c.put_body-in-Block.ensures
