-- An `if`, a loop and a block by their bodies.
use Rattle.site_account.proofs.Joining.{on_ok, one_part, two_parts, places_in_if, places_in_for, places_in_block}
use Rattle.site_account.proofs.places.+list_places.Goals as goal

pub list_stmt-returns-in_ok-list_body-in-If : goal.list_stmt-returns-in_ok-list_body-in-If
list_stmt-returns-in_ok-list_body-in-If t c =
    on_ok c.list_body-in-If.result (two_parts _ _ _ _ _ _ (places_in_if _ _ _ _ _ _ c.in-If.is c.as_slice.ensures c.as_slice-in-If.ensures) c.in_ok-list_body-in-If.ensures) c.list_body-in-If.ensures

pub list_stmt-returns-in_ok-list_body-in-For : goal.list_stmt-returns-in_ok-list_body-in-For
list_stmt-returns-in_ok-list_body-in-For t c =
    on_ok c.repeat.result
    (one_part _ _ _ _ (places_in_for _ _ _ _ _ _ _ _ _ _ c.in-For.is c.as_slice-in-For.ensures c.new-turn.ensures c.in_ok-list_body-in-For.ensures c.as_slice-in-For-2.ensures)) c.repeat.ensures

pub list_stmt-returns-in_ok-put_place-in-Block : goal.list_stmt-returns-in_ok-put_place-in-Block
list_stmt-returns-in_ok-put_place-in-Block t c =
    on_ok c.list_body-in-Block.result (two_parts _ _ _ _ _ _ (places_in_block _ _ _ _ _ c.in-Block.is c.as_slice-in-Block.ensures) c.in_ok-put_place-in-Block.ensures) c.list_body-in-Block.ensures
