-- An `if`, a loop and a block by their bodies.
use Rattle.io_depend.proofs.Marking.{mark_if, mark_loop, mark_block}
use Rattle.io_depend.proofs.points.+mark.Goals as goal

pub mark_one-returns-in-If : goal.mark_one-returns-in-If
mark_one-returns-in-If t c = mark_if _ _ _ _ _ _ _ _ _ _ c.in-If.is c.as_slice.ensures c.as_slice-in-If.ensures c.mark.ensures c.mark-in-If.ensures

pub mark_one-returns-in-Loop : goal.mark_one-returns-in-Loop
mark_one-returns-in-Loop t c = mark_loop _ _ _ _ _ _ _ _ c.in-Loop.is c.as_slice-in-Loop.ensures c.mark-in-Loop.ensures

pub mark_one-returns-in-Block : goal.mark_one-returns-in-Block
mark_one-returns-in-Block t c = mark_block _ _ _ _ _ _ _ c.in-Block.is c.as_slice-in-Block.ensures c.mark-in-Block.ensures
