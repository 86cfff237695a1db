-- An `if`, a loop and a block by their bodies.
use Rattle.io_depend.proofs.RowLemmas.{if_spread, loop_spread, block_spread}
use Rattle.io_depend.proofs.rows.Rows.+spread.Goals as goal

pub spread_one-returns-in-If : goal.spread_one-returns-in-If
spread_one-returns-in-If t c = if_spread _ _ _ _ _ _ _ _ _ _ _ c.in-If.is c.as_slice.ensures c.as_slice-in-If.ensures c.spread.ensures c.spread-in-If.ensures

pub spread_one-returns-in-Loop : goal.spread_one-returns-in-Loop
spread_one-returns-in-Loop t c = loop_spread _ _ _ _ _ _ _ _ _ _ c.in-Loop.is c.as_slice-in-Loop.ensures c.into_array.ensures c.spread-in-Loop.ensures

pub spread_one-returns-in-Block : goal.spread_one-returns-in-Block
spread_one-returns-in-Block t c = block_spread _ _ _ _ _ _ _ _ c.in-Block.is c.as_slice-in-Block.ensures c.spread-in-Block.ensures
