-- An `if`, a loop and a block by their bodies.
use Rattle.io_depend.specs.Rows.{listed}
use Rattle.region_split.proofs.Touching.{if_touched, loop_touched, block_touched}
use Rattle.region_split.proofs.owners.Owners.+touch.Goals as goal

pub touch_one-returns-in-If : goal.touch_one-returns-in-If
touch_one-returns-in-If t c = if_touched (listed c.args.d.now.points) _ _ _ _ _ _ c.args.self.now _ _ c.in-If.is c.as_slice.ensures c.as_slice-in-If.ensures c.touch.ensures c.touch-in-If.ensures

pub touch_one-returns-in-Loop : goal.touch_one-returns-in-Loop
touch_one-returns-in-Loop t c = loop_touched (listed c.args.d.now.points) _ _ _ _ _ c.args.self.now _ _ c.in-Loop.is c.as_slice-in-Loop.ensures c.write.ensures c.touch-in-Loop.ensures

pub touch_one-returns-in-Block : goal.touch_one-returns-in-Block
touch_one-returns-in-Block t c = block_touched (listed c.args.d.now.points) _ _ _ _ c.args.self.now _ c.in-Block.is c.as_slice-in-Block.ensures c.touch-in-Block.ensures
