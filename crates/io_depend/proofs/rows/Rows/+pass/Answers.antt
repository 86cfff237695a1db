-- An `if`, a loop and a block by their bodies.
use Rattle.std.proofs.Common.{refl}
use Rattle.io_depend.specs.Rows.{listed}
use Rattle.io_depend.proofs.RowLemmas.{if_done, loop_done, block_done}
use Rattle.io_depend.proofs.rows.Rows.+pass.Goals as goal

pub pass_one-returns-in_ok-pass-in-If-2 : goal.pass_one-returns-in_ok-pass-in-If-2
pass_one-returns-in_ok-pass-in-If-2 t c =
    if_done (listed c.args.points.now) c.args.around _ _ _ _ _ _ _ _ c.args.self.now _ _ _ _ _ _
    c.in-If.is c.as_slice.ensures c.as_slice-in-If.ensures c.expr-in-If.ensures refl c.in_ok-before-in-If.ensures
    c.in_ok-pass-in-If.ensures c.swap-one.ensures.here c.swap-one.ensures.there c.in_ok-pass-in-If-2.ensures c.join_branch.ensures

pub pass_one-returns-in-Loop : goal.pass_one-returns-in-Loop
pass_one-returns-in-Loop t c =
    loop_done (listed c.args.points.now) c.args.around _ _ _ _ _ _ _ _ c.args.self.now _ _
    c.in-Loop.is c.as_slice-in-Loop.ensures c.as_slice-in-Loop-2.ensures c.read.ensures refl c.into_array.ensures c.spread.ensures

pub pass_one-returns-in_ok-pass-in-Block : goal.pass_one-returns-in_ok-pass-in-Block
pass_one-returns-in_ok-pass-in-Block t c =
    block_done (listed c.args.points.now) c.args.around _ _ _ _ _ c.args.self.now _ _ _
    c.in-Block.is c.as_slice-in-Block.ensures c.enter_block-outside.ensures.outside c.enter_block-outside.ensures.entered c.in_ok-pass-in-Block.ensures c.leave_block.ensures
