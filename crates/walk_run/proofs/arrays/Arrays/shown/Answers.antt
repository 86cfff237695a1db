-- Each array is shown in its turn.
use Rattle.std.proofs.Common.{◌∙◌}
use Rattle.walk_run.proofs.Shapes.{stands, one_shown}
use Rattle.walk_run.proofs.arrays.Arrays.shown.Goals as goal

pub arrays-preserved : goal.arrays-preserved
arrays-preserved c =
    let there = stands c.args.arrays.now c.arrays.number _ _ c.arrays-test.true c.index-arrays-number.is in
    one_shown c.args.arrays.now c.args.self.now c.arrays.shown _ c.arrays.number _ c.requires.shape there c.in_ok-show_one.ensures ∙ c.arrays.invariant
