-- The marked arrays are those that are given.
use Rattle.std.proofs.Common.{ap, length, arith}
use Rattle.io_depend.proofs.Marking.{after_length, given_row}
use Rattle.io_depend.proofs.points.arrays_of.Goals as goal

pub list-requires : goal.list-requires
list-requires c =
    let long = after_length c.args.pointer c.args.body.now c.args.arrays _ _ c.in_ok-marks.ensures c.mark.ensures in
    let same = ap length c.as_slice.ensures.value in
    omega (arith, long, same, c.requires)

pub returns : goal.returns
returns c = given_row c.args.pointer c.args.body.now c.args.arrays _ _ _ _ c.in_ok-marks.ensures c.mark.ensures c.as_slice.ensures.value c.list.ensures
