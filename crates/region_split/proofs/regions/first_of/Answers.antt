-- One array more.
use Rattle.region_split.proofs.Alike.{first_more, array_test}
use Rattle.region_split.proofs.regions.first_of.Goals as goal

pub arrays-preserved : goal.arrays-preserved
arrays-preserved c =
    first_more c.args.arrays.now c.args.owners.now c.args.region c.arrays.number _ _ _
    (array_test c.args.arrays.now c.args.owners.now c.args.region c.arrays.number _ _ c.arrays-test.true c.index-arrays-number.is c.is_first-belongs.ensures)
    c.arrays.invariant c.in_ok-put_if.ensures
