-- One array more is listed.
use Rattle.std.proofs.Common.{refl}
use Rattle.io_depend.proofs.Marking.{listed_more}
use Rattle.io_depend.proofs.points.list.Goals as goal

pub marks-preserved : goal.marks-preserved
marks-preserved c = listed_more c.args.marks.now c.marks.number _ _ _ refl c.marks.invariant c.in_ok-put_if.ensures
