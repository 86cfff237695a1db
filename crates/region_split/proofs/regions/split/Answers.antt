-- What the owners tell.
use Rattle.std.proofs.Common.{refl}
use Rattle.region_split.proofs.Alike.{task_of, told_first}
use Rattle.region_split.proofs.regions.split.Goals as goal

pub returns : goal.returns
returns c =
    told_first c.args.c.now c.args.t.now (task_of c.args.c.now c.args.t.now c.requires.well_formed c.requires.task) c.args.d.now c.requires.told _ _ _ _ _ _ _ _ _
    c.len.ensures c.as_slice.ensures c.in_ok-owners.ensures c.touch.ensures refl c.as_slice-3.ensures c.as_slice-2.ensures c.count_regions-count.ensures c.in_ok-first.ensures.rows
