-- What the rows tell.
use Rattle.std.proofs.Common.{refl}
use Rattle.io_depend.proofs.Telling.{told, task_of}
use Rattle.io_depend.proofs.depends.depend.Goals as goal

pub returns : goal.returns
returns c =
    told c.args.c.now c.args.t.now (task_of c.args.c.now c.args.t.now c.requires.well_formed c.requires.task) _ _ _ _ _ _ _ _ _ _
    c.len-arrays.ensures c.len-pointers.ensures c.len.ensures c.as_slice.ensures c.as_slice-2.ensures
    c.in_ok-points.ensures refl c.in_ok-rows.ensures c.in_ok-pass.ensures c.into_sites.ensures
