-- The lines by what is told are those of the definition.
use Rattle.site_account.proofs.Joining.{on_ok, one_part}
use Rattle.site_account.proofs.Telling.{told_is}
use Rattle.site_account.proofs.account.put_sites.Goals as goal

pub returns : goal.returns
returns c =
    on_ok c.put_body.result
    (one_part _ _ _ _ (told_is c.args.core.now c.args.task.now c.args.depends.now c.requires.told c.args.places.now _ _ c.len.ensures c.as_slice.ensures c.requires.well_formed c.requires.task))
    c.put_body.ensures
