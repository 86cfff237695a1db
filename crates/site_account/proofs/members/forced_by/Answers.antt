-- One site more.
use Rattle.io_depend.specs.Told.{tells_later}
use Rattle.site_account.proofs.Joining.{number_more}
use Rattle.site_account.proofs.members.forced_by.Goals as goal

pub sites-preserved : goal.sites-preserved
sites-preserved c =
    number_more (tells_later c.args.depends.now c.args.site) c.args.count c.sites.before _ _ _ _ c.sites-test.true c.sites.invariant c.later.ensures.rows c.in_ok-put_if.ensures
