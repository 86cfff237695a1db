-- What is listed so far, with what is left, is the whole.
use Rattle.std.proofs.Common.{◌≡◌, ◌++◌, ◌+◌, ◌-◌, filter}
use Rattle.std.specs.List.{range_with_len}
use Rattle.io_depend.specs.Told.{tells_later}
use Rattle.site_account.specs.Told.{told_later}
use Rattle.site_account.proofs.members.forced_by.Given as goal

abbrev pub invariant-sites : goal.invariant-sites
invariant-sites l =
    l.row.items ++ filter (tells_later l.depends l.site) (range_with_len (l.before + 1) (l.count - l.before)) ≡ told_later l.depends l.count l.site
