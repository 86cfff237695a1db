-- The sites that are left lead where all lead.
use Rattle.std.proofs.Common.{◌≡◌, ◌+◌, ◌-◌}
use Rattle.io_depend.specs.Told.{tells_later}
use Rattle.audit_check.specs.Walking.{dropped_from}
use Rattle.audit_check.proofs.walking.Walking.drop_dependents.Given as goal

abbrev pub invariant-sites : goal.invariant-sites
invariant-sites l =
    dropped_from (tells_later l.around.depends.now l.site) (l.before + 1) (l.sites - l.before) l.self ≡ dropped_from (tells_later l.around.depends.now l.site) 1 l.sites l.initial.self
