-- The records so far are none.
use Rattle.std.proofs.Common.{◌≡◌, None, replicate}
use Rattle.audit_check.proofs.boots.no_records.Given as goal

abbrev pub invariant-sites : goal.invariant-sites
invariant-sites l = l.records.items ≡ replicate l._site None
