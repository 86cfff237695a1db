-- Behind the events so far, those that are left lead where all lead.
use Rattle.std.proofs.Common.{◌≡◌, drop}
use Rattle.audit_check.specs.Ended as spec
use Rattle.audit_report.proofs.end.told_behind.Given as goal

abbrev pub invariant-events : goal.invariant-events
invariant-events l = spec.told_behind l.task (drop l.e-index l.events) ≡ spec.told_behind l.next l.events
