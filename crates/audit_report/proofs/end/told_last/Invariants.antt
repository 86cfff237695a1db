-- Behind the boots so far, those that are left lead where all lead.
use Rattle.std.proofs.Common.{◌≡◌, drop}
use Rattle.audit_check.specs.Ended as spec
use Rattle.audit_report.proofs.end.told_last.Given as goal

abbrev pub invariant-boots : goal.invariant-boots
invariant-boots l = spec.told_last l.task (drop l.b-index l.boots) ≡ spec.told_last l.next l.boots
