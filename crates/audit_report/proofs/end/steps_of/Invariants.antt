-- Behind the rows so far, those that are left lead where all lead.
use Rattle.std.proofs.Common.{◌≡◌, drop}
use Rattle.audit_report.specs.Sums.{steps_behind}
use Rattle.audit_report.proofs.end.steps_of.Given as goal

abbrev pub invariant-rows : goal.invariant-rows
invariant-rows l = steps_behind l.total (drop l.row-index l.rows) ≡ steps_behind 0 l.rows
