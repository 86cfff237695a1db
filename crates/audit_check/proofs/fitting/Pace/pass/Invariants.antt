-- Behind the events so far, those that are left lead where all lead.
use Rattle.std.proofs.Common.{◌≡◌, drop}
use Rattle.audit_check.specs.Fitting.{passed}
use Rattle.audit_check.proofs.fitting.Pace.pass.Given as goal

abbrev pub invariant-events : goal.invariant-events
invariant-events l = passed l.self (drop l.e-index l.events) ≡ passed l.initial.self l.events
