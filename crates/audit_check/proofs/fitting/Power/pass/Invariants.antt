-- Behind the boots so far, those that are left lead where all lead.
use Rattle.std.proofs.Common.{◌≡◌, drop}
use Rattle.audit_check.specs.Fitting.{all_booted}
use Rattle.audit_check.proofs.fitting.Power.pass.Given as goal

abbrev pub invariant-boots : goal.invariant-boots
invariant-boots l = all_booted l.self (drop l.boot-index l.boots) ≡ all_booted l.initial.self l.boots
