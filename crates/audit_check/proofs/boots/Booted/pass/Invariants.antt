-- The boots that are left lead where all lead.
use Rattle.std.proofs.Common.{drop}
use Rattle.audit_check.specs.Booted.{all_walked}
use Rattle.audit_check.proofs.AttemptCode.{AreBooting}
use Rattle.audit_check.proofs.boots.Booted.pass.Given as goal

abbrev pub invariant-boots : goal.invariant-boots
invariant-boots l = AreBooting l.tasks (drop l.boot-index l.boots) l.self (all_walked l.tasks l.initial.self l.boots)
