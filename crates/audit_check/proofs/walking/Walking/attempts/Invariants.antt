-- The attempts that are left lead where all lead.
use Rattle.audit_check.proofs.AttemptCode.{AreUnderWay}
use Rattle.audit_check.proofs.walking.Walking.attempts.Given as goal

abbrev pub invariant-attempts : goal.invariant-attempts
invariant-attempts l = AreUnderWay l.tasks l.attempts l._done l.self l.initial.self
