-- The statements that are left lead where all lead.
use Rattle.std.proofs.Common.{◌≡◌, drop}
use Rattle.audit_check.specs.Walked as steps
use Rattle.audit_check.proofs.walking.Walking.+walk.Given as goal

abbrev pub invariant-body-statements : goal.invariant-body-statements
invariant-body-statements l = steps.body_walked l.around (drop l.s-index l.body) l.self ≡ steps.body_walked l.around l.body l.initial.self
