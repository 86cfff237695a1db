-- The records so far are gone.
use Rattle.std.proofs.Common.{◌≡◌, ◌++◌, take, drop}
use Rattle.audit_check.specs.Walked.{none_kept}
use Rattle.audit_check.proofs.attempts.drop_all.Given as goal

abbrev pub invariant-records : goal.invariant-records
invariant-records l = l.records.items ≡ none_kept (take l.site l.initial.records.items) ++ drop l.site l.initial.records.items
