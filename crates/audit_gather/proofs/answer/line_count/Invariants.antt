-- The lines so far, with those of the boots that are left, are all.
use Rattle.std.proofs.Common.{◌≡◌, ◌+◌, drop}
use Rattle.audit_check.specs.Journal.{boots_of}
use Rattle.audit_check.specs.Lines.{lines_of}
use Rattle.audit_gather.proofs.answer.line_count.Given as goal

abbrev pub invariant-boots : goal.invariant-boots
invariant-boots l = l.lines + lines_of (boots_of (drop l.boot-index l.boots)) ≡ lines_of (boots_of l.boots)
