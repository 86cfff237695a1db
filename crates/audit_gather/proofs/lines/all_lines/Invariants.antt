-- Behind the lines so far, those that are left lead where all lead.
use Rattle.std.proofs.Common.{◌≡◌, drop}
use Rattle.audit_gather.specs.Gathering.{ungathered, with_lines}
use Rattle.audit_gather.proofs.lines.all_lines.Given as goal

abbrev pub invariant-lines : goal.invariant-lines
invariant-lines l = with_lines l.c l.gathering (drop l.line-index l.lines) ≡ with_lines l.c ungathered l.lines
