-- The lines so far, with those of what is left, are the report's.
use Rattle.std.proofs.Common.{length}
use Rattle.report_text.proofs.ReportLemmas.{IsOnWay}
use Rattle.report_text.proofs.report.read_lines.Given as goal

abbrev pub invariant-lines : goal.invariant-lines
invariant-lines l = IsOnWay l.lines l.ended l.number l.left l.bytes

abbrev pub decreases-lines : goal.decreases-lines
decreases-lines l = length l.left
