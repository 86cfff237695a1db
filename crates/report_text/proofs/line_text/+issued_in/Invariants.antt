-- Each word is shorter than what is left.
use Rattle.report_text.proofs.ReportLemmas.{left_long}
use Rattle.report_text.proofs.line_text.+issued_in.Given as goal

abbrev pub decreases-issued_in : goal.decreases-issued_in
decreases-issued_in l = left_long l.rest
