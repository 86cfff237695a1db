use Rattle.std.proofs.Common.{◌∙◌, sym}
use Rattle.report_text.proofs.ReportLemmas.{next_is}
use Rattle.report_text.proofs.report.next_line.Goals as goal

pub returns-in-Some-clause-next : goal.returns-in-Some-clause-next
returns-in-Some-clause-next c =
    next_is c.args.ended c.args.text.now c.cut.result.0.now c.cut.result.1 c.in_ok-behind.behind c.in-Some.line c.cut.ensures.parts c.in_ok-behind.was c.if-ended.false (sym c.line_in.ensures ∙ c.in-Some.is)
