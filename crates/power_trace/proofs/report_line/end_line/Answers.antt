-- Its parts have room, so they are there whole.
use Rattle.std.specs.Prelude.{codes, decimal, ◌++◌, if◌then◌else◌}
use Rattle.std.proofs.Common.{[], subst}
use Rattle.power_trace.specs.Put.{IsPut}
use Rattle.power_trace.specs.Report.{style_of, end_text}
use Rattle.power_trace.specs.LineLaws.{line_put}
use Rattle.power_trace.proofs.ShortLemmas.{end_line_short}
use Rattle.power_trace.proofs.report_line.end_line.Goals as goal

pub returns : goal.returns
returns c image =
    let first = subst (λ l. IsPut l c.put_head.new.line (if c.args.brief then [] else decimal c.args.steps ++ codes " ")) c.new-line.ensures c.put_head.ensures in
    line_put c.put_head.new.line c.put_end.new.line c.put.new.self _ (end_text c.args.end) first c.put_end.ensures.text c.put.ensures
    (end_line_short (style_of image c.args.brief) c.args.steps c.args.end c.ranges.steps.fits c.put_end.ensures.words)
