-- Its parts have room, so they are there whole.
use Rattle.std.specs.Prelude.{codes, decimal, ◌++◌, if◌then◌else◌}
use Rattle.std.proofs.Common.{[], subst}
use Rattle.power_trace.specs.Put.{IsPut}
use Rattle.power_trace.specs.Report.{style_of, number}
use Rattle.power_trace.specs.LineLaws.{line_put}
use Rattle.power_trace.proofs.ShortLemmas.{trap_line_short}
use Rattle.power_trace.proofs.report_line.trap_line.Goals as goal

pub returns : goal.returns
returns c image =
    let first = subst (λ l. IsPut l c.put_head.new.line (if c.args.brief then [] else decimal c.args.step ++ codes " ")) c.new-line.ensures c.put_head.ensures in
    line_put c.put_head.new.line c.put_named.new.line c.put.new.self _ (codes "trap" ++ number c.args.code) first c.put_named.ensures c.put.ensures
    (trap_line_short (style_of image c.args.brief) c.args.step c.args.code c.ranges.step.fits c.ranges.code.fits)
