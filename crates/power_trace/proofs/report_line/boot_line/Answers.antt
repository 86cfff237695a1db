-- Its parts have room, so they are there whole.
use Rattle.std.specs.Prelude.{codes, decimal, ◌++◌, if◌then◌else◌}
use Rattle.std.proofs.Common.{[], subst}
use Rattle.power_trace.specs.Put.{IsPut}
use Rattle.power_trace.specs.Report.{style_of, number}
use Rattle.power_trace.specs.LineLaws.{put_more, line_put}
use Rattle.power_trace.proofs.ShortLemmas.{boot_line_short}
use Rattle.power_trace.proofs.report_line.boot_line.Goals as goal

pub returns : goal.returns
returns c image =
    let first = subst (λ l. IsPut l c.put_head.new.line (if c.args.brief then [] else decimal c.args.steps ++ codes " ")) c.new-line.ensures c.put_head.ensures in
    let named = put_more c.put_head.new.line c.put.new.self c.put_number.new.self (codes "boot ") (decimal c.args.number) c.put.ensures c.put_number.ensures in
    line_put c.put_head.new.line c.put_number.new.self c.put-2.new.self _ (codes "boot" ++ number c.args.number) first named c.put-2.ensures
    (boot_line_short (style_of image c.args.brief) c.args.steps c.args.number c.ranges.steps.fits c.ranges.number.fits)
