-- No peripheral is left.
use Rattle.std.specs.Prelude.{codes, decimal}
use Rattle.std.proofs.Common.{subst}
use Rattle.ease_base.specs.declared.place.Peripheral.{Peripheral}
use Rattle.power_trace.specs.Put.{IsPut}
use Rattle.power_trace.specs.Report.{peripheral_name}
use Rattle.power_trace.specs.LineLaws.{put_more, nothing_left}
use Rattle.power_trace.proofs.event_text.+put_peripheral.Goals as goal

pub returns-in-None : goal.returns-in-None
returns-in-None t c =
    let digits = subst (λ n. IsPut c.put-in-None.new.self c.put_number.new.self (decimal n)) c.from.ensures c.put_number.ensures in
    let both = put_more c.args.line.now c.put-in-None.new.self c.put_number.new.self (codes "#") (decimal c.args.number) c.put-in-None.ensures digits in
    subst (λ ps. IsPut c.args.line.now c.put_number.new.self (peripheral_name ps c.args.number)) (nothing_left {X = Peripheral} c.args.peripherals.now c.in-None.ensures.cases) both
