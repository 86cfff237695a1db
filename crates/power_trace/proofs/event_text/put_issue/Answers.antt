-- One part after another.
use Rattle.std.specs.Prelude.{codes, ◌++◌}
use Rattle.std.proofs.Common.{subst}
use Rattle.std.specs.List.{flat_map}
use Rattle.devices.specs.Journal.{arguments_of}
use Rattle.power_trace.specs.Put.{IsPut}
use Rattle.power_trace.specs.Report.{number, peripheral_name}
use Rattle.power_trace.specs.LineLaws.{six_puts}
use Rattle.power_trace.proofs.event_text.put_issue.Goals as goal

pub returns : goal.returns
returns c =
    six_puts c.args.line.now c.put_named.new.line c.put.new.self c.put_peripheral.new.line c.put_args.new.line c.put-2.new.self c.put_field.new.line
    (codes "issue" ++ number c.args.site) (codes " ") (peripheral_name c.args.peripherals.now c.args.peripheral) (flat_map number (arguments_of c.args.args)) (codes " =") (number c.args.reading)
    (subst (λ n. IsPut c.args.line.now c.put_named.new.line (codes "issue" ++ number n)) c.from.ensures c.put_named.ensures)
    c.put.ensures c.put_peripheral.ensures c.put_args.ensures c.put-2.ensures c.put_field.ensures
