-- One part after another.
use Rattle.std.specs.Prelude.{codes, ◌++◌}
use Rattle.std.proofs.Common.{subst}
use Rattle.power_trace.specs.Put.{IsPut}
use Rattle.power_trace.specs.Report.{number, place_text, place_in}
use Rattle.power_trace.specs.LineLaws.{six_puts}
use Rattle.power_trace.proofs.event_text.put_copy.Goals as goal

pub returns : goal.returns
returns c =
    let image = c.args.image.now in
    six_puts c.args.line.now c.put_named.new.line c.put.new.self c.put_place.new.line c.put-2.new.self c.put_place-2.new.line c.put_field.new.line
    (codes "copy" ++ number c.args.site) (codes " ") (place_text image.symbols (place_in image c.args.from)) (codes " ") (place_text image.symbols (place_in image c.args.to)) (number c.args.words)
    (subst (λ n. IsPut c.args.line.now c.put_named.new.line (codes "copy" ++ number n)) c.from.ensures c.put_named.ensures)
    c.put.ensures c.put_place.ensures c.put-2.ensures c.put_place-2.ensures c.put_field.ensures
