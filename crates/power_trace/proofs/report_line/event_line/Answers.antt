-- Its parts have room, so they are there whole.
use Rattle.std.specs.Prelude.{codes, decimal, ◌++◌, if◌then◌else◌}
use Rattle.std.proofs.Common.{ℕ, List, [], ◌∷◌, subst}
use Rattle.devices.specs.Journal.{placed}
use Rattle.power_trace.specs.Put.{IsPut}
use Rattle.power_trace.specs.Report.{style_of, place_in, event_text, line}
use Rattle.power_trace.specs.Short.{AreShort}
use Rattle.power_trace.specs.LineLaws.{put_more, put_whole}
use Rattle.power_trace.proofs.NameLemmas.{symbols_short, peripherals_short}
use Rattle.power_trace.proofs.ShortLemmas.{event_line_short}
use Rattle.power_trace.proofs.report_line.event_line.Goals as goal
use Rattle.word_isa.specs.Entries.{span}

pub returns : goal.returns
returns c =
    let image = c.args.image.now in
    let style = style_of image c.args.brief in
    let e = placed (place_in image) c.args.event in
    let head : List ℕ = if c.args.brief then [] else decimal c.args.step ++ codes " " in
    let short : AreShort style = record {
      symbols = symbols_short (span image.keep image.keep_words) image.stride image.symbols image.tested.symbols_pass;
      peripherals = peripherals_short image.symbols image.peripherals image.tested.peripherals_pass;
    } in
    let first = subst (λ l. IsPut l c.put_head.new.line head) c.new-line.ensures c.put_head.ensures in
    let second = put_more [] c.put_head.new.line c.put_event.new.line head (event_text style e) first c.put_event.ensures.text in
    let whole = put_more [] c.put_event.new.line c.put.new.self (head ++ event_text style e) (10 ∷ []) second c.put.ensures in
    put_whole c.put.new.self (line style c.args.step (event_text style e)) whole (event_line_short style c.args.step e short c.ranges.step.fits c.put_event.ensures.words)
