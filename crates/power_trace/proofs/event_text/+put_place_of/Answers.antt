-- The address is no word of the first symbol.
use Rattle.std.proofs.Common.{◌∙◌, subst, sym}
use Rattle.power_trace.specs.Put.{IsPut}
use Rattle.power_trace.specs.Report.{place_text}
use Rattle.power_trace.proofs.PlaceLemmas.{other_text}
use Rattle.word_isa.specs.Entries.{span}
use Rattle.word_machine.specs.Places.{place_of}
use Rattle.power_trace.proofs.event_text.+put_place_of.Goals as goal

pub returns-in-None : goal.returns-in-None
returns-in-None t c =
    let kept = span c.args.keep c.args.keep_words in
    let s = c.in-Some.symbol.now in
    let others = c.in-Some.others.now in
    let first = subst (IsPut c.args.line.now c.put_place_of.new.line) (sym (other_text s others c.args.stride kept c.args.at (sym c.index_in.ensures ∙ c.in-None.is))) c.put_place_of.ensures in
    subst (λ xs. IsPut c.args.line.now c.put_place_of.new.line (place_text xs (place_of xs c.args.stride c.args.keep c.args.keep_words c.args.at))) (sym c.in-Some.ensures.cases.0) first
