use Rattle.std.proofs.Common.{ap, ◌∙◌, map}
use Rattle.image_file.specs.Layout.{raw_symbol, raw_mark}
use Rattle.image_file.proofs.FieldLemmas.{fields_pass, scheme_back}
use Rattle.image_file.proofs.reading.image_of.Goals as goal

pub invariant_of-result : goal.invariant_of-result
invariant_of-result c =
    let pass = fields_pass c.args.raw c.args.scheme c.requires.passes c.requires.scheme in
    record { tested = rw (c.requires.symbols, c.requires.marks) pass.tested }

pub returns : goal.returns
returns c =
    let pass = fields_pass c.args.raw c.args.scheme c.requires.passes c.requires.scheme in
    let scheme = scheme_back c.args.raw.head.scheme c.args.scheme c.requires.scheme in
    let symbols = ap (map raw_symbol) c.requires.symbols ∙ pass.symbols_back in
    let marks = ap (map raw_mark) c.requires.marks ∙ pass.marks_back in
    λ i. record c.args.raw { head = record c.args.raw.head { scheme = scheme i }; symbols = symbols i; marks = marks i }
