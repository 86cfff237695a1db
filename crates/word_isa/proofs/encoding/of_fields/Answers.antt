use Rattle.std.proofs.Common.{arith, sym}
use Rattle.word_isa.proofs.DefaultLemmas.{no_row}
use Rattle.word_isa.proofs.encoding.of_fields.Goals as goal

pub returns-in_default : goal.returns-in_default
returns-in_default c =
    sym (no_row c.args.fields.code c.args.fields.a c.args.fields.b c.args.fields.m c.args.fields.t (λ positive. omega arith))
