use Rattle.std.specs.Prelude.{not}
use Rattle.std.proofs.Common.{ap}
use Rattle.word_isa.proofs.NameLemmas.{name_text, reserved_test}
use Rattle.word_isa.proofs.names.is_free.Goals as goal

pub unreachable-requires : goal.unreachable-requires
unreachable-requires c = c.in-Err.ensures.cases.0 (name_text c.args.name.now c.requires)

pub returns : goal.returns
returns c =
    ap not (reserved_test c.reserved.result c.in-Ok.text.now c.args.name.now c.in-Ok.ensures.cases.0 c.reserved.ensures)
