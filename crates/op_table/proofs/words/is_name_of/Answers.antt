use Rattle.std.specs.Prelude.{refl}
use Rattle.op_table.specs.Table.{entries}
use Rattle.op_table.proofs.ReservedLemmas.{found_decides}
use Rattle.op_table.proofs.words.is_name_of.Goals as goal

pub unreachable-requires : goal.unreachable-requires
unreachable-requires c = c.requires.clear (c.in_default.ensures.refused.0 refl)

pub returns : goal.returns
returns c =
    found_decides c.in-Some.table (entries c.args.rows.now) c.args.name.now c.find_name.result c.is_some.result c.in-Some.ensures.made c.find_name.ensures.found c.is_some.ensures
