-- The table says where the name stands.
use Rattle.std.specs.Prelude.{refl}
use Rattle.op_table.specs.Table.{entries}
use Rattle.ease_debug.proofs.TableWords.{place_exact}
use Rattle.ease_debug.proofs.line.place_in.Goals as goal

pub unreachable-requires : goal.unreachable-requires
unreachable-requires c = c.requires.clear (c.in_default.ensures.refused.0 refl)

pub returns : goal.returns
returns c = place_exact _ (entries c.args.rows.now) c.args.name.now _ c.in-Some.ensures.made c.requires.clear c.find_name.ensures.found c.find_name.ensures.missed
