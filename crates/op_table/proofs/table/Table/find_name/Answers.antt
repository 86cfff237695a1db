use Rattle.std.proofs.Common.{◌∙◌, sym}
use Rattle.op_table.proofs.TableLemmas.{first_name, name_found_in, name_missed_in, name_within}
use Rattle.op_table.proofs.table.Table.find_name.Goals as goal

pub returns-clause-found : goal.returns-clause-found
returns-clause-found g c =
    name_found_in c.self.inside.rows.now c.args.self.now c.args.name.now c.name_place.result (sym c.self.view_is) c.self.invariant.1 (c.name_place.ensures ∙ first_name c.self.inside.rows.now c.args.name.now)

pub returns-clause-missed : goal.returns-clause-missed
returns-clause-missed g c =
    name_missed_in c.self.inside.rows.now c.args.self.now c.args.name.now c.name_place.result (sym c.self.view_is) (c.name_place.ensures ∙ first_name c.self.inside.rows.now c.args.name.now)

pub returns-clause-within : goal.returns-clause-within
returns-clause-within g c =
    name_within c.self.inside.rows.now c.args.name.now g.row.N c.name_place.result c.self.invariant.0 (c.name_place.ensures ∙ first_name c.self.inside.rows.now c.args.name.now)
