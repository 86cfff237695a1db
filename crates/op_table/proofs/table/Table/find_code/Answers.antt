use Rattle.std.proofs.Common.{◌∙◌, sym}
use Rattle.op_table.proofs.TableLemmas.{first_code, code_found_in, code_missed_in, code_within}
use Rattle.op_table.proofs.table.Table.find_code.Goals as goal

pub returns-clause-found : goal.returns-clause-found
returns-clause-found g c =
    code_found_in c.self.inside.rows.now c.args.self.now c.args.code c.code_place.result (sym c.self.view_is) c.self.invariant.1 (c.code_place.ensures ∙ first_code c.self.inside.rows.now c.args.code)

pub returns-clause-missed : goal.returns-clause-missed
returns-clause-missed g c =
    code_missed_in c.self.inside.rows.now c.args.self.now c.args.code c.code_place.result (sym c.self.view_is) (c.code_place.ensures ∙ first_code c.self.inside.rows.now c.args.code)

pub returns-clause-within : goal.returns-clause-within
returns-clause-within g c =
    code_within c.self.inside.rows.now c.args.code g.row.N c.code_place.result c.self.invariant.0 (c.code_place.ensures ∙ first_code c.self.inside.rows.now c.args.code)
