use Rattle.std.proofs.Common.{◌∙◌, sym}
use Rattle.op_table.proofs.TableLemmas.{names_end, name_again, name_alone}
use Rattle.op_table.proofs.table.+names_repeat.Goals as goal

pub returns-in_default : goal.returns-in_default
returns-in_default t c = names_end c.args.rows.now c.in_default.ensures.cases

pub returns-then-is_some : goal.returns-then-is_some
returns-then-is_some t c =
    name_again c.in-Some.row.now c.in-Some.behind.now c.args.rows.now c.name_place.result c.in-Some.ensures.cases.0 c.name_place.ensures (sym c.is_some.ensures ∙ c.if-is_some.true)

pub returns : goal.returns
returns t c =
    c.names_repeat.ensures ∙ sym (name_alone c.in-Some.row.now c.in-Some.behind.now c.args.rows.now c.name_place.result c.in-Some.ensures.cases.0 c.name_place.ensures (sym c.is_some.ensures ∙ c.if-is_some.false))
