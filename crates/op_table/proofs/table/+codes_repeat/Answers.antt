use Rattle.std.proofs.Common.{◌∙◌, sym}
use Rattle.op_table.proofs.TableLemmas.{codes_end, code_again, code_alone}
use Rattle.op_table.proofs.table.+codes_repeat.Goals as goal

pub returns-in_default : goal.returns-in_default
returns-in_default t c = codes_end c.args.rows.now c.in_default.ensures.cases

pub returns-then-is_some : goal.returns-then-is_some
returns-then-is_some t c =
    code_again c.in-Some.row.now c.in-Some.behind.now c.args.rows.now c.code_place.result c.in-Some.ensures.cases.0 c.code_place.ensures (sym c.is_some.ensures ∙ c.if-is_some.true)

pub returns : goal.returns
returns t c =
    c.codes_repeat.ensures ∙ sym (code_alone c.in-Some.row.now c.in-Some.behind.now c.args.rows.now c.code_place.result c.in-Some.ensures.cases.0 c.code_place.ensures (sym c.is_some.ensures ∙ c.if-is_some.false))
