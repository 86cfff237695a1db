use Rattle.std.specs.Prelude.{eqb, true}
use Rattle.std.specs.Str.{bytes_eq}
use Rattle.std.proofs.Common.{◌∙◌, sym}
use Rattle.op_table.specs.Places.{repeats}
use Rattle.op_table.specs.Table.{entries, codes, names}
use Rattle.op_table.proofs.TableLemmas.{twins_decided, either_first, either_second}
use Rattle.op_table.proofs.table.has_twins.Goals as goal

pub returns-then-codes_repeat : goal.returns-then-codes_repeat
returns-then-codes_repeat c =
    twins_decided (entries c.args.rows.now) true (either_first (repeats eqb (codes (entries c.args.rows.now))) (repeats bytes_eq (names (entries c.args.rows.now))) (sym c.codes_repeat.ensures ∙ c.if-codes_repeat.true))

pub returns : goal.returns
returns c =
    twins_decided (entries c.args.rows.now) c.names_repeat.result (c.names_repeat.ensures ∙ either_second (repeats eqb (codes (entries c.args.rows.now))) (repeats bytes_eq (names (entries c.args.rows.now))) (sym c.codes_repeat.ensures ∙ c.if-codes_repeat.false))
