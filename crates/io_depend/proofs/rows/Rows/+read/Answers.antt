-- An `if` and a loop by their bodies.
use Rattle.io_depend.proofs.RowLemmas.{if_bits, loop_bits}
use Rattle.io_depend.proofs.rows.Rows.+read.Goals as goal

pub read_one-returns-in-If : goal.read_one-returns-in-If
read_one-returns-in-If t c = if_bits _ _ _ _ _ _ _ _ _ _ _ c.in-If.is c.as_slice.ensures c.as_slice-in-If.ensures c.expr-condition.ensures c.read.ensures c.read-in-If.ensures

pub read_one-returns-in-Loop : goal.read_one-returns-in-Loop
read_one-returns-in-Loop t c = loop_bits _ _ _ _ _ _ _ _ c.in-Loop.is c.as_slice-in-Loop.ensures c.read-in-Loop.ensures
