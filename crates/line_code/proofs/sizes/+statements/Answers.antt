-- An `if` and a loop by their bodies, and statements one after another.
use Rattle.std.proofs.Common.{arith}
use Rattle.line_code.proofs.StatementLemmas.{if_size, loop_size, all_counted}
use Rattle.line_code.proofs.sizes.+statements.Goals as goal

pub statement_size-returns-in-If : goal.statement_size-returns-in-If
statement_size-returns-in-If t c =
    omega (arith, if_size c.args.s.now _ _ _ _ _ c.in-If.is c.as_slice.ensures c.as_slice-in-If.ensures, c.expr_size-in-If.ensures, c.statements_size.ensures, c.saturating_add-front.ensures, c.statements_size-no_part.ensures, c.saturating_add-in-If.ensures, c.saturating_add-in-If-2.ensures)

pub statement_size-returns-in-Loop : goal.statement_size-returns-in-Loop
statement_size-returns-in-Loop t c =
    omega (arith, loop_size c.args.s.now _ _ _ _ c.in-Loop.is c.as_slice-in-Loop.ensures, c.statements_size-in-Loop.ensures, c.saturating_add-in-Loop.ensures)

pub statements_size-returns : goal.statements_size-returns
statements_size-returns t c = all_counted c.args.body.now c.statements.size c.statements.s-index c.statements-test.false c.statements.invariant.0 c.statements.invariant.1
