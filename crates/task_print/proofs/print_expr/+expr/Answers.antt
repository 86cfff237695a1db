-- A left side is put before its operator.
use Rattle.task_print.proofs.PrintSteps.{two_put}
use Rattle.task_print.proofs.print_expr.+expr.Goals as goal

pub put_expr-returns-in_ok-put_expr-in-Two : goal.put_expr-returns-in_ok-put_expr-in-Two
put_expr-returns-in_ok-put_expr-in-Two t c =
    two_put _ _ _ _ _ _ _ _ _ _ _ c.in-Two.is c.get-in-Two.ensures c.get-in-Two-2.ensures c.sign_of.ensures c.in_ok-put_expr-in-Two.ensures c.put_behind-in-Two.ensures
