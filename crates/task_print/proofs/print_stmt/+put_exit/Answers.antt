-- An `if` is put with its two exits.
use Rattle.task_print.proofs.PrintSteps.{choose_put}
use Rattle.task_print.proofs.print_stmt.+put_exit.Goals as goal

pub returns-in_ok-put_word-in-Choose : goal.returns-in_ok-put_word-in-Choose
returns-in_ok-put_word-in-Choose t c =
    choose_put _ _ _ _ _ _ _ _ _ _ _ _ c.in-Choose.is c.get.ensures c.get-in-Choose.ensures c.in_ok-put_test-in-Choose.ensures c.in_ok-put_exit-in-Choose.ensures c.in_ok-put_word-in-Choose.ensures c.put_exit-in-Choose.ensures
