use Rattle.std.proofs.lemmas.Result.{err_from_is_err_and}
use Rattle.std.proofs.Common.{refl}
use Rattle.task_check.specs.Table.{meanings}
use Rattle.task_check.proofs.ExpressionLemmas.{choose_faults}
use Rattle.task_check.proofs.FirstLemmas.{first_of_three, second_of_three, third_of_three}
use Rattle.task_check.proofs.exits.+check_exit.Goals as goal

pub returns-in_err-check_expr-in-Choose : goal.returns-in_err-check_expr-in-Choose
returns-in_err-check_expr-in-Choose t c =
    let p = err_from_is_err_and c.from_residual.result c.from_residual.ensures.1 in
    rw (p.1, p.2) (first_of_three _ _ _ _ _ (choose_faults (meanings c.args.names.now) _ _ _ _ _ _ c.in-Choose.is refl refl) c.in_err-check_expr-in-Choose.ensures)

pub returns-in_err-check_exit-in-Choose : goal.returns-in_err-check_exit-in-Choose
returns-in_err-check_exit-in-Choose t c =
    let p = err_from_is_err_and c.from_residual-in_err-check_exit-in-Choose.result c.from_residual-in_err-check_exit-in-Choose.ensures.1 in
    rw (p.1, p.2) (second_of_three _ _ _ _ _ (choose_faults (meanings c.args.names.now) _ _ _ _ _ _ c.in-Choose.is c.get.ensures refl) c.in_ok-check_expr-in-Choose.ensures.0 c.in_err-check_exit-in-Choose.ensures)

pub returns-in_ok-check_exit-in-Choose : goal.returns-in_ok-check_exit-in-Choose
returns-in_ok-check_exit-in-Choose t c =
    third_of_three _ _ _ _ _ (choose_faults (meanings c.args.names.now) _ _ _ _ _ _ c.in-Choose.is c.get.ensures c.get-in-Choose.ensures)
    c.in_ok-check_expr-in-Choose.ensures.0 c.in_ok-check_exit-in-Choose.ensures.0 c.check_exit-in-Choose.ensures
