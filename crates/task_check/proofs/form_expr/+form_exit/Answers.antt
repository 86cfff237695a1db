use Rattle.task_check.specs.Table.{meanings}
use Rattle.task_check.proofs.FormLemmas.{choose_form}
use Rattle.task_check.proofs.OkLemmas.{if_ok}
use Rattle.task_check.proofs.form_expr.+form_exit.Goals as goal

pub returns-in_ok-right-in-Choose : goal.returns-in_ok-right-in-Choose
returns-in_ok-right-in-Choose t c =
    if_ok _ _ c.choose.result (λ v h. choose_form (meanings c.args.names.now) _ _ _ _ _ _ _ _ _ v c.in-Choose.is c.get.ensures c.get-in-Choose.ensures
    c.in_ok-c-in-Choose.ensures c.in_ok-left-in-Choose.ensures c.in_ok-right-in-Choose.ensures h) c.choose.ensures
