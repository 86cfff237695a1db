-- A choice, by its condition.
use Rattle.std.proofs.Common.{sym, ◌∙◌}
use Rattle.std.proofs.lemmas.Result.{err_from_is_err_and}
use Rattle.walk_run.proofs.Choices.{choose_traps, choose_holds, choose_fails}
use Rattle.audit_check.proofs.attempts.+next_task.Goals as goal

pub returns-in_err-value-in-Choose : goal.returns-in_err-value-in-Choose
returns-in_err-value-in-Choose t c =
    let exit = c.from_residual in
    let p = err_from_is_err_and exit.result exit.ensures.1 in
    rw (p.1, p.2) (sym (choose_traps _ _ _ _ _ _ c.in-Choose.is (sym c.value.ensures ∙ c.in_err-value-in-Choose.was)))

pub returns-then-branch-ne0 : goal.returns-then-branch-ne0
returns-then-branch-ne0 t c =
    choose_holds _ _ _ _ _ _ _ _ c.in-Choose.is (sym c.value.ensures ∙ c.in_ok-value-in-Choose.was) c.if-branch-ne0.true c.get.ensures c.next_task.ensures

pub returns-else-branch-ne0 : goal.returns-else-branch-ne0
returns-else-branch-ne0 t c =
    choose_fails _ _ _ _ _ _ _ _ c.in-Choose.is (sym c.value.ensures ∙ c.in_ok-value-in-Choose.was) c.if-branch-ne0.false c.get-else-branch-ne0.ensures c.next_task-else-branch-ne0.ensures
