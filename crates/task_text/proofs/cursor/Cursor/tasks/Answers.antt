use Rattle.std.proofs.Common.{sym, subst, ◌∙◌, refl}
use Rattle.std.proofs.lemmas.Result.{err_from_is_err_and}
use Rattle.task_tokens.specs.declared.token.Keyword.TheVariants as keyword
use Rattle.task_text.specs.Reading.{begins_reserved}
use Rattle.task_text.specs.ReadingProgram.{task_at, tasks_at}
use Rattle.task_text.proofs.Items.{Items, Items-more, Items-break, Items-all}
use Rattle.task_text.proofs.TaskLaws.{task-takes}
use Rattle.task_text.proofs.Terms.{Gives-exit}
use Rattle.task_text.proofs.cursor.Cursor.tasks.Goals as goal

pub returns-in_err-task : goal.returns-in_err-task
returns-in_err-task c =
    let p = err_from_is_err_and c.from_residual.result c.from_residual.ensures.1 in
    Gives-exit _ _ _ _ _ c.in_err-task.ensures (λ us e. Items-break (begins_reserved keyword.Task) task_at _ _ _ us refl c.items.invariant (sym c.begins_reserved.ensures ∙ c.items-test.true) e) p

pub items-smaller : goal.items-smaller
items-smaller c = task-takes _ _ _ c.in_ok-task.ensures

pub items-preserved : goal.items-preserved
items-preserved c =
    subst (λ xs. Items (begins_reserved keyword.Task) task_at (tasks_at c.args.self.now) xs c.task.new.self) (sym c.in_ok-push.ensures.ok)
    (Items-more (begins_reserved keyword.Task) task_at _ _ _ _ _ refl task-takes c.items.invariant (sym c.begins_reserved.ensures ∙ c.items-test.true) c.in_ok-task.ensures)

pub returns : goal.returns
returns c = Items-all (begins_reserved keyword.Task) task_at _ _ _ c.items.invariant (sym c.begins_reserved.ensures ∙ c.items-test.false)
