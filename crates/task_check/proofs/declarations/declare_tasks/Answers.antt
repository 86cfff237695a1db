use Rattle.std.proofs.Common.{ℕ, List, [], ◌∷◌, ap, ◌∙◌}
use Rattle.task_check.specs.declared.names.Meaning.TheVariants as meaning
use Rattle.task_check.specs.Names.{extended}
use Rattle.task_check.specs.Table.{meanings}
use Rattle.task_check.proofs.DeclarationLemmas.{task_declared}
use Rattle.task_check.proofs.declarations.declare_tasks.Goals as goal

pub loop-at-preserved : goal.loop-at-preserved
loop-at-preserved c =
    let after = c.in_ok-declare.ensures.declared ∙ ap (λ (t : List ℕ). extended (meanings c.loop-at.names) ((t, meaning.Task c.in_ok-task.task) ∷ [])) c.as_slice.ensures in
    task_declared c.args.tasks.now c.loop-at.at c.index-tasks-at.result c.in_ok-task.task (meanings c.args.names.now) (meanings c.loop-at.names) _ c.loop-at-test.true c.index-tasks-at.is c.in_ok-task.ensures.same c.loop-at.invariant after
