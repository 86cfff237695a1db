use Rattle.task_check.specs.CheckedForm.{core_task}
use Rattle.task_check.specs.Table.{meanings}
use Rattle.task_check.proofs.ListLemmas.{map_more}
use Rattle.task_check.proofs.tasks.form_tasks.Goals as goal

pub loop-t-preserved : goal.loop-t-preserved
loop-t-preserved c =
    map_more c.args.tasks.now c.loop-t.t-index c.t-item.result c.loop-t-test.true c.t-item.is (core_task (meanings c.args.names.now) c.args.arrays.now) _ _ _ c.loop-t.invariant c.in_ok-push.ensures.ok c.in_ok-form_task.ensures
