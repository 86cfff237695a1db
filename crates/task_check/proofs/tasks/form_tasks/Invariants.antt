use Rattle.std.proofs.Common.{◌≡◌, map, take}
use Rattle.task_check.specs.CheckedForm.{core_task}
use Rattle.task_check.specs.Table.{meanings}
use Rattle.task_check.proofs.tasks.form_tasks.Given as goal

abbrev pub invariant-loop-t : goal.invariant-loop-t
invariant-loop-t l = l.done ≡ map (core_task (meanings l.names) l.arrays) (take l.t-index l.tasks)
