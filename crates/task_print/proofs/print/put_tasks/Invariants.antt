-- What is put so far, with what is left to put, is the whole.
use Rattle.std.proofs.Common.{◌≡◌, ◌++◌, drop}
use Rattle.std.specs.List.{flat_map}
use Rattle.task_print.specs.Printed.{trailed, task_tokens}
use Rattle.task_print.proofs.print.put_tasks.Given as goal

abbrev pub invariant-tasks : goal.invariant-tasks
invariant-tasks l = l.out ++ trailed (flat_map task_tokens (drop l.t-index l.tasks)) ≡ l.initial.out ++ trailed (flat_map task_tokens l.tasks)
