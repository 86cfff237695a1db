use Rattle.std.proofs.Common.{◌≡◌, ◌≤◌, ◌<◌, ◌^◌, sum_by, drop}
use Rattle.std.specs.List.{AllByRecursion}
use Rattle.task_ast.specs.Readable.{IsReadableTask}
use Rattle.task_ast.specs.Sizes.{task_size}
use Rattle.task_check.specs.Counted.{tasks_at}
use Rattle.task_check.specs.Table.{meanings}
use Rattle.task_check.proofs.tasks.check_tasks.Given as goal

abbrev pub invariant-loop-at : goal.invariant-loop-at
invariant-loop-at l = record {
  left : tasks_at (meanings l.names) l.arrays l.words 0 0 l.tasks ≡ tasks_at (meanings l.names) l.arrays l.words l.at l.nodes (drop l.at l.tasks);
  few : l.nodes ≤ 32768;
  readable : AllByRecursion IsReadableTask (drop l.at l.tasks);
  size : sum_by task_size (drop l.at l.tasks) < 2 ^ 32;
}
