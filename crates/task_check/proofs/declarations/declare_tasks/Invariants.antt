use Rattle.std.proofs.Common.{◌≡◌, take}
use Rattle.task_check.specs.Names.{declared_tasks, extended}
use Rattle.task_check.specs.Table.{meanings}
use Rattle.task_check.proofs.declarations.declare_tasks.Given as goal

abbrev pub invariant-loop-at : goal.invariant-loop-at
invariant-loop-at l = meanings l.names ≡ extended (meanings l.initial.names) (declared_tasks 1 (take l.at l.tasks))
