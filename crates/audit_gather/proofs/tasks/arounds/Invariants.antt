-- The tasks so far, and the tables of those that are left.
use Rattle.std.proofs.Common.{take, drop}
use Rattle.audit_gather.specs.Tasks.{AreTables, AreOfTasks}
use Rattle.audit_gather.proofs.tasks.arounds.Given as goal

abbrev pub invariant-tasks : goal.invariant-tasks
invariant-tasks l = record {
  left : AreTables l.c (drop l.task-index l.c.tasks) l.left;
  done : AreOfTasks l.c (take l.task-index l.c.tasks) l.tasks;
}
