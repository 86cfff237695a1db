-- The tables so far.
use Rattle.std.proofs.Common.{take}
use Rattle.audit_gather.specs.Tasks.{AreTables}
use Rattle.audit_gather.proofs.tasks.tables.Given as goal

abbrev pub invariant-tasks : goal.invariant-tasks
invariant-tasks l = AreTables l.c (take l.t-index l.c.tasks) l.tables
