-- The states so far, with the run that is left, are the whole run.
use Rattle.walk_run.specs.Walk.{walk_of}
use Rattle.walk_run.proofs.UnderWay.{IsUnderWay}
use Rattle.walk_run.proofs.run.walk.Given as goal

abbrev pub invariant-tasks : goal.invariant-tasks
invariant-tasks l = IsUnderWay l.c l.tasks l._ended l.next l.live l.readings l.states (walk_of l.c l.initial.readings l.tasks)
