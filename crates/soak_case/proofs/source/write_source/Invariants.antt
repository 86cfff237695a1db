-- What is written so far, with the tasks that are left, is the whole.
use Rattle.std.proofs.Common.{◌≡◌, ◌++◌, ◌+◌, ◌-◌}
use Rattle.soak_case.specs.Source.{source_of, tasks_text}
use Rattle.soak_case.proofs.source.write_source.Given as goal

abbrev pub invariant-tasks : goal.invariant-tasks
invariant-tasks l = l.out ++ tasks_text (l.done + 1) (64 - l.done) l.draws ≡ source_of l.number
