-- What is there with what is left is all.
use Rattle.std.proofs.Common.{drop, length}
use Rattle.word_code.specs.CodeOf.{jobs_code}
use Rattle.word_code.proofs.JobLemmas.{IsOnJobs}
use Rattle.word_code.proofs.tasks.tasks_code.Given as goal

abbrev pub invariant-tasks : goal.invariant-tasks
invariant-tasks l = IsOnJobs l.b.plan l.b.core (jobs_code l.b.plan) l.initial.code (length l.initial.code) l.code (length l.code) l.number (drop l.number l.b.core.tasks)
