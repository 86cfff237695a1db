-- What is there with what is left is all.
use Rattle.std.proofs.Common.{◌≡◌, ◌+◌, drop, length}
use Rattle.word_code.specs.CodeOf.{boot_stubs}
use Rattle.word_code.proofs.JobLemmas.{IsOnJobs}
use Rattle.word_code.proofs.tasks.boot_stubs.Given as goal

abbrev pub invariant-tasks : goal.invariant-tasks
invariant-tasks l = (length l.code ≡ length l.initial.code + l.number)
    × IsOnJobs l.b.plan l.b.core (boot_stubs l.b.plan) l.initial.code l.first l.code l.at l.number (drop l.number l.b.core.tasks)
