-- What is written so far, with the tasks that are left, is the whole.
use Rattle.std.proofs.Common.{◌≡◌, ◌++◌, drop}
use Rattle.site_account.specs.Account.{tasks_text}
use Rattle.site_account.specs.Places.{program_places}
use Rattle.site_account.proofs.account.account_text.Given as goal

abbrev pub invariant-tasks : goal.invariant-tasks
invariant-tasks l =
    l.out ++ tasks_text l.core (program_places l.program) l.number (drop l.number l.core.tasks) ≡ tasks_text l.core (program_places l.program) 0 l.core.tasks
