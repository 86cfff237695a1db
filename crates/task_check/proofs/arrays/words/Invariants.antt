use Rattle.std.proofs.Common.{◌≡◌, ◌++◌, replicate}
use Rattle.task_check.proofs.arrays.words.Given as goal

abbrev pub invariant-loop : goal.invariant-loop
invariant-loop l = l.words ≡ l.values ++ replicate l.counter 0
