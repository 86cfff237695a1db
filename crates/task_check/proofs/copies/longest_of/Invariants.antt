use Rattle.std.proofs.Common.{◌≡◌, max, drop}
use Rattle.task_ast.specs.CoreSites.{longest}
use Rattle.task_check.proofs.copies.longest_of.Given as goal

abbrev pub invariant-loop-array : goal.invariant-loop-array
invariant-loop-array l = longest l.arrays l.numbers ≡ max l.most (longest l.arrays (drop l.array-index l.numbers))
