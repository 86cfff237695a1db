-- So many arrays so far.
use Rattle.std.proofs.Common.{◌≡◌, None, replicate}
use Rattle.region_split.proofs.owners.nobody.Given as goal

abbrev pub invariant-arrays : goal.invariant-arrays
invariant-arrays l = l.first.items ≡ replicate l.counter None
