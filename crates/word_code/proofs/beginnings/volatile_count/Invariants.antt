-- What is counted with what is left is all.
use Rattle.std.proofs.Common.{◌≡◌, ◌+◌, drop}
use Rattle.word_code.specs.Beginnings.{volatile_count}
use Rattle.word_code.proofs.beginnings.volatile_count.Given as goal

abbrev pub invariant-arrays : goal.invariant-arrays
invariant-arrays l = l.count + volatile_count (drop l.array-index l.arrays) ≡ volatile_count l.arrays
