-- What is counted with what is left is all.
use Rattle.std.proofs.Common.{◌≡◌, ◌+◌, drop}
use Rattle.word_code.specs.Beginnings.{home_count}
use Rattle.word_code.proofs.beginnings.home_count.Given as goal

abbrev pub invariant-arrays : goal.invariant-arrays
invariant-arrays l = l.count + home_count (drop l.array-index l.arrays) ≡ home_count l.arrays
