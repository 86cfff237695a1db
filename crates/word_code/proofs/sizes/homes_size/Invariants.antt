-- What is counted with what is left is all.
use Rattle.std.proofs.Common.{◌≡◌, ◌≤◌, ◌+◌, drop, min}
use Rattle.word_code.specs.Beginnings.{homes_size}
use Rattle.word_code.proofs.sizes.homes_size.Given as goal

abbrev pub invariant-arrays : goal.invariant-arrays
invariant-arrays l = (min (l.size + homes_size l.areas (drop l.array-index l.arrays)) 4294967295 ≡ min (homes_size l.areas l.arrays) 4294967295) × (l.size ≤ 4294967295)
