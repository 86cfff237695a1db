-- What is there with what is left is all.
use Rattle.std.proofs.Common.{◌≡◌, ◌+◌, ◌++◌, drop, length}
use Rattle.word_code.specs.Beginnings.{homes_code, homes_size}
use Rattle.word_code.proofs.beginnings.homes.Given as goal

abbrev pub invariant-arrays : goal.invariant-arrays
invariant-arrays l =
    (l.code ++ homes_code l.areas l.from l.to (drop l.array-index l.arrays) ≡ l.initial.code ++ homes_code l.areas l.from l.to l.arrays)
    × (length l.code + homes_size l.areas (drop l.array-index l.arrays) ≡ length l.initial.code + homes_size l.areas l.arrays)
