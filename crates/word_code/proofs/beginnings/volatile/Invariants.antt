-- What is there with what is left is all.
use Rattle.std.proofs.Common.{◌≡◌, ◌≤◌, ◌+◌, ◌*◌, ◌++◌, drop, length}
use Rattle.line_code.specs.Areas.{total}
use Rattle.word_code.specs.Beginnings.{volatile_code, volatile_count}
use Rattle.word_code.proofs.beginnings.volatile.Given as goal

abbrev pub invariant-arrays : goal.invariant-arrays
invariant-arrays l =
    (l.code ++ volatile_code l.at (drop l.array-index l.arrays) ≡ l.initial.code ++ volatile_code 832 l.arrays)
    × (length l.code + 3 * volatile_count (drop l.array-index l.arrays) ≡ length l.initial.code + 3 * volatile_count l.arrays)
    × (l.at + total (drop l.array-index l.arrays) ≤ 4928)
