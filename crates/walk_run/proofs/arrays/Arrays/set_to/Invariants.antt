-- The arrays so far are as the others, and all have as many words.
use Rattle.std.proofs.Common.{◌≡◌, map, length, take}
use Rattle.walk_run.proofs.arrays.Arrays.set_to.Given as goal

abbrev pub invariant-arrays : goal.invariant-arrays
invariant-arrays l = record {
  so_far : take l.number l.self ≡ take l.number l.other;
  shape : map length l.self ≡ map length l.other;
}
