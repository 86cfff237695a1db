-- The arrays so far are as they are declared.
use Rattle.std.proofs.Common.{◌≡◌, map, take}
use Rattle.walk_run.proofs.arrays.Arrays.declared.Given as goal

abbrev pub invariant-arrays : goal.invariant-arrays
invariant-arrays l = map (λ words. words.items) l.words.items ≡ map (λ a. a.first) (take l.array-index l.arrays)
