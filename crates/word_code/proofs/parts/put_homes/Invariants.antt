-- What is there with what is left is all.
use Rattle.std.proofs.Common.{◌≡◌, ◌++◌, drop}
use Rattle.word_code.specs.CodeOf.{homes_of}
use Rattle.word_code.proofs.parts.put_homes.Given as goal

abbrev pub invariant-arrays : goal.invariant-arrays
invariant-arrays l = l.fram ++ homes_of (drop l.array-index l.arrays) ≡ l.initial.fram ++ homes_of l.arrays
