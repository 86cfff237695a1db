-- What is there with what is left is all.
use Rattle.std.proofs.Common.{◌≡◌, ◌++◌, drop}
use Rattle.word_code.specs.CodeOf.{constants_of}
use Rattle.word_code.proofs.parts.constants_of.Given as goal

abbrev pub invariant-arrays : goal.invariant-arrays
invariant-arrays l = l.words ++ constants_of (drop l.array-index l.arrays) ≡ constants_of l.arrays
