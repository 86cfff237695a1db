-- What is there with what is left is all.
use Rattle.std.proofs.Common.{◌≡◌, ◌++◌, drop}
use Rattle.word_code.specs.CodeOf.{symbols_from}
use Rattle.word_code.proofs.parts.symbols_of.Given as goal

abbrev pub invariant-arrays : goal.invariant-arrays
invariant-arrays l = l.symbols ++ symbols_from l.areas l.number (drop l.number l.arrays) ≡ symbols_from l.areas 0 l.arrays
