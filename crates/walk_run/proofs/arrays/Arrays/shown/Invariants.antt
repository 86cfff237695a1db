-- What is shown so far, with what is left, is the whole.
use Rattle.std.proofs.Common.{◌≡◌, ◌++◌, drop}
use Rattle.walk_run.specs.Store.{shown_words}
use Rattle.walk_run.proofs.arrays.Arrays.shown.Given as goal

abbrev pub invariant-arrays : goal.invariant-arrays
invariant-arrays l = l.shown ++ shown_words (drop l.number l.arrays) (drop l.number l.self) ≡ shown_words l.arrays l.self
