-- What is there with what is left is all.
use Rattle.std.proofs.Common.{◌≡◌, ◌++◌, drop}
use Rattle.word_code.specs.CodeOf.{marks_of}
use Rattle.word_code.proofs.lines.marks_of.Given as goal

abbrev pub invariant-lines : goal.invariant-lines
invariant-lines l = l.marks ++ marks_of l.at (drop l.at l.lines) ≡ marks_of 0 l.lines
