-- What is there with what is left is all; what is left passes, and where it fits, all fits.
use Rattle.std.proofs.Common.{◌≡◌, ◌++◌, drop}
use Rattle.word_code.specs.CodeOf.{words_of}
use Rattle.word_code.specs.Passing.{AllPass, AllFit}
use Rattle.word_code.proofs.lines.words_of.Given as goal

abbrev pub invariant-lines : goal.invariant-lines
invariant-lines l = (l.words ++ words_of (drop l.line-index l.lines) ≡ words_of l.lines) × AllPass (drop l.line-index l.lines) × (AllFit (drop l.line-index l.lines) → AllFit l.lines)
