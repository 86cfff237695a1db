-- What is there with what is left is all.
use Rattle.word_code.specs.Beginnings.{level_code}
use Rattle.word_code.proofs.RepeatLemmas.{IsOnRun}
use Rattle.word_code.proofs.beginnings.level.Given as goal

abbrev pub invariant-homes : goal.invariant-homes
invariant-homes l = IsOnRun level_code 2 l.initial.code l.code l.word l.count
