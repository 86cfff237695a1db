-- What is there with what is left is all.
use Rattle.word_code.specs.Beginnings.{moved_code}
use Rattle.word_code.proofs.RepeatLemmas.{IsOnRun}
use Rattle.word_code.proofs.beginnings.moved.Given as goal

abbrev pub invariant-words : goal.invariant-words
invariant-words l = IsOnRun (moved_code l.from l.to) 2 l.initial.code l.code l.word l.count
