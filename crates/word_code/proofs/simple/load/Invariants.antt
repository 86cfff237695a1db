-- What is there with what is left is all.
use Rattle.word_code.specs.Acts.{load_code}
use Rattle.word_code.proofs.RepeatLemmas.{IsOnRun}
use Rattle.word_code.proofs.simple.load.Given as goal

abbrev pub invariant-arguments : goal.invariant-arguments
invariant-arguments l = IsOnRun load_code 1 l.initial.code l.code l.number l.count
