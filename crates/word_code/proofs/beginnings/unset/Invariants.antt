-- What is there with what is left is all.
use Rattle.word_code.specs.Beginnings.{unset_code}
use Rattle.word_code.proofs.RepeatLemmas.{IsOnRun}
use Rattle.word_code.proofs.beginnings.unset.Given as goal

abbrev pub invariant-pointers : goal.invariant-pointers
invariant-pointers l = IsOnRun unset_code 2 l.initial.code l.code l.pointer l.count
