-- What is there with what is left is all.
use Rattle.std.proofs.Common.{drop}
use Rattle.word_code.proofs.ValueLemmas.{IsOnArgs}
use Rattle.word_code.proofs.values.arguments.Given as goal

abbrev pub invariant-arguments : goal.invariant-arguments
invariant-arguments l = IsOnArgs l.areas l.initial.code l.args l.code l.number (drop l.number l.args)
