-- What is counted with what is left is all.
use Rattle.std.proofs.Common.{◌≡◌, ◌≤◌, ◌+◌, drop, min}
use Rattle.word_code.specs.Values.{args_size}
use Rattle.word_code.proofs.sizes.args_size.Given as goal

abbrev pub invariant-arguments : goal.invariant-arguments
invariant-arguments l = (min (l.size + args_size (drop l.e-index l.args)) 4294967295 ≡ min (args_size l.args) 4294967295) × (l.size ≤ 4294967295)
