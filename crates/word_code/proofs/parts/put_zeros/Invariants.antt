-- So many are there.
use Rattle.std.proofs.Common.{◌≡◌, ◌++◌}
use Rattle.std.specs.Prelude.{replicate}
use Rattle.word_code.proofs.parts.put_zeros.Given as goal

abbrev pub invariant-words : goal.invariant-words
invariant-words l = l.fram ≡ l.initial.fram ++ replicate l._word 0
