-- The words so far are decoded.
use Rattle.std.proofs.Common.{◌≡◌, map, take}
use Rattle.word_machine.specs.Loading.{bare_cell}
use Rattle.word_machine.proofs.loading.decode_all.Given as goal

abbrev pub invariant-words : goal.invariant-words
invariant-words l = l.cells.items ≡ map bare_cell (take l.word-index l.code)
