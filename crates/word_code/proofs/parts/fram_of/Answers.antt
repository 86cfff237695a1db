-- The homes have no more than their area.
use Rattle.std.proofs.Common.{arith}
use Rattle.word_code.proofs.BeginLemmas.{fram_short}
use Rattle.word_code.proofs.parts.fram_of.Goals as goal

pub overflow_sub-count : goal.overflow_sub-count
overflow_sub-count c = omega (arith, fram_short _ _ _ c.args.arrays.now c.new-fram.ensures c.in_ok-push.ensures.ok c.in_ok-put_homes.ensures c.requires, c.len-count.ensures)
