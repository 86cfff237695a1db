-- An `if` and a block by their bodies.
use Rattle.std.proofs.Common.{◌∙◌}
use Rattle.word_code.proofs.FindLemmas.{found_here, found_there, found_block, found_at}
use Rattle.word_code.proofs.finding.+find.Goals as goal

pub find_in-returns-in-Some : goal.find_in-returns-in-Some
find_in-returns-in-Some t c = found_here c.args.site c.args.s.now _ _ _ _ _ c.in-If.is c.as_slice.ensures c.in-Some.ensures

pub find_in-returns-in-None : goal.find_in-returns-in-None
find_in-returns-in-None t c = found_there c.args.site c.args.s.now _ _ _ _ _ _ c.in-If.is c.as_slice.ensures c.as_slice-in-None.ensures c.in-None.ensures c.find-in-None.ensures

pub find_in-returns-in-Block : goal.find_in-returns-in-Block
find_in-returns-in-Block t c = c.find-in-Block.ensures ∙ found_block c.args.site c.args.s.now _ _ _ c.in-Block.is c.as_slice-in-Block.ensures

pub find-returns-in-Some : goal.find-returns-in-Some
find-returns-in-Some t c = found_at c.args.site c.args.body.now c.statements.s-index c.s-item.result _ c.statements-test.true c.s-item.is c.statements.invariant c.in-Some.ensures
