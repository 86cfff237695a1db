-- An `if` by its condition, and a block by its body.
use Rattle.audit_check.proofs.StatementCode.{if_holds, if_fails, block_is}
use Rattle.audit_check.proofs.walking.Walking.+walk.Goals as goal

pub statement-returns-then-word-ne0 : goal.statement-returns-then-word-ne0
statement-returns-then-word-ne0 t c =
    if_holds c.args.around.now c.args.s.now _ _ _ _ _ _ _ _ _ c.in-If.is c.in_ok-word-in-If.ensures c.if-word-ne0.true c.as_slice.ensures c.body.ensures

pub statement-returns-else-word-ne0 : goal.statement-returns-else-word-ne0
statement-returns-else-word-ne0 t c =
    if_fails c.args.around.now c.args.s.now _ _ _ _ _ _ _ _ _ c.in-If.is c.in_ok-word-in-If.ensures c.if-word-ne0.false c.as_slice-else-word-ne0.ensures c.body-else-word-ne0.ensures

pub statement-returns-in-Block : goal.statement-returns-in-Block
statement-returns-in-Block t c = block_is c.args.around.now c.args.s.now _ _ _ _ _ _ c.in-Block.is c.as_slice-in-Block.ensures c.block.ensures
