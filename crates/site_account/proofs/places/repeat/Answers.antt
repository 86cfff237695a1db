-- One turn more; and a body without sites has none in any turn.
use Rattle.site_account.proofs.Joining.{none_repeated, turn_more}
use Rattle.site_account.proofs.places.repeat.Goals as goal

pub turns-preserved : goal.turns-preserved
turns-preserved c = turn_more c.args.turns c.turns.counter _ _ _ _ c.turns-test.true c.turns.invariant c.in_ok-extend.ensures.ok

pub returns-then-is_empty : goal.returns-then-is_empty
returns-then-is_empty c = none_repeated _ _ _ _ c.is_empty.ensures c.if-is_empty.true
