-- Draw by draw.
use Rattle.soak_case.proofs.Drawing.{none_behind, one_behind, turn_state}
use Rattle.soak_case.proofs.readings.pass_source.Goals as goal

pub numbers-init : goal.numbers-init
numbers-init c = none_behind _

pub numbers-preserved : goal.numbers-preserved
numbers-preserved c = turn_state 1 c.numbers._done _ _ _ c.numbers.invariant (one_behind _ _ c.draw.ensures.state)
