-- A dependent stands in a range of later numbers.
use Rattle.io_depend.proofs.Behind.{later}
use Rattle.io_depend.proofs.laws.dependents_come_later.Goals as goal

pub returns : goal.returns
returns c = λ site k is. later c.args.t.now site k is
