-- A store of a program stays one.
use Rattle.walk_run.proofs.Fitting.{task_fits}
use Rattle.walk_run.proofs.laws.a_store_keeps_its_shape.Goals as goal

pub returns : goal.returns
returns c = task_fits c.args.c.now
