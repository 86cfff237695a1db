-- Constants at the start, and after each task.
use Rattle.walk_run.proofs.Constants.{declared_constants, task_constants}
use Rattle.walk_run.proofs.laws.a_constant_never_changes.Goals as goal

pub returns-clause-first : goal.returns-clause-first
returns-clause-first c = declared_constants c.args.c.now

pub returns-clause-task : goal.returns-clause-task
returns-clause-task c = task_constants c.args.c.now c.requires
