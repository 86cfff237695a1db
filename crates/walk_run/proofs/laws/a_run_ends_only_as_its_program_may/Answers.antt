-- How a run may end, by its program.
use Rattle.walk_run.proofs.TameTasks.{never_unset, never_range, never_without_reading}
use Rattle.walk_run.proofs.laws.a_run_ends_only_as_its_program_may.Goals as goal

pub returns-clause-unset : goal.returns-clause-unset
returns-clause-unset c = never_unset c.args.c.now c.requires c.args.readings.now c.args.tasks

pub returns-clause-range : goal.returns-clause-range
returns-clause-range c = never_range c.args.c.now c.requires c.args.readings.now c.args.tasks

pub returns-clause-reading : goal.returns-clause-reading
returns-clause-reading c = never_without_reading c.args.c.now c.requires c.args.readings.now c.args.tasks
