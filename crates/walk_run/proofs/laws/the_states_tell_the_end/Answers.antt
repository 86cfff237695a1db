-- Each part of how a run ends.
use Rattle.walk_run.proofs.RunLaws.{walk_ends}
use Rattle.walk_run.proofs.laws.the_states_tell_the_end.Goals as goal

pub returns-clause-few : goal.returns-clause-few
returns-clause-few c = (walk_ends c.args.c.now c.args.readings.now c.args.tasks c.requires).few

pub returns-clause-stopped : goal.returns-clause-stopped
returns-clause-stopped c = (walk_ends c.args.c.now c.args.readings.now c.args.tasks c.requires).stopped

pub returns-clause-limit : goal.returns-clause-limit
returns-clause-limit c = (walk_ends c.args.c.now c.args.readings.now c.args.tasks c.requires).limit

pub returns-clause-trapped : goal.returns-clause-trapped
returns-clause-trapped c = (walk_ends c.args.c.now c.args.readings.now c.args.tasks c.requires).trapped

pub returns-clause-reading : goal.returns-clause-reading
returns-clause-reading c = (walk_ends c.args.c.now c.args.readings.now c.args.tasks c.requires).reading
