use Rattle.std.proofs.Common.{rules}
use Rattle.toml.specs.View.{table_view}
use Rattle.world_file.proofs.LimitLemmas.{world_fits}
use Rattle.world_file.proofs.reading.world_in.Goals as goal

pub returns-in-None-clause-within : goal.returns-in-None-clause-within
returns-in-None-clause-within c =
    world_fits c.args.names.now (table_view c.args.top.now) c.in_ok-world.world (search rules) (search rules) (search rules) (search rules)
