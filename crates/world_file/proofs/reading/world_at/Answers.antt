use Rattle.std.proofs.Common.{rules}
use Rattle.toml.specs.View.{table_view}
use Rattle.world_file.proofs.AnswerLemmas.{answer_of_table}
use Rattle.world_file.proofs.reading.world_at.Goals as goal

pub returns-in-Ok-clause-is : goal.returns-in-Ok-clause-is
returns-in-Ok-clause-is c =
    answer_of_table c.args.bytes.now c.args.names.now (table_view c.in-Ok.top) c.world_in.result (search rules) c.world_in.ensures.is
