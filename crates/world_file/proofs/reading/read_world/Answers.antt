use Rattle.world_file.proofs.AnswerLemmas.{only_world}
use Rattle.world_file.proofs.reading.read_world.Goals as goal

pub returns-clause-only : goal.returns-clause-only
returns-clause-only c = only_world c.args.bytes.now c.args.names.now c.world_at.result c.world_at.ensures.is
