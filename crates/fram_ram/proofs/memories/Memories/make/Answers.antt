-- The words of both memories at the start.
use Rattle.fram_ram.proofs.StoreLemmas.{made}
use Rattle.fram_ram.proofs.memories.Memories.make.Goals as goal

pub returns : goal.returns
returns c = made _ _ c.args.first.now c.requires c.in_ok-fram.ensures.words c.in_ok-ram.ensures.words
