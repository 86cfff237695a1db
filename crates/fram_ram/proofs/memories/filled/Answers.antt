-- Zeros behind the first words.
use Rattle.fram_ram.proofs.StoreLemmas.{filled_words}
use Rattle.fram_ram.proofs.memories.filled.Goals as goal

pub returns-clause-words : goal.returns-clause-words
returns-clause-words c k =
    filled_words c.in_ok-words.words.items c.extend_from_slice.new.self.items c.resize.new.self.items c.args.first.now
    c.args.count _ k c.requires c.in_ok-words.ensures.items c.in_ok-extend_from_slice.ensures.items c.in_ok-resize.ensures.items
