use Rattle.std.specs.Prelude.{refl}
use Rattle.word_isa.specs.Listing.{instruction_table}
use Rattle.word_isa.proofs.listing.list_word.Goals as goal

pub put_word-requires : goal.put_word-requires
unfolding instruction_table
put_word-requires c = refl
