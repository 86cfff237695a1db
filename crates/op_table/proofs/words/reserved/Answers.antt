use Rattle.op_table.specs.Reserved.{reserved_words}
use Rattle.op_table.proofs.ReservedLemmas.{no_twins}
use Rattle.op_table.proofs.words.reserved.Goals as goal

pub is_name_of-requires-clause-clear : goal.is_name_of-requires-clause-clear
unfolding reserved_words
is_name_of-requires-clause-clear c = no_twins

pub returns : goal.returns
unfolding reserved_words
returns c = c.is_name_of.ensures
