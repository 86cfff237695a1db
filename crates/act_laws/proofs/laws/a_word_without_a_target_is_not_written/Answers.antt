-- By its lemma.
use Rattle.act_laws.proofs.SimpleActs.{write_none_acts}
use Rattle.act_laws.proofs.laws.a_word_without_a_target_is_not_written.Goals as goal

pub returns : goal.returns
returns c = λ p x k q args next s. write_none_acts p x k q args next s
