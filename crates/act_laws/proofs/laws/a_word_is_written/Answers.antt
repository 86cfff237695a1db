-- By its lemma.
use Rattle.act_laws.proofs.SimpleActs.{write_acts}
use Rattle.act_laws.proofs.laws.a_word_is_written.Goals as goal

pub returns : goal.returns
returns c = λ p x k q target args a next s. write_acts p x k q target args a next s
