-- By its lemma.
use Rattle.act_laws.proofs.SimpleActs.{take_acts}
use Rattle.act_laws.proofs.laws.a_kept_word_is_taken.Goals as goal

pub returns : goal.returns
returns c = λ p x f k next s. take_acts p x f k next s
