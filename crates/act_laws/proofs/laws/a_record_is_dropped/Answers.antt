-- By its lemma.
use Rattle.act_laws.proofs.SimpleActs.{drop_acts}
use Rattle.act_laws.proofs.laws.a_record_is_dropped.Goals as goal

pub returns : goal.returns
returns c = λ p x f k next s. drop_acts p x f k next s
