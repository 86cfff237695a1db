-- By its lemma.
use Rattle.act_laws.proofs.SimpleActs.{seal_call_acts}
use Rattle.act_laws.proofs.laws.a_call_is_sealed.Goals as goal

pub returns : goal.returns
returns c = λ p x f ann k next s. seal_call_acts p x f ann k next s
