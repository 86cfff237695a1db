-- By its lemma.
use Rattle.act_laws.proofs.SimpleActs.{seal_copy_acts}
use Rattle.act_laws.proofs.laws.a_copy_is_sealed.Goals as goal

pub returns : goal.returns
returns c = λ p x f n k next s. seal_copy_acts p x f n k next s
