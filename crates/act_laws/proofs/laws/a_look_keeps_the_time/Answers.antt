-- By its lemma.
use Rattle.act_laws.proofs.SimpleActs.{look_acts}
use Rattle.act_laws.proofs.laws.a_look_keeps_the_time.Goals as goal

pub returns : goal.returns
returns c = λ p x f k next s. look_acts p x f k next s
