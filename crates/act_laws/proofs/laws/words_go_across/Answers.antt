-- By its lemma.
use Rattle.act_laws.proofs.WordActs.{across_acts}
use Rattle.act_laws.proofs.laws.words_go_across.Goals as goal

pub returns : goal.returns
returns c = λ p x f n to from k next s. across_acts p x f n to from k next s
