-- By its lemma.
use Rattle.act_laws.proofs.TableActs.{choose_copy_acts}
use Rattle.act_laws.proofs.laws.a_copy_chooses.Goals as goal

pub returns : goal.returns
returns c = λ p x n k keep issue s has. choose_copy_acts p x n k keep issue s has
