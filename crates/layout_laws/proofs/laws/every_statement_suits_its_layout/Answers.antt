-- By its lemma.
use Rattle.layout_laws.proofs.Suiting.{program_suits}
use Rattle.layout_laws.proofs.laws.every_statement_suits_its_layout.Goals as goal

pub returns : goal.returns
returns g = λ c bank t level branched turning s w h. program_suits c bank t level branched turning s w h
