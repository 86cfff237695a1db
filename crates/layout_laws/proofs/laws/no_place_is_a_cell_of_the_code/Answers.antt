-- By its lemma.
use Rattle.layout_laws.proofs.Apart.{program_outside}
use Rattle.layout_laws.proofs.laws.no_place_is_a_cell_of_the_code.Goals as goal

pub returns : goal.returns
returns g = λ c bank w banks. program_outside c bank w banks
