-- By its lemma.
use Rattle.layout_laws.proofs.Apart.{program_areas}
use Rattle.layout_laws.proofs.laws.each_place_lies_in_its_area.Goals as goal

pub returns : goal.returns
returns g = λ c bank w banks. program_areas c bank w banks
