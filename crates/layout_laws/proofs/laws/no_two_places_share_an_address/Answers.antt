-- By its lemma.
use Rattle.layout_laws.proofs.Apart.{program_apart}
use Rattle.layout_laws.proofs.laws.no_two_places_share_an_address.Goals as goal

pub returns : goal.returns
returns g = λ c bank w banks. program_apart c bank w banks
