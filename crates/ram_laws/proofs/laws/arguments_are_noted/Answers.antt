-- By where places lie.
use Rattle.ram_laws.proofs.Calling.{ram_argued}
use Rattle.ram_laws.proofs.laws.arguments_are_noted.Goals as goal

pub returns : goal.returns
returns g = λ c bank m store f words well h few.
    ram_argued (λ k b w few. g.each_place_lies_in_its_area.ensures k b w few) c bank m store f words well h few
