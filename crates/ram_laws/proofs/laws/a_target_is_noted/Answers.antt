-- By where places lie.
use Rattle.ram_laws.proofs.Calling.{ram_aimed}
use Rattle.ram_laws.proofs.laws.a_target_is_noted.Goals as goal

pub returns : goal.returns
returns g = λ c bank m store f at well h inside written.
    ram_aimed (λ k b w few. g.each_place_lies_in_its_area.ensures k b w few) c bank m store f at well h inside written
