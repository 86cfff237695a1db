-- By where places lie.
use Rattle.ram_laws.proofs.Stays.{constants_left}
use Rattle.ram_laws.proofs.laws.a_write_of_the_plan_leaves_constants.Goals as goal

pub returns : goal.returns
returns g = λ c scheme t m s w well fits h.
    constants_left (λ k bank b few. g.each_place_lies_in_its_area.ensures k bank b few) c scheme t m s w well fits h
