-- By where places lie.
use Rattle.ram_laws.proofs.CellsStay.{constants_same}
use Rattle.ram_laws.proofs.laws.words_of_ram_leave_constants.Goals as goal

pub returns : goal.returns
returns g = λ c m n store well h same.
    constants_same (λ k b w few. g.each_place_lies_in_its_area.ensures k b w few) c well m n same store h
