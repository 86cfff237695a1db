-- By where places lie.
use Rattle.ram_laws.proofs.Stays.{ram_near}
use Rattle.ram_laws.proofs.laws.words_in_between_leave_ram.Goals as goal

pub returns : goal.returns
returns g = λ c bank m n store f well h same.
    ram_near (λ k b w few. g.each_place_lies_in_its_area.ensures k b w few) c bank m n store f well h same
