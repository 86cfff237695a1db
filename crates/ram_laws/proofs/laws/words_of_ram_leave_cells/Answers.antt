-- By where places lie.
use Rattle.ram_laws.proofs.CellsStay.{cells_same}
use Rattle.ram_laws.proofs.laws.words_of_ram_leave_cells.Goals as goal

pub returns : goal.returns
returns g = λ c scheme t m n s well h same.
    cells_same (λ k b w few. g.each_place_lies_in_its_area.ensures k b w few) c well m n same scheme t s h
