-- By where places lie.
use Rattle.ram_laws.proofs.Relating.{related_is}
use Rattle.ram_laws.proofs.laws.memory_is_related.Goals as goal

pub returns : goal.returns
returns g = λ c bank m store f well few bases whole homes constants ram.
    related_is c bank (g.no_place_is_a_cell_of_the_code.ensures c bank well few) m store f bases whole homes constants ram
