-- By where places lie.
use Rattle.cell_laws.proofs.Writes.{write_stands}
use Rattle.cell_laws.proofs.laws.a_write_of_the_plan_is_one_word.Goals as goal

pub returns : goal.returns
returns g = λ c scheme t m s w well stands fits.
    write_stands (λ k bank h few. g.each_place_lies_in_its_area.ensures k bank h few) (λ k bank h few. g.no_two_places_share_an_address.ensures k bank h few) c scheme t m s w well stands fits
