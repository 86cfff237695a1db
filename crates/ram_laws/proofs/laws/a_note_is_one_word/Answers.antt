-- By where places lie.
use Rattle.ram_laws.proofs.Noting.{ram_noted}
use Rattle.ram_laws.proofs.laws.a_note_is_one_word.Goals as goal

pub returns : goal.returns
returns g = λ c bank m store f note well h fits.
    ram_noted (λ k b w few. g.each_place_lies_in_its_area.ensures k b w few) c bank m store f note well h fits
