-- By where places lie.
use Rattle.cell_laws.proofs.Seals.{copy_sealed}
use Rattle.cell_laws.proofs.laws.a_copy_s_record_is_sealed.Goals as goal

pub returns : goal.returns
returns g = λ c scheme t m s k v n is.
    copy_sealed (λ q b h few. g.each_place_lies_in_its_area.ensures q b h few) (λ q b h few. g.no_two_places_share_an_address.ensures q b h few) c scheme t m s k v n is
