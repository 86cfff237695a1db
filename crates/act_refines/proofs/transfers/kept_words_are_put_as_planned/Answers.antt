-- By its template, and by the laws on writes and places.
use Rattle.act_refines.proofs.Moved.{put_words_does}
use Rattle.act_refines.proofs.transfers.kept_words_are_put_as_planned.Goals as goal

pub returns : goal.returns
returns g = λ p place_of d number keeps k most here site_is.
    put_words_does (λ q x f i next n to s. g.kept_words_are_put.ensures q x f i next n to s) (λ c b well few. g.each_place_lies_in_its_area.ensures c b well few) (λ q e begun m counts s w. g.a_write_keeps_memory.ensures q e begun m counts s w) (λ q e m n counts s. g.same_fram_keeps_cells.ensures q e m n counts s) (λ q e m s. g.memory_is_related_between_acts.ensures q e m s) (λ c b well few. g.no_two_places_share_an_address.ensures c b well few) p place_of d number keeps k most here site_is
