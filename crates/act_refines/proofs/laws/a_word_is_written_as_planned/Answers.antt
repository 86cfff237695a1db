-- By its template.
use Rattle.act_refines.proofs.Writing.{write_does}
use Rattle.act_refines.proofs.laws.a_word_is_written_as_planned.Goals as goal

pub returns : goal.returns
returns g = λ p place_of d number keeps k q target args code.
    write_does (λ c b well few. g.each_place_lies_in_its_area.ensures c b well few) (λ c b well few. g.no_place_is_a_cell_of_the_code.ensures c b well few) (λ q e begun m counts s w. g.a_write_keeps_memory.ensures q e begun m counts s w) (λ q e m n counts s. g.same_fram_keeps_cells.ensures q e m n counts s) (λ q e m s. g.memory_is_related_between_acts.ensures q e m s) (λ c b well few. g.no_two_places_share_an_address.ensures c b well few) (λ r x i j target args a next s. g.a_word_is_written.ensures r x i j target args a next s) p place_of d number keeps k q target args code
