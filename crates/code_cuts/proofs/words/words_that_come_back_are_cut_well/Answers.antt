-- By the fronts of its small steps.
use Rattle.code_cuts.proofs.Moves.{from_kept_cuts}
use Rattle.code_cuts.proofs.words.words_that_come_back_are_cut_well.Goals as goal

pub returns : goal.returns
returns g = λ p place_of d number keeps k most here is.
    from_kept_cuts (λ c b well few. g.each_place_lies_in_its_area.ensures c b well few) (λ c b well few. g.no_two_places_share_an_address.ensures c b well few) (λ q e begun m counts s w. g.a_write_keeps_memory.ensures q e begun m counts s w) (λ q e m n counts s. g.same_fram_keeps_cells.ensures q e m n counts s) (λ q e m s. g.memory_is_related_between_acts.ensures q e m s) p place_of d number keeps k most here is
