-- By the fronts of its small steps.
use Rattle.code_cuts.proofs.Moves.{to_kept_cuts}
use Rattle.code_cuts.proofs.words.words_that_go_aside_are_cut_well.Goals as goal

pub returns : goal.returns
returns g = λ p place_of d number keeps k.
    to_kept_cuts (λ q e begun m counts s w. g.a_write_keeps_memory.ensures q e begun m counts s w) (λ q e m n counts s. g.same_fram_keeps_cells.ensures q e m n counts s) (λ q e m s. g.memory_is_related_between_acts.ensures q e m s) p place_of d number keeps k
