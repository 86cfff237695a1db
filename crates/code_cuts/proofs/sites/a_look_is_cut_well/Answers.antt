-- By the fronts of its small steps.
use Rattle.code_cuts.proofs.Calls.{look_cuts}
use Rattle.code_cuts.proofs.sites.a_look_is_cut_well.Goals as goal

pub returns : goal.returns
returns g = λ p place_of d number keeps k.
    look_cuts (λ q e begun m counts s w. g.a_write_keeps_memory.ensures q e begun m counts s w) (λ q e m n counts s. g.same_fram_keeps_cells.ensures q e m n counts s) p place_of d number keeps k
