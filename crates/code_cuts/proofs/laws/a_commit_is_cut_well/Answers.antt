-- By the fronts of its small steps.
use Rattle.code_cuts.proofs.Commits.{commit_cuts}
use Rattle.code_cuts.proofs.laws.a_commit_is_cut_well.Goals as goal

pub returns : goal.returns
returns g = λ p place_of d number keeps task few low.
    commit_cuts (λ q e begun m counts s w. g.a_write_keeps_memory.ensures q e begun m counts s w) (λ q e m n counts s. g.same_fram_keeps_cells.ensures q e m n counts s) (λ q places e i b t small. g.an_instance_is_committed_as_planned.ensures q places e i b t small) p place_of d number keeps task few low
