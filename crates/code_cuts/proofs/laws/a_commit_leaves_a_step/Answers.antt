-- By the fronts of its small steps.
use Rattle.code_cuts.proofs.Commits.{commit_early}
use Rattle.code_cuts.proofs.laws.a_commit_leaves_a_step.Goals as goal

pub returns : goal.returns
returns g = λ p place_of d number keeps task few.
    commit_early (λ q x f i next s. g.an_instance_is_committed.ensures q x f i next s) (λ q e begun m counts s w. g.a_write_keeps_memory.ensures q e begun m counts s w) (λ q e m n counts s. g.same_fram_keeps_cells.ensures q e m n counts s) (λ q places e i b t small. g.an_instance_is_committed_as_planned.ensures q places e i b t small) p place_of d number keeps task few
