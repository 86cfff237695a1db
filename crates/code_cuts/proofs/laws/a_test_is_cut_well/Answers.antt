-- By the fronts of its small steps.
use Rattle.run_plan.specs.declared.act.Act.TheBlock.{shape-the_row-Act-0, hidden-the_row-Act-0}
use Rattle.code_cuts.proofs.Simple.{test_cuts}
use Rattle.code_cuts.proofs.laws.a_test_is_cut_well.Goals as goal

pub returns : goal.returns
returns g = λ p place_of d number keeps e first second.
    test_cuts (λ q e begun m counts s w. g.a_write_keeps_memory.ensures q e begun m counts s w) (λ q e m n counts s. g.same_fram_keeps_cells.ensures q e m n counts s) p place_of d number keeps e (shape-the_row-Act-0 first) (hidden-the_row-Act-0 first) (shape-the_row-Act-0 second) (hidden-the_row-Act-0 second)
