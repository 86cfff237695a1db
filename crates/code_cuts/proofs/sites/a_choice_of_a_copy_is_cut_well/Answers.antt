-- By the fronts of its small steps.
use Rattle.run_plan.specs.declared.act.Act.TheBlock.{shape-the_row-Act-0, hidden-the_row-Act-0}
use Rattle.code_cuts.proofs.Calls.{choose_copy_cuts}
use Rattle.code_cuts.proofs.sites.a_choice_of_a_copy_is_cut_well.Goals as goal

pub returns : goal.returns
returns g = λ p place_of d number keeps k most issue keep here is.
    choose_copy_cuts (λ q e begun m counts s w. g.a_write_keeps_memory.ensures q e begun m counts s w) (λ q e m n counts s. g.same_fram_keeps_cells.ensures q e m n counts s) p place_of d number keeps k most (shape-the_row-Act-0 issue) (hidden-the_row-Act-0 issue) (shape-the_row-Act-0 keep) (hidden-the_row-Act-0 keep) here is
