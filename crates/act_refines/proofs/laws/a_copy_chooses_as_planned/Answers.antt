-- By its template.
use Rattle.run_plan.specs.declared.act.Act.TheBlock.{shape-the_row-Act-0, hidden-the_row-Act-0}
use Rattle.act_refines.proofs.Choices.{choose_copy_does}
use Rattle.act_refines.proofs.laws.a_copy_chooses_as_planned.Goals as goal

pub returns : goal.returns
returns g = λ p place_of d number keeps k most issue keep here is.
    choose_copy_does (λ q x i v n o s has. g.a_copy_chooses.ensures q x i v n o s has) p place_of d number keeps k most (shape-the_row-Act-0 issue) (hidden-the_row-Act-0 issue) (shape-the_row-Act-0 keep) (hidden-the_row-Act-0 keep) here is
