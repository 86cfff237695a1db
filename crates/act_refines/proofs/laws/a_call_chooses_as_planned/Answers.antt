-- By its template.
use Rattle.run_plan.specs.declared.act.Act.TheBlock.{shape-the_row-Act-0, hidden-the_row-Act-0}
use Rattle.act_refines.proofs.Choices.{choose_call_does}
use Rattle.act_refines.proofs.laws.a_call_chooses_as_planned.Goals as goal

pub returns : goal.returns
returns g = λ p place_of d number keeps k ann issue keep here is limit.
    choose_call_does (λ a q x i v n o s m has. g.a_call_chooses.ensures a q x i v n o s m has) p place_of d number keeps k ann (shape-the_row-Act-0 issue) (hidden-the_row-Act-0 issue) (shape-the_row-Act-0 keep) (hidden-the_row-Act-0 keep) here is limit
