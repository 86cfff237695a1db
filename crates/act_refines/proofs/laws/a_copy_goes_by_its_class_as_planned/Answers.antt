-- By its template.
use Rattle.run_plan.specs.declared.act.Act.TheBlock.{shape-the_row-Act-0, hidden-the_row-Act-0}
use Rattle.act_refines.proofs.Copies.{by_class_does}
use Rattle.act_refines.proofs.laws.a_copy_goes_by_its_class_as_planned.Goals as goal

pub returns : goal.returns
returns g = λ p place_of d number keeps k most single private rest here is.
    by_class_does (λ v o t q x i a b e s. g.a_copy_goes_by_its_class.ensures v o t q x i a b e s) p place_of d number keeps k most (shape-the_row-Act-0 single) (hidden-the_row-Act-0 single) (shape-the_row-Act-0 private) (hidden-the_row-Act-0 private) (shape-the_row-Act-0 rest) (hidden-the_row-Act-0 rest) here is
