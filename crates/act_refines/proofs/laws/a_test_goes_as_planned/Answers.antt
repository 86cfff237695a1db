-- By its template.
use Rattle.run_plan.specs.declared.act.Act.TheBlock.{shape-the_row-Act-0, hidden-the_row-Act-0}
use Rattle.act_refines.proofs.Calls.{test_does}
use Rattle.act_refines.proofs.laws.a_test_goes_as_planned.Goals as goal

pub returns : goal.returns
returns g = λ p place_of d number keeps e first second over short.
    test_does (λ q x scope l store e a b s. g.a_test_goes_by_its_word.ensures q x scope l store e a b s) (λ q e m n counts s. g.words_in_between_keep_memory.ensures q e m n counts s) (λ q e m s. g.memory_is_related_between_acts.ensures q e m s) p place_of d number keeps e (shape-the_row-Act-0 first) (hidden-the_row-Act-0 first) (shape-the_row-Act-0 second) (hidden-the_row-Act-0 second) over short
