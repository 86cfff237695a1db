-- By its template.
use Rattle.act_refines.proofs.Calls.{value_does}
use Rattle.act_refines.proofs.laws.a_call_is_valued_as_planned.Goals as goal

pub returns : goal.returns
returns g = λ p place_of d number keeps k q es plan code over few.
    value_does (λ r x scope l store i j es next s. g.a_call_is_valued.ensures r x scope l store i j es next s) (λ q e m n counts s. g.words_in_between_keep_memory.ensures q e m n counts s) (λ q e m s. g.memory_is_related_between_acts.ensures q e m s) (λ q e m counts s words. g.arguments_keep_memory.ensures q e m counts s words) (λ q e m counts s. g.no_target_keeps_memory.ensures q e m counts s) p place_of d number keeps k q es plan code over few
