-- By its template.
use Rattle.act_refines.proofs.Calls.{aimed_value_does}
use Rattle.act_refines.proofs.laws.a_call_with_a_target_is_valued_as_planned.Goals as goal

pub returns : goal.returns
returns g = λ p place_of d number keeps k q target es plan code aim over few.
    aimed_value_does (λ r x scope l store i j target es next s. g.a_call_with_a_target_is_valued.ensures r x scope l store i j target es next s) (λ q e m n counts s. g.words_in_between_keep_memory.ensures q e m n counts s) (λ q e m s. g.memory_is_related_between_acts.ensures q e m s) (λ q e m counts s words. g.arguments_keep_memory.ensures q e m counts s words) (λ q e m counts s at. g.a_target_keeps_memory.ensures q e m counts s at) p place_of d number keeps k q target es plan code aim over few
