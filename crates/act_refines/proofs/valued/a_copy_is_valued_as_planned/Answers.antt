-- By its template.
use Rattle.act_refines.proofs.CopyValues.{copy_value_does}
use Rattle.act_refines.proofs.valued.a_copy_is_valued_as_planned.Goals as goal

pub returns : goal.returns
returns g = λ p place_of d number keeps k to from words plan code over_to over_from over short.
    copy_value_does (λ q x scope l store i to from words next s. g.a_copy_is_valued.ensures q x scope l store i to from words next s) (λ q e m n counts s. g.words_in_between_keep_memory.ensures q e m n counts s) (λ q e m s. g.memory_is_related_between_acts.ensures q e m s)
    (λ q e m counts s v. g.a_copy_is_noted.ensures q e m counts s v) p place_of d number keeps k to from words plan code over_to over_from over short
