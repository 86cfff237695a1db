-- By its template.
use Rattle.act_refines.proofs.Simple.{lock_does}
use Rattle.act_refines.proofs.laws.a_lock_is_set_as_planned.Goals as goal

pub returns : goal.returns
returns g = λ p place_of d number keeps r low.
    lock_does (λ q x i next s. g.a_lock_is_set.ensures q x i next s) (λ q e begun m counts s w. g.a_write_keeps_memory.ensures q e begun m counts s w) p place_of d number keeps r low
