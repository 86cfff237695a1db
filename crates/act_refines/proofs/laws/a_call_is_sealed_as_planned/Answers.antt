-- By its template.
use Rattle.act_refines.proofs.Records.{seal_call_does}
use Rattle.act_refines.proofs.laws.a_call_is_sealed_as_planned.Goals as goal

pub returns : goal.returns
returns g = λ p place_of d number keeps k ann here is.
    seal_call_does (λ q x f a i next s. g.a_call_is_sealed.ensures q x f a i next s) (λ q e begun m counts s w. g.a_write_keeps_memory.ensures q e begun m counts s w) p place_of d number keeps k ann here is
