-- By its template.
use Rattle.act_refines.proofs.Copies.{seal_copy_does}
use Rattle.act_refines.proofs.laws.a_copy_is_sealed_as_planned.Goals as goal

pub returns : goal.returns
returns g = λ p place_of d number keeps k most here is.
    seal_copy_does (λ q x f i n next s. g.a_copy_is_sealed.ensures q x f i n next s) (λ q e begun m counts s w. g.a_write_keeps_memory.ensures q e begun m counts s w) p place_of d number keeps k most here is
