-- By its template.
use Rattle.act_refines.proofs.Simple.{drop_does}
use Rattle.act_refines.proofs.laws.a_record_is_dropped_as_planned.Goals as goal

pub returns : goal.returns
returns g = λ p place_of d number keeps k here.
    drop_does (λ q x f i next s. g.a_record_is_dropped.ensures q x f i next s) (λ q e begun m counts s w. g.a_write_keeps_memory.ensures q e begun m counts s w) p place_of d number keeps k here
