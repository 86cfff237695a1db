-- By its template.
use Rattle.act_refines.proofs.Regions.{restore_does}
use Rattle.act_refines.proofs.laws.a_region_is_restored_as_planned.Goals as goal

pub returns : goal.returns
returns g = λ p place_of d number keeps r low there undo homes.
    restore_does (λ q x f i next s held. g.a_region_is_restored.ensures q x f i next s held) (λ q e begun m counts s w. g.a_write_keeps_memory.ensures q e begun m counts s w) p place_of d number keeps r low there undo homes
