-- By its template, and by each write's law.
use Rattle.act_refines.proofs.Legs.{to_kept_does}
use Rattle.act_refines.proofs.transfers.words_go_aside_as_planned.Goals as goal

pub returns : goal.returns
returns g = λ p place_of d number keeps k.
    to_kept_does (λ q x f n from i next s. g.words_go_aside.ensures q x f n from i next s) (λ q e begun m counts s w. g.a_write_keeps_memory.ensures q e begun m counts s w) (λ q e m s. g.memory_is_related_between_acts.ensures q e m s) p place_of d number keeps k
