-- By its template, and by each write's law.
use Rattle.act_refines.proofs.Kept.{keep_words_does}
use Rattle.act_refines.proofs.transfers.words_are_kept_as_planned.Goals as goal

pub returns : goal.returns
returns g = λ p place_of d number keeps k.
    keep_words_does (λ q x f i next n from s. g.words_are_kept.ensures q x f i next n from s) (λ q e begun m counts s w. g.a_write_keeps_memory.ensures q e begun m counts s w) (λ q e m s. g.memory_is_related_between_acts.ensures q e m s) p place_of d number keeps k
