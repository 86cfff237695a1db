-- By its template.
use Rattle.act_refines.proofs.Simple.{look_does, notes_keep}
use Rattle.act_refines.proofs.laws.a_look_is_as_planned.Goals as goal

pub returns : goal.returns
returns g = λ p place_of d number keeps k.
    look_does (λ q x f i next s. g.a_look_keeps_the_time.ensures q x f i next s) (notes_keep (λ q e m counts later s looks issued note. g.a_note_keeps_memory.ensures q e m counts later s looks issued note)) p place_of d number keeps k
