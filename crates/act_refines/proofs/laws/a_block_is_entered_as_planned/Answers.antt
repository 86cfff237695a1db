-- By its template.
use Rattle.act_refines.proofs.Choices.{enter_does}
use Rattle.act_refines.proofs.Simple.{notes_keep}
use Rattle.act_refines.proofs.laws.a_block_is_entered_as_planned.Goals as goal

pub returns : goal.returns
returns g = λ p place_of d number keeps k ann here is limit.
    enter_does (λ a q x i next s m has. g.a_block_is_entered.ensures a q x i next s m has) (notes_keep (λ q e m counts later s looks issued note. g.a_note_keeps_memory.ensures q e m counts later s looks issued note)) p place_of d number keeps k ann here is limit
