-- By its template.
use Rattle.run_plan.specs.declared.act.Act.TheBlock.{shape-the_row-Act-0, hidden-the_row-Act-0}
use Rattle.act_refines.proofs.Choices.{leave_does}
use Rattle.act_refines.proofs.Simple.{notes_keep}
use Rattle.act_refines.proofs.laws.a_block_is_left_as_planned.Goals as goal

pub returns : goal.returns
returns g = λ p place_of d number keeps k acts here.
    leave_does (λ q x i next a s m. g.a_block_is_left.ensures q x i next a s m) (notes_keep (λ q e m counts later s looks issued note. g.a_note_keeps_memory.ensures q e m counts later s looks issued note)) p place_of d number keeps k (shape-the_row-Act-0 acts) (hidden-the_row-Act-0 acts) here
