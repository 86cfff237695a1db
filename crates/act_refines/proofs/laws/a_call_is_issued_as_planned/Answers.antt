-- By its template.
use Rattle.act_refines.proofs.Calls.{issue_does}
use Rattle.act_refines.proofs.laws.a_call_is_issued_as_planned.Goals as goal

pub returns : goal.returns
returns g = λ p place_of d number keeps k q target es plan code few small words.
    issue_does (λ r x f o i next s. g.a_call_is_issued.ensures r x f o i next s) (λ q e m counts later s looks issued note. g.a_note_keeps_memory.ensures q e m counts later s looks issued note) p place_of d number keeps k q target es plan code few small words
