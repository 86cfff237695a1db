-- By its template.
use Rattle.act_refines.proofs.Begins.{begin_does}
use Rattle.act_refines.proofs.laws.an_attempt_begins_as_planned.Goals as goal

pub returns : goal.returns
returns g = λ p place_of d number keeps task undo.
    begin_does (λ q x fr i next s hc hw few. g.an_attempt_begins.ensures q x fr i next s hc hw few) (λ q e m n counts s. g.same_fram_keeps_cells.ensures q e m n counts s) p place_of d number keeps task undo
