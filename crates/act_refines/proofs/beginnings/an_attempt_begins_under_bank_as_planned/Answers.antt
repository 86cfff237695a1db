-- By its template.
use Rattle.act_refines.proofs.Levels.{level_does}
use Rattle.act_refines.proofs.beginnings.an_attempt_begins_under_bank_as_planned.Goals as goal

pub returns : goal.returns
returns g = λ p place_of d number keeps task bank.
    level_does (λ q x fr i next s hc hw few. g.an_attempt_begins.ensures q x fr i next s hc hw few) (λ q e begun m counts s w. g.a_write_keeps_memory.ensures q e begun m counts s w) (λ q e m n counts s. g.same_fram_keeps_cells.ensures q e m n counts s)
    (λ c b m n store f. g.words_in_between_leave_ram.ensures c b m n store f) p place_of d number keeps task bank
