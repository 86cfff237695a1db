-- By its template.
use Rattle.act_refines.proofs.Statements.{plain_does}
use Rattle.act_refines.proofs.laws.a_statement_is_done_as_planned.Goals as goal

pub returns : goal.returns
returns g = λ p place_of d number keeps level branched turning x is covers.
    plain_does (λ c b well few. g.each_place_lies_in_its_area.ensures c b well few) (λ q e begun m counts s w. g.a_write_keeps_memory.ensures q e begun m counts s w) (λ q e m n counts s. g.same_fram_keeps_cells.ensures q e m n counts s) (λ q e m s. g.memory_is_related_between_acts.ensures q e m s) (λ c b well few. g.no_two_places_share_an_address.ensures c b well few) (λ q scope l y next t store. g.a_statement_stays_within_its_weight.ensures q scope l y next t store)
    p place_of d number keeps x (λ bank well. g.every_statement_suits_its_layout.ensures d.setting.rules.core bank d.setting.task level branched turning x well is) covers
