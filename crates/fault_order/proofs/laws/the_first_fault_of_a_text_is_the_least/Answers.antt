use Rattle.fault_order.proofs.laws.the_first_fault_of_a_text_is_the_least.Goals as goal

pub returns : goal.returns
returns c = c.the_first_fault_is_at_the_least_place.ensures
