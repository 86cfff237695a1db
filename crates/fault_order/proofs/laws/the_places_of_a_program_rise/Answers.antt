use Rattle.fault_order.proofs.Trees.{read_places_rise}
use Rattle.fault_order.proofs.laws.the_places_of_a_program_rise.Goals as goal

pub returns : goal.returns
returns c = read_places_rise _ _ c.requires.reads
