use Rattle.world_file.proofs.ApartLemmas.{program_apart}
use Rattle.world_file.proofs.laws.peripherals_of_a_program_are_apart.Goals as goal

pub returns : goal.returns
returns c = program_apart
