use Rattle.world_file.proofs.ApartLemmas.{image_apart}
use Rattle.world_file.proofs.laws.peripherals_of_an_image_are_apart.Goals as goal

pub returns : goal.returns
returns c = image_apart
