-- Of every image.
use Rattle.seal_steps.proofs.Told.{image_tells}
use Rattle.seal_steps.proofs.laws.the_places_of_an_image_tell_memory.Goals as goal

pub returns : goal.returns
returns c = λ i image. image_tells c.args.c.now c.args.scheme i c.requires image
