-- Answers for `an_image_begins_with_the_first_state`.
use Rattle.image_memory.proofs.FirstMemory.{first_stands}
use Rattle.image_memory.proofs.laws.an_image_begins_with_the_first_state.Goals as goal

pub returns : goal.returns
returns c = λ p core world scheme times well values t. first_stands p core world scheme times well values t
