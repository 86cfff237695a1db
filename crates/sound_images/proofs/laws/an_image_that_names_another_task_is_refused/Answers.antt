-- Its run is the small one.
use Rattle.sound_images.proofs.Marked.{wrong_look_shown}
use Rattle.sound_images.proofs.laws.an_image_that_names_another_task_is_refused.Goals as goal

pub returns : goal.returns
returns c = λ i world code marks power named. wrong_look_shown (λ values fram h. c.marks_of_another_task_are_refused.ensures.look values fram h) i world code marks power named
