-- Its program and its marks are those of the plan's code.
use Rattle.sound_images.proofs.Marked.{image_marked}
use Rattle.sound_images.proofs.laws.every_image_names_the_tasks_of_its_events.Goals as goal

pub returns : goal.returns
returns c = λ i image world. image_marked c.args.c.now c.args.scheme i image (λ values rows fram. c.every_mark_of_a_run_names_the_task_that_began_last.ensures values rows fram) world
