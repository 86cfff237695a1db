-- Of every plan.
use Rattle.task_marks.proofs.Whole.{marks_named}
use Rattle.task_marks.proofs.laws.every_mark_of_a_run_names_the_task_that_began_last.Goals as goal

pub returns : goal.returns
returns c = λ values rows fram.
    marks_named c.args.c.now c.args.scheme c.requires c.every_plan_is_within_its_formulas.ensures.within c.every_plan_is_within_its_formulas.ensures.limits c.every_act_is_of_its_task.ensures values rows fram
