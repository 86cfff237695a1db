-- The plan's code lies in its image, and a stop halts.
use Rattle.run_plan.specs.PlanOf.{plan_of}
use Rattle.code_places.specs.Placed.{program_by}
use Rattle.site_runs.proofs.whole.an_image_runs_its_plan.Goals as goal

pub returns : goal.returns
returns c = λ world values place_of limits told.
    c.a_program_runs_its_plan.ensures c.args.c.now world c.args.scheme (program_by (plan_of c.args.c.now c.args.scheme) c.args.c.now values) place_of c.requires limits (c.the_code_of_a_plan_lies_in_its_image.ensures values) (c.a_stop_halts.ensures values)
    told
