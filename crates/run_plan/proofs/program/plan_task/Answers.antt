-- A task's acts, by its statements.
use Rattle.run_plan.proofs.ProgramLemmas.{core_task, task_made}
use Rattle.run_plan.proofs.program.plan_task.Goals as goal

pub returns : goal.returns
returns c =
    task_made c.args.c.now c.args.t.now (core_task c.args.c.now c.args.t.now c.requires.well_formed c.requires.task) c.args.depends.now c.requires.told c.args.scheme c.args.number _ _ _ _ _ _ _ _ _
    c.as_slice.ensures c.len.ensures c.as_slice-2.ensures c.new-acts.ensures c.in_ok-push.ensures.ok c.in_ok-save.ensures c.in_ok-plan_body.ensures c.in_ok-plan_exit.ensures c.in_ok-push-2.ensures.ok
