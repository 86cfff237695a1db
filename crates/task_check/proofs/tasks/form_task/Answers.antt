use Rattle.std.proofs.Common.{◌∙◌, refl}
use Rattle.task_check.specs.Table.{meanings}
use Rattle.task_check.proofs.TaskLemmas.{task_made}
use Rattle.task_check.proofs.tasks.form_task.Goals as goal

pub returns : goal.returns
returns c =
    task_made (meanings c.args.names.now) c.args.arrays.now c.args.t.now c.in_ok-points.points c.in_ok-points.points _ _ _ _ _ _ _ _ c.as_slice.ensures c.in_ok-points.ensures refl (c.in_ok-from_slice.ensures ∙ c.as_slice-3.ensures)
    c.new-sites.ensures c.new-body.ensures c.as_slice-2.ensures c.in_ok-form_body.ensures.sites c.in_ok-form_body.ensures.done c.in_ok-exit.ensures
