-- A task, by how its body and its exit ended.
use Rattle.std.proofs.Common.{◌∙◌, sym, ap}
use Rattle.std.proofs.lemmas.Result.{err_from_is_err_and}
use Rattle.walk_run.specs.Outcome.{body_outcome}
use Rattle.walk_run.proofs.Runs.{task_ran, task_left}
use Rattle.walk_run.proofs.task.run_task.Goals as goal

pub returns-in_err-run_body : goal.returns-in_err-run_body
returns-in_err-run_body c =
    let ran = c.run_body.ensures ∙ ap (λ b. body_outcome b c.begin.new.self c.args.readings.now) c.as_slice.ensures in
    let exit = c.from_residual in
    let p = err_from_is_err_and exit.result exit.ensures.1 in
    rw (p.1, p.2) (sym (task_ran c.args.c.now c.args.task.now c.args.live.now _ _ _ _ _ _ c.begin.ensures.fresh ran c.in_err-run_body.was))

pub returns-in_err-next : goal.returns-in_err-next
returns-in_err-next c =
    let ran = c.run_body.ensures ∙ ap (λ b. body_outcome b c.begin.new.self c.args.readings.now) c.as_slice.ensures in
    let exit = c.from_residual-in_err-next in
    let p = err_from_is_err_and exit.result exit.ensures.1 in
    rw (p.1, p.2) (sym (task_left c.args.c.now c.args.task.now c.args.live.now _ _ _ _ _ _ _ _ c.begin.ensures.fresh ran c.in_ok-run_body.was c.next_task.ensures c.in_err-next.was))

pub returns : goal.returns
returns c =
    let ran = c.run_body.ensures ∙ ap (λ b. body_outcome b c.begin.new.self c.args.readings.now) c.as_slice.ensures in
    sym (task_left c.args.c.now c.args.task.now c.args.live.now _ _ _ _ _ _ _ _ c.begin.ensures.fresh ran c.in_ok-run_body.was c.next_task.ensures c.in_ok-next.was)
