-- The run by what each task does.
use Rattle.std.proofs.Common.{◌∙◌, ◌<◌, refl, ap, arith}
use Rattle.walk_run.specs.Walk.{walk_of}
use Rattle.walk_run.proofs.UnderWay.{run_begins, run_breaks, run_goes_on, run_stops, run_is_over, state_pushed, task_there, fits_after}
use Rattle.walk_run.proofs.run.walk.Goals as goal

pub tasks-init : goal.tasks-init
tasks-init c =
    run_begins c.args.c.now c.new-readings.result c.new-readings.result c.args.tasks _ _ c.requires.well_formed c.in_ok-live.ensures.declared c.in_ok-live.ensures.fits refl c.new-states.ensures

pub returns-in-Err : goal.returns-in-Err
returns-in-Err c =
    let there = task_there _ _ _ _ _ c.tasks.invariant.some c.tasks.invariant.there c.as_slice.ensures c.index-as_slice-next.is in
    run_breaks _ _ _ _ _ _ _ _ _ _ _ _ _ _ c.tasks.invariant c.tasks-test.true there c.run_task.ensures c.in-Err.is c.end_of.ensures
    ∙ ap (λ readings. walk_of c.args.c.now readings c.args.tasks) c.new-readings.ensures

pub shown-requires : goal.shown-requires
shown-requires c =
    let there = task_there _ _ _ _ _ c.tasks.invariant.some c.tasks.invariant.there c.as_slice.ensures c.index-as_slice-next.is in
    fits_after _ _ _ _ _ _ _ _ _ c.requires.well_formed c.tasks.invariant.fits there c.run_task.ensures c.in-Ok.is

pub returns-then-next-eq0 : goal.returns-then-next-eq0
returns-then-next-eq0 c =
    let there = task_there _ _ _ _ _ c.tasks.invariant.some c.tasks.invariant.there c.as_slice.ensures c.index-as_slice-next.is in
    let pushed = state_pushed c.args.c.now _ _ c.run_task.new.live _ _ c.in_ok-words.ensures c.in_ok-push.ensures.ok in
    run_stops _ _ _ _ _ _ _ _ _ _ _ _ _ _ c.tasks.invariant c.tasks-test.true there c.run_task.ensures c.in-Ok.is c.if-next-eq0.true pushed
    ∙ ap (λ readings. walk_of c.args.c.now readings c.args.tasks) c.new-readings.ensures

pub tasks-preserved : goal.tasks-preserved
tasks-preserved c =
    let there = task_there _ _ _ _ _ c.tasks.invariant.some c.tasks.invariant.there c.as_slice.ensures c.index-as_slice-next.is in
    let pushed = state_pushed c.args.c.now _ _ c.run_task.new.live _ _ c.in_ok-words.ensures c.in_ok-push.ensures.ok in
    let on : 0 < c.in-Ok.number = omega (arith, c.if-next-eq0.false) in
    run_goes_on _ _ _ _ _ _ _ _ _ _ _ _ _ _ c.requires.well_formed c.tasks.invariant c.tasks-test.true there c.run_task.ensures c.in-Ok.is on pushed

pub returns : goal.returns
returns c = run_is_over _ _ _ _ _ _ _ _ c.tasks.invariant c.tasks-test.false ∙ ap (λ readings. walk_of c.args.c.now readings c.args.tasks) c.new-readings.ensures
