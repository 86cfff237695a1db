-- Task by task.
use Rattle.std.proofs.Common.{◌≡◌, suc, ◌+◌, ◌-◌, ap, arith}
use Rattle.soak_case.specs.Source.{task_text}
use Rattle.soak_case.proofs.Drawing.{tasks_end, tasks_on}
use Rattle.soak_case.proofs.source.write_source.Goals as goal

pub tasks-preserved : goal.tasks-preserved
tasks-preserved c =
    let k = 64 - (c.tasks.done + 1) in
    let more : 64 - c.tasks.done ≡ suc k = omega (arith, c.tasks-test.true) in
    tasks_on c.tasks.done k _ _ _ _ _ _ _ more c.tasks.invariant c.in_ok-put_task.ensures (ap (task_text (c.tasks.done + 1)) c.draw-drawn.ensures.value) c.draw-drawn.ensures.draws

pub returns : goal.returns
returns c =
    let none : 64 - c.tasks.done ≡ 0 = omega (arith, c.tasks-test.false) in
    tasks_end _ _ _ _ _ none c.tasks.invariant
