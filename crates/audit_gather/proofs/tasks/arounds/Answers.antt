-- One task more; and at the end all are there.
use Rattle.std.proofs.Common.{◌≡◌, ◌∙◌, ◌≤◌, ◌<◌, length, take, get_or, subst, sym, refl, ap, arith}
use Rattle.audit_gather.specs.Tasks.{AreOfTasks}
use Rattle.audit_gather.proofs.TaskLaws.{around_each, around_next, table_here, all_tasks}
use Rattle.audit_gather.proofs.tasks.arounds.Goals as goal

pub tasks-preserved : goal.tasks-preserved
tasks-preserved c =
    let t = c.task-item.result in
    let same = c.as_slice-task-items.ensures in
    let within : c.tasks.task-index < length c.args.c.now.tasks = omega (arith, c.tasks-test.true, ap length same) in
    let is = c.task-item.is ∙ ap (λ ts. get_or ts c.tasks.task-index t) same in
    let here = table_here c.args.c.now c.args.c.now.tasks c.tasks.task-index t c.tasks.left.now c.in-Some.rest.now c.in-Some.depends.now within is c.tasks.invariant.left c.in-Some.ensures.cases.0 in
    record {
      left = here.1;
      done = around_next c.args.c.now c.args.c.now.tasks c.tasks.task-index t _ _ _ within is c.tasks.invariant.done (record { core = refl; task = refl; told = here.0 }) c.in_ok-push.ensures.ok;
    }

pub returns : goal.returns
returns c =
    let same = c.as_slice-task-items.ensures in
    let all : length c.args.c.now.tasks ≤ c.tasks.task-index = omega (arith, c.tasks-test.false, ap length same) in
    around_each c.args.c.now c.args.c.now.tasks c.tasks.tasks (subst (λ ts. AreOfTasks c.args.c.now ts c.tasks.tasks) (all_tasks c.args.c.now.tasks c.tasks.task-index all) c.tasks.invariant.done)
