-- One task more.
use Rattle.std.proofs.Common.{◌∙◌, ◌<◌, length, get_or, ap, arith}
use Rattle.run_plan.proofs.ProgramLemmas.{tasks_next, firsts_next, most_next}
use Rattle.run_plan.proofs.program.plan.Goals as goal

pub tasks-preserved : goal.tasks-preserved
tasks-preserved c =
    let t = c.t-item.result in
    let same = c.as_slice-t-items.ensures in
    let within : c.tasks.index < length c.args.c.now.tasks = omega (arith, c.tasks-test.true, ap length same) in
    let is = c.t-item.is ∙ ap (λ ts. get_or ts c.tasks.index t) same in
    record {
      tasks = tasks_next c.args.scheme c.args.c.now.tasks c.tasks.index t _ _ _ _ within is c.tasks.invariant.tasks c.in_ok-plan_task.ensures c.in_ok-push.ensures.ok;
      firsts = firsts_next c.args.c.now c.args.c.now.tasks c.tasks.index t _ _ _ _ within is c.tasks.invariant.firsts (c.in_ok-firsts_of.ensures ∙ c.in_ok-regions.ensures) c.in_ok-push-2.ensures.ok;
      most = most_next c.args.c.now.tasks c.tasks.index t _ _ _ _ within is c.tasks.invariant.most (c.count.ensures.exact c.args.c.now t c.in_ok-regions.ensures) c.greater-most.ensures;
    }
