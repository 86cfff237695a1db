-- One task more.
use Rattle.std.proofs.Common.{◌∙◌, ◌<◌, length, get_or, ap, arith}
use Rattle.audit_gather.proofs.TaskLaws.{table_next}
use Rattle.audit_gather.proofs.tasks.tables.Goals as goal

pub tasks-preserved : goal.tasks-preserved
tasks-preserved c =
    let t = c.t-item.result in
    let same = c.as_slice-t-items.ensures in
    let within : c.tasks.t-index < length c.args.c.now.tasks = omega (arith, c.tasks-test.true, ap length same) in
    let is = c.t-item.is ∙ ap (λ ts. get_or ts c.tasks.t-index t) same in
    table_next c.args.c.now c.args.c.now.tasks c.tasks.t-index t _ _ _ within is c.tasks.invariant c.in_ok-depend.ensures c.in_ok-push.ensures.ok
