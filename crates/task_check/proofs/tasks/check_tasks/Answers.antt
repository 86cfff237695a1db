use Rattle.std.proofs.Common.{◌∙◌, ◌++◌, ◌+◌, sym, ap, drop}
use Rattle.std.proofs.lemmas.Result.{err_from_is_err_and}
use Rattle.task_check.specs.Counted.{name_at, tasks_at}
use Rattle.task_check.specs.Faults.{inner_faults, close_faults}
use Rattle.task_check.specs.Nodes.{nodes_of_task}
use Rattle.task_check.specs.Table.{meanings}
use Rattle.task_check.proofs.FirstLemmas.{finds_front}
use Rattle.task_check.proofs.ListLemmas.{rest_is}
use Rattle.task_check.proofs.tasks.check_tasks.Goals as goal

pub returns-in_err-nodes : goal.returns-in_err-nodes
returns-in_err-nodes c =
    let p = err_from_is_err_and c.from_residual-in_err-nodes.result c.from_residual-in_err-nodes.ensures.1 in
    let names = meanings c.args.names.now in
    let t = c.index-tasks-at.result in
    let i = c.loop-at.at in
    let n = c.loop-at.nodes in
    let rest = tasks_at names c.args.arrays.now c.args.words (i + 1) (n + nodes_of_task t) (drop (i + 1) c.args.tasks.now) in
    let whole = c.loop-at.invariant.left ∙ ap (tasks_at names c.args.arrays.now c.args.words i n) (rest_is c.args.tasks.now i t c.loop-at-test.true c.index-tasks-at.is)
    ∙ (λ j. (name_at names c.args.words (sym c.in_ok-number.ensures.same j) t.name ++ inner_faults names c.args.arrays.now t ++ close_faults names c.args.arrays.now n t) ++ rest) in
    rw (p.1, p.2) (finds_front _ _ _ _ whole c.in_err-nodes.ensures)
