use Rattle.std.proofs.Common.{◌≡◌, ◌+◌, ◌≤◌, refl}
use Rattle.std.proofs.lemmas.Result.{err_from_is_err_and}
use Rattle.task_check.specs.Counted.{name_at}
use Rattle.task_check.specs.Faults.{body_faults, exit_faults}
use Rattle.task_check.specs.Nodes.{nodes_of_task}
use Rattle.task_check.specs.Table.{meanings}
use Rattle.task_check.proofs.FirstLemmas.{first_of_three, second_of_three, result_of_three, none-front}
use Rattle.task_check.proofs.NodeBounds.{task_bound}
use Rattle.task_check.proofs.TaskLemmas.{here, parts_are}
use Rattle.task_check.proofs.tasks.check_task.Goals as goal

pub returns-in_err-check_name : goal.returns-in_err-check_name
returns-in_err-check_name c =
    let p = err_from_is_err_and c.from_residual.result c.from_residual.ensures.1 in
    rw (p.1, p.2) (first_of_three _ _ _ _ _ refl c.in_err-check_name.ensures)

pub returns-in_err-check_inside : goal.returns-in_err-check_inside
returns-in_err-check_inside c =
    let p = err_from_is_err_and c.from_residual-in_err-check_inside.result c.from_residual-in_err-check_inside.ensures.1 in
    let names = meanings c.args.names.now in
    rw (p.1, p.2) (second_of_three _ _ _ _ _ (parts_are names c.args.arrays.now c.args.t.now c.in_ok-points.points c.in_ok-points.points _ c.as_slice.ensures c.in_ok-points.ensures refl (name_at names c.args.words c.args.number c.args.t.now.name) c.args.nodes)
    c.in_ok-check_name.ensures.0 c.in_err-check_inside.ensures)

pub check_close-requires-clause-counted : goal.check_close-requires-clause-counted
check_close-requires-clause-counted c =
    let a = here (meanings c.args.names.now) c.args.arrays.now c.args.t.now c.in_ok-points.points c.in_ok-points.points _ c.as_slice.ensures c.in_ok-points.ensures refl in
    task_bound a c.args.t.now c.requires.readable (none-front (body_faults a c.args.t.now.body) (exit_faults (meanings c.args.names.now) c.args.t.now.exit) c.in_ok-check_inside.ensures.0) c.requires.size

pub returns : goal.returns
returns c =
    let names = meanings c.args.names.now in
    result_of_three (λ n. (n ≡ c.args.nodes + nodes_of_task c.args.t.now) × (n ≤ 32768)) _ _ _ _ _ (parts_are names c.args.arrays.now c.args.t.now c.in_ok-points.points c.in_ok-points.points _ c.as_slice.ensures c.in_ok-points.ensures refl (name_at names c.args.words c.args.number c.args.t.now.name) c.args.nodes)
    c.in_ok-check_name.ensures.0 c.in_ok-check_inside.ensures.0 c.check_close.ensures
