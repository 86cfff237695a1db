use Rattle.std.proofs.lemmas.Result.{err_from_is_err_and}
use Rattle.task_check.specs.Faults.{destination_faults, expr_faults, place_faults}
use Rattle.task_check.specs.Table.{around_of, meanings}
use Rattle.task_check.specs.Refusals.{copy_under_if}
use Rattle.task_check.proofs.FirstLemmas.{second_of_four}
use Rattle.task_check.proofs.statements.check_copy.Goals as goal

pub returns-in_err-check_destination : goal.returns-in_err-check_destination
returns-in_err-check_destination c =
    let p = err_from_is_err_and c.from_residual-in_err-check_destination.result c.from_residual-in_err-check_destination.ensures.1 in
    let names = meanings c.args.around.now.names.now in
    rw (p.1, p.2) (second_of_four (copy_under_if c.args.around.now.branched c.args.word) (destination_faults (around_of c.args.around.now) c.args.to.now) (place_faults names c.args.from.now) (expr_faults names c.args.length.now)
    _ c.in_ok-no_branch.ensures.0 c.in_err-check_destination.ensures)
