use Rattle.std.proofs.Common.{◌∙◌, ap}
use Rattle.std.specs.List.{flat_map}
use Rattle.std.proofs.lemmas.Result.{err_from_is_err_and}
use Rattle.task_check.specs.Faults.{expr_faults}
use Rattle.task_check.specs.Table.{meanings}
use Rattle.task_check.proofs.FirstLemmas.{finds_front}
use Rattle.task_check.proofs.ListLemmas.{rest_is}
use Rattle.task_check.proofs.expressions.check_exprs.Goals as goal

pub returns-in_err-check_expr : goal.returns-in_err-check_expr
returns-in_err-check_expr c =
    let p = err_from_is_err_and c.from_residual.result c.from_residual.ensures.1 in
    let f = flat_map (expr_faults (meanings c.args.names.now)) in
    rw (p.1, p.2) (finds_front _ _ _ _ (c.loop-e.invariant ∙ ap f (rest_is c.args.es.now c.loop-e.e-index c.e-item.result c.loop-e-test.true c.e-item.is)) c.in_err-check_expr.ensures)
