use Rattle.std.proofs.lemmas.Result.{err_from_is_err_and}
use Rattle.std.proofs.Common.{refl}
use Rattle.task_check.specs.Table.{meanings}
use Rattle.task_check.proofs.ExpressionLemmas.{index_faults, paren_faults, one_faults, two_faults, two_left}
use Rattle.task_check.proofs.FirstLemmas.{finds_front, finds_behind, finds_same}
use Rattle.task_check.proofs.expressions.+check_expr.Goals as goal

pub returns-in_err-array_or_pointer-in-Index : goal.returns-in_err-array_or_pointer-in-Index
returns-in_err-array_or_pointer-in-Index t c =
    let p = err_from_is_err_and c.from_residual.result c.from_residual.ensures.1 in
    rw (p.1, p.2) (finds_front _ _ _ _ (index_faults (meanings c.args.names.now) _ _ _ _ _ _ c.in-Index.is refl c.as_slice-in-Index.ensures c.find-in-Index.ensures) c.in_err-array_or_pointer-in-Index.ensures)

pub returns-in_ok-array_or_pointer-in-Index : goal.returns-in_ok-array_or_pointer-in-Index
returns-in_ok-array_or_pointer-in-Index t c =
    finds_behind _ _ _ _ (index_faults (meanings c.args.names.now) _ _ _ _ _ _ c.in-Index.is c.get.ensures c.as_slice-in-Index.ensures c.find-in-Index.ensures) c.in_ok-array_or_pointer-in-Index.ensures.0 c.check_expr.ensures

pub returns-in-Paren : goal.returns-in-Paren
returns-in-Paren t c = finds_same _ _ _ (paren_faults (meanings c.args.names.now) _ _ _ c.in-Paren.is c.get-in-Paren.ensures) c.check_expr-in-Paren.ensures

pub returns-in-One : goal.returns-in-One
returns-in-One t c = finds_same _ _ _ (one_faults (meanings c.args.names.now) _ _ _ _ c.in-One.is c.get-in-One.ensures) c.check_expr-in-One.ensures

pub returns-in_err-check_expr-in-Two : goal.returns-in_err-check_expr-in-Two
returns-in_err-check_expr-in-Two t c =
    let p = err_from_is_err_and c.from_residual-in_err-check_expr-in-Two.result c.from_residual-in_err-check_expr-in-Two.ensures.1 in
    rw (p.1, p.2) (finds_front _ _ _ _ (two_left (meanings c.args.names.now) _ _ _ _ _ c.in-Two.is c.get-in-Two.ensures) c.in_err-check_expr-in-Two.ensures)

pub returns-in_ok-check_expr-in-Two : goal.returns-in_ok-check_expr-in-Two
returns-in_ok-check_expr-in-Two t c =
    finds_behind _ _ _ _ (two_faults (meanings c.args.names.now) _ _ _ _ _ _ c.in-Two.is c.get-in-Two.ensures c.get-in-Two-2.ensures) c.in_ok-check_expr-in-Two.ensures.0 c.check_expr-in-Two-2.ensures
