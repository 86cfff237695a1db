use Rattle.std.proofs.Common.{arith, sym, ap, ◌∙◌}
use Rattle.std.proofs.lemmas.Result.{err_from_is_err_and}
use Rattle.task_text.proofs.Terms.{Terms-none, Terms-next, Terms-broken, Terms-no_sign, Terms-too_deep, Terms-all, expr-zero, expr-none, Gives-exit}
use Rattle.task_text.proofs.cursor.Cursor.+expr.Goals as goal

pub expr-returns-then-allowed-eq0-clause-value : goal.expr-returns-then-allowed-eq0-clause-value
expr-returns-then-allowed-eq0-clause-value t c = expr-zero _ _ _ c.if-allowed-eq0.true

pub expr-returns-in_err-left-clause-value : goal.expr-returns-in_err-left-clause-value
expr-returns-in_err-left-clause-value t c =
    let p = err_from_is_err_and c.from_residual.result c.from_residual.ensures.1 in
    Gives-exit _ _ _ _ _ c.in_err-left.ensures.value (λ us e. expr-none _ _ _ us c.if-allowed-eq0.false e) p

pub expr-terms-init : goal.expr-terms-init
expr-terms-init t c = record {
  terms = Terms-none _ _ _ _ _ c.if-allowed-eq0.false c.in_ok-left.ensures.value;
  deep = let k = c.if-allowed-eq0.false in omega (arith, c.in_ok-left.ensures.deep, k);
}

pub expr-returns-then-left-allowed-clause-value : goal.expr-returns-then-left-allowed-clause-value
expr-returns-then-left-allowed-clause-value t c =
    Terms-too_deep _ _ _ _ _ c.terms.invariant.terms (sym c.begins_operator.ensures ∙ c.terms-test.true) c.if-left-allowed.true

pub expr-returns-in_err-op-clause-value : goal.expr-returns-in_err-op-clause-value
expr-returns-in_err-op-clause-value t c =
    let p = err_from_is_err_and c.from_residual-in_err-op.result c.from_residual-in_err-op.ensures.1 in
    Gives-exit _ _ _ _ _ c.in_err-op.ensures (λ us e. Terms-no_sign _ _ _ _ _ c.terms.invariant.terms (sym c.begins_operator.ensures ∙ c.terms-test.true) us c.if-left-allowed.false e) p

pub expr-returns-in_err-right-clause-value : goal.expr-returns-in_err-right-clause-value
expr-returns-in_err-right-clause-value t c =
    let p = err_from_is_err_and c.from_residual-in_err-right.result c.from_residual-in_err-right.ensures.1 in
    Gives-exit _ _ _ _ _ c.in_err-right.ensures.value
    (λ us e. Terms-broken _ _ _ _ _ c.terms.invariant.terms (sym c.begins_operator.ensures ∙ c.terms-test.true) _ _ _ us c.if-left-allowed.false c.in_ok-op.ensures c.binds.ensures.value e) p

pub expr-terms-preserved : goal.expr-terms-preserved
expr-terms-preserved t c = record {
  terms =
      Terms-next _ _ _ _ _ c.terms.invariant.terms (sym c.begins_operator.ensures ∙ c.terms-test.true) _ _ _ _ _ _ c.if-left-allowed.false c.in_ok-op.ensures c.binds.ensures.value c.in_ok-right.ensures.value c.in_ok-left-2.ensures;
  deep = omega (arith, ap (λ d. d.depth) c.in_ok-left-2.ensures, c.in_ok-right.ensures.deep);
}

pub expr-returns-clause-value : goal.expr-returns-clause-value
expr-returns-clause-value t c = Terms-all _ _ _ _ _ c.terms.invariant.terms (sym c.begins_operator.ensures ∙ c.terms-test.false)
