use Rattle.std.proofs.Common.{[], ◌∷◌, ◌++◌, sym, ap, subst, ◌∙◌, refl}
use Rattle.std.proofs.lemmas.Result.{err_from_is_err_and}
use Rattle.task_tokens.specs.declared.token.Sign.TheVariants as sign
use Rattle.task_text.specs.Reading.{begins_sign}
use Rattle.task_text.specs.ReadingDecl.{next_value_at, values_at}
use Rattle.task_text.proofs.Items.{Items, Items-more, Items-break, Items-all}
use Rattle.task_text.proofs.DeclLaws.{next_value-takes, values-none, values-first}
use Rattle.task_text.proofs.Terms.{Gives-exit}
use Rattle.task_text.proofs.cursor.Cursor.values.Goals as goal

pub returns-in_err-first : goal.returns-in_err-first
returns-in_err-first c =
    let p = err_from_is_err_and c.from_residual.result c.from_residual.ensures.1 in
    Gives-exit _ _ _ _ _ c.in_err-first.ensures (λ us e. values-none _ us e) p

pub items-init : goal.items-init
items-init c =
    subst (λ xs. Items (begins_sign sign.Comma) next_value_at (values_at c.args.self.now) xs c.number.new.self) (sym (c.in_ok-push.ensures.ok ∙ ap (λ xs. xs ++ c.in_ok-first.first.value ∷ []) c.new-values.ensures))
    (values-first _ _ _ c.in_ok-first.ensures)

pub returns-in_err-value : goal.returns-in_err-value
returns-in_err-value c =
    let p = err_from_is_err_and c.from_residual-in_err-value.result c.from_residual-in_err-value.ensures.1 in
    Gives-exit _ _ _ _ _ c.in_err-value.ensures (λ us e. Items-break (begins_sign sign.Comma) next_value_at _ _ _ us refl c.items.invariant (sym c.begins_sign.ensures ∙ c.items-test.true) e) p

pub items-smaller : goal.items-smaller
items-smaller c = next_value-takes _ _ _ c.in_ok-value.ensures

pub items-preserved : goal.items-preserved
items-preserved c =
    subst (λ xs. Items (begins_sign sign.Comma) next_value_at (values_at c.args.self.now) xs c.next_value.new.self) (sym c.in_ok-push-2.ensures.ok)
    (Items-more (begins_sign sign.Comma) next_value_at _ _ _ _ _ refl next_value-takes c.items.invariant (sym c.begins_sign.ensures ∙ c.items-test.true) c.in_ok-value.ensures)

pub returns : goal.returns
returns c = Items-all (begins_sign sign.Comma) next_value_at _ _ _ c.items.invariant (sym c.begins_sign.ensures ∙ c.items-test.false)
