use Rattle.std.proofs.Common.{sym, subst, ◌∙◌, refl}
use Rattle.std.proofs.lemmas.Result.{err_from_is_err_and}
use Rattle.task_tokens.specs.declared.token.Sign.TheVariants as sign
use Rattle.task_text.specs.Reading.{begins_sign}
use Rattle.task_text.specs.ReadingStmt.{argument_at, arguments_at}
use Rattle.task_text.proofs.Items.{Items, Items-more, Items-break, Items-all}
use Rattle.task_text.proofs.PartLaws.{argument-takes}
use Rattle.task_text.proofs.Terms.{Gives-exit}
use Rattle.task_text.proofs.cursor.Cursor.arguments.Goals as goal

pub returns-in_err-argument : goal.returns-in_err-argument
returns-in_err-argument c =
    let p = err_from_is_err_and c.from_residual.result c.from_residual.ensures.1 in
    Gives-exit _ _ _ _ _ c.in_err-argument.ensures (λ us e. Items-break (begins_sign sign.Comma) argument_at _ _ _ us refl c.items.invariant (sym c.begins_sign.ensures ∙ c.items-test.true) e) p

pub items-smaller : goal.items-smaller
items-smaller c = argument-takes _ _ _ c.in_ok-argument.ensures

pub items-preserved : goal.items-preserved
items-preserved c =
    subst (λ xs. Items (begins_sign sign.Comma) argument_at (arguments_at c.args.self.now) xs c.argument.new.self) (sym c.in_ok-push.ensures.ok)
    (Items-more (begins_sign sign.Comma) argument_at _ _ _ _ _ refl argument-takes c.items.invariant (sym c.begins_sign.ensures ∙ c.items-test.true) c.in_ok-argument.ensures)

pub returns : goal.returns
returns c = Items-all (begins_sign sign.Comma) argument_at _ _ _ c.items.invariant (sym c.begins_sign.ensures ∙ c.items-test.false)
