use Rattle.std.proofs.Common.{sym, subst, ◌∙◌, refl}
use Rattle.std.proofs.lemmas.Result.{err_from_is_err_and}
use Rattle.task_text.specs.Reading.{begins_decl}
use Rattle.task_text.specs.ReadingDecl.{decl_at}
use Rattle.task_text.specs.ReadingProgram.{decls_at}
use Rattle.task_text.proofs.Items.{Items, Items-more, Items-break, Items-all}
use Rattle.task_text.proofs.DeclLaws.{decl-takes}
use Rattle.task_text.proofs.Terms.{Gives-exit}
use Rattle.task_text.proofs.cursor.Cursor.decls.Goals as goal

pub returns-in_err-decl : goal.returns-in_err-decl
returns-in_err-decl c =
    let p = err_from_is_err_and c.from_residual.result c.from_residual.ensures.1 in
    Gives-exit _ _ _ _ _ c.in_err-decl.ensures (λ us e. Items-break begins_decl decl_at _ _ _ us refl c.items.invariant (sym c.begins_decl.ensures ∙ c.items-test.true) e) p

pub items-smaller : goal.items-smaller
items-smaller c = decl-takes _ _ _ c.in_ok-decl.ensures

pub items-preserved : goal.items-preserved
items-preserved c =
    subst (λ xs. Items begins_decl decl_at (decls_at c.args.self.now) xs c.decl.new.self) (sym c.in_ok-push.ensures.ok) (Items-more begins_decl decl_at _ _ _ _ _ refl decl-takes c.items.invariant (sym c.begins_decl.ensures ∙ c.items-test.true) c.in_ok-decl.ensures)

pub returns : goal.returns
returns c = Items-all begins_decl decl_at _ _ _ c.items.invariant (sym c.begins_decl.ensures ∙ c.items-test.false)
