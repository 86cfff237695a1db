use Rattle.std.proofs.Common.{sym, subst, ◌∙◌, refl}
use Rattle.std.proofs.lemmas.Result.{err_from_is_err_and}
use Rattle.task_text.specs.Reading.{Gives, begins_stmt}
use Rattle.task_text.specs.ReadingStmt.{stmt_at, stmts_of}
use Rattle.task_text.proofs.Items.{Items, Items-more, Items-break, Items-all}
use Rattle.task_text.proofs.StmtLaws.{stmt-takes, stmt-step}
use Rattle.task_text.proofs.Terms.{Gives-exit}
use Rattle.task_text.proofs.cursor.Cursor.+stmt.Goals as goal

pub stmts-returns-in_err-stmt : goal.stmts-returns-in_err-stmt
stmts-returns-in_err-stmt t c =
    let p = err_from_is_err_and c.from_residual.result c.from_residual.ensures.1 in
    Gives-exit _ _ _ _ _ c.in_err-stmt.ensures (λ us e. Items-break begins_stmt (stmt_at c.args.nesting) _ _ _ us refl c.items.invariant (sym c.begins_stmt.ensures ∙ c.items-test.true) e) p

pub stmts-items-smaller : goal.stmts-items-smaller
stmts-items-smaller t c = stmt-takes _ _ _ _ c.in_ok-stmt.ensures

pub stmts-items-preserved : goal.stmts-items-preserved
stmts-items-preserved t c =
    subst (λ xs. Items begins_stmt (stmt_at c.args.nesting) (stmts_of (stmt_at c.args.nesting) c.args.self.now) xs c.stmt.new.self) (sym c.in_ok-push.ensures.ok)
    (Items-more begins_stmt (stmt_at c.args.nesting) _ _ _ _ _ refl (stmt-takes _) c.items.invariant (sym c.begins_stmt.ensures ∙ c.items-test.true) c.in_ok-stmt.ensures)

pub stmts-returns : goal.stmts-returns
stmts-returns t c = Items-all begins_stmt (stmt_at c.args.nesting) _ _ _ c.items.invariant (sym c.begins_stmt.ensures ∙ c.items-test.false)

pub stmt-returns : goal.stmt-returns
stmt-returns t c = subst (λ r. Gives r c.opened.result c.opened.new.self) (sym (stmt-step _ _ _ c.if-nesting-eq0.false c.next_opening.ensures)) c.opened.ensures
