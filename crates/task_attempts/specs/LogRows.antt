-- The log of an `if` and of a block by their bodies, of a choice of exits, and of one body behind another.
use Rattle.std.specs.Prelude.{◌≡◌, ℕ, List, [], ◌∷◌, ◌++◌}
use Rattle.std.proofs.Common.{refl, ap, ◌∙◌}
use Rattle.task_ast.specs.declared.core_form.CoreExpr.{CoreExpr}
use Rattle.task_ast.specs.declared.core_form.CoreStmt.{CoreStmt, Row_of-CoreStmt, end_of-CoreStmt, more_of-CoreStmt, items-the_row-CoreStmt}
use Rattle.task_ast.specs.declared.core_form.CoreStmt.TheVariants as stmt
use Rattle.task_ast.specs.declared.core_form.CoreExit.{CoreExit}
use Rattle.task_ast.specs.declared.core_form.CoreExit.TheVariants as exit
use Rattle.task_ast.specs.declared.core_form.CoreExit.TheBlock.{hidden-the_row-CoreExit-0, shape-the_row-CoreExit-0}
use Rattle.task_ast.specs.Rows.{core_row_of, core_row_shows}
use Rattle.task_attempts.specs.State.{Setting, Rest}
use Rattle.task_attempts.specs.Values.{branch}
use Rattle.task_attempts.specs.Blocks.{block_log}
use Rattle.task_attempts.specs.Attempts.{statement_log, row_log, body_log, exit_log}
use denote.Hole.Carrier.{hidden}

-- a row's log is that of the statements that it shows
row_logs : (setting : Setting) (n : _) (row : Row_of-CoreStmt n) (go : Rest) → row_log setting row go ≡ body_log setting (items-the_row-CoreStmt n row) go
row_logs setting n end_of-CoreStmt go = refl
row_logs setting n (more_of-CoreStmt s rest) go = ap (statement_log setting s) (row_logs setting _ rest go)

pub body_logs : (setting : Setting) (body : List CoreStmt) (go : Rest) → row_log setting (core_row_of body).1 go ≡ body_log setting body go
body_logs setting body go = row_logs setting (core_row_of body).0 (core_row_of body).1 go ∙ ap (λ b. body_log setting b go) (core_row_shows body)

-- an `if`
pub log_if : (setting : Setting) (c : CoreExpr) (yes_part no_part : List CoreStmt) (go : Rest)
    → statement_log setting (stmt.If c yes_part no_part) go ≡ branch c (body_log setting yes_part go) (body_log setting no_part go)
log_if setting c yes_part no_part go = λ i. branch c (body_logs setting yes_part go i) (body_logs setting no_part go i)

-- a block
pub log_block : (setting : Setting) (k : ℕ) (body : List CoreStmt) (go : Rest) → statement_log setting (stmt.Block k body) go ≡ block_log setting k (body_log setting body) go
log_block setting k body go = λ i. block_log setting k (λ go. body_logs setting body go i) go

-- a choice of exits
pub log_choose : (e : CoreExit) (c : CoreExpr) (a b : CoreExit) (go : ℕ → Rest) → e ≡ exit.Choose c a b → exit_log e go ≡ branch c (exit_log a go) (exit_log b go)
unfolding hidden-the_row-CoreExit-0 shape-the_row-CoreExit-0 hidden
log_choose e c a b go is = ap (λ x. exit_log x go) is

-- one body and then another
pub log_joined : (setting : Setting) (a b : List CoreStmt) (go : Rest) → body_log setting (a ++ b) go ≡ body_log setting a (body_log setting b go)
log_joined setting [] b go = refl
log_joined setting (s ∷ a) b go = ap (statement_log setting s) (log_joined setting a b go)
