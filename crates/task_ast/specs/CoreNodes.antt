-- The nodes of a checked form, which are limited: a statement and an exit count 1 and their parts; a cell at the number
-- 0 counts 1, as a scalar does.
use Rattle.std.specs.Prelude.{◌≡◌, ℕ, ◌+◌, Bool, false, ◌==◌, if◌then◌else◌, List, sum_by, Option, None, Some}
use Rattle.std.proofs.Common.{refl, sym, ap, ◌∙◌}
use Rattle.std.proofs.lemmas.List.Sums.{sum_by-cons}
use Rattle.task_ast.specs.declared.core_form.CoreExpr.{CoreExpr, end_of-CoreExpr, more_of-CoreExpr}
use Rattle.task_ast.specs.declared.core_form.CoreExpr.TheVariants as expr
use Rattle.task_ast.specs.declared.core_form.CoreTarget.{CoreTarget}
use Rattle.task_ast.specs.declared.core_form.CoreTarget.TheVariants as target
use Rattle.task_ast.specs.declared.core_form.CoreEnd.{CoreEnd}
use Rattle.task_ast.specs.declared.core_form.CoreEnd.TheVariants as end
use Rattle.task_ast.specs.declared.core_form.CoreStmt.{CoreStmt, Row_of-CoreStmt, end_of-CoreStmt, more_of-CoreStmt, items-the_row-CoreStmt}
use Rattle.task_ast.specs.declared.core_form.CoreStmt.TheVariants as stmt
use Rattle.task_ast.specs.declared.core_form.CoreExit.{CoreExit, end_of-CoreExit, more_of-CoreExit}
use Rattle.task_ast.specs.declared.core_form.CoreExit.TheVariants as exit
use Rattle.task_ast.specs.declared.core_form.CoreTask.{CoreTask}
use Rattle.task_ast.specs.Rows.{core_row_of, core_row_shows}

-- the number 0, which is the index of a scalar
abbrev pub is_zero : CoreExpr → Bool
is_zero (expr.Number n) = n == 0
is_zero (expr.Cell' array u i) = false
is_zero (expr.Through' pointer u i) = false
is_zero (expr.One' op u e) = false
is_zero (expr.Two' op u a v b) = false

-- the nodes of an expression
abbrev pub expr_nodes : CoreExpr → ℕ
expr_nodes (expr.Number n) = 1
expr_nodes (expr.Cell' array u (more_of-CoreExpr i end_of-CoreExpr)) = if is_zero i then 1 else 1 + expr_nodes i
expr_nodes (expr.Through' pointer u (more_of-CoreExpr i end_of-CoreExpr)) = 1 + expr_nodes i
expr_nodes (expr.One' op u (more_of-CoreExpr e end_of-CoreExpr)) = 1 + expr_nodes e
expr_nodes (expr.Two' op u (more_of-CoreExpr a end_of-CoreExpr) v (more_of-CoreExpr b end_of-CoreExpr)) = 1 + expr_nodes a + expr_nodes b

-- the nodes of an array's index; that of a scalar counts nothing
abbrev pub index_nodes : CoreExpr → ℕ
index_nodes i = if is_zero i then 0 else expr_nodes i

-- a target counts 1, and its index besides
abbrev pub target_nodes : CoreTarget → ℕ
target_nodes (target.Cell array i) = 1 + index_nodes i
target_nodes (target.Through pointer i) = 1 + expr_nodes i

-- the nodes of a reading's target, if it has one
abbrev pub reading_nodes : Option CoreTarget → ℕ
reading_nodes None = 0
reading_nodes (Some x) = target_nodes x

-- a copy's end counts 1, and its index besides
abbrev pub end_nodes : CoreEnd → ℕ
end_nodes (end.Cell array i) = 1 + index_nodes i
end_nodes (end.Pointer pointer) = 1

abbrev mutual
  -- a statement counts 1 and its parts; a loop's body counts once
  pub stmt_nodes : CoreStmt → ℕ
  stmt_nodes (stmt.Assign x e) = 1 + target_nodes x + expr_nodes e
  stmt_nodes (stmt.Point p array i) = 2 + index_nodes i
  stmt_nodes (stmt.If' c m yes_row n no_row) = 1 + expr_nodes c + row_nodes yes_row + row_nodes no_row
  stmt_nodes (stmt.Loop' i turns m row) = 1 + row_nodes row
  stmt_nodes (stmt.Io site x p args) = 1 + reading_nodes x + sum_by expr_nodes args
  stmt_nodes (stmt.Block' site m row) = 1 + row_nodes row
  stmt_nodes (stmt.Copy site to from n) = 1 + end_nodes to + end_nodes from + expr_nodes n

  -- the nodes of a row's statements
  pub row_nodes : {n : _} → Row_of-CoreStmt n → ℕ
  row_nodes end_of-CoreStmt = 0
  row_nodes (more_of-CoreStmt s rest) = stmt_nodes s + row_nodes rest

-- the nodes of an exit
abbrev pub exit_nodes : CoreExit → ℕ
exit_nodes (exit.Next t) = 1
exit_nodes exit.Stop = 1
exit_nodes (exit.Choose' c u (more_of-CoreExit a end_of-CoreExit) v (more_of-CoreExit b end_of-CoreExit)) = 1 + expr_nodes c + exit_nodes a + exit_nodes b

-- the nodes of a task
abbrev pub task_nodes : CoreTask → ℕ
task_nodes t = sum_by stmt_nodes t.body + exit_nodes t.exit

-- the nodes of a row are those of the statements that it shows
row_nodes_sum : (n : _) (row : Row_of-CoreStmt n) → row_nodes row ≡ sum_by stmt_nodes (items-the_row-CoreStmt n row)
row_nodes_sum n end_of-CoreStmt = refl
row_nodes_sum n (more_of-CoreStmt s rest) = ap (λ k. stmt_nodes s + k) (row_nodes_sum _ rest) ∙ sym (sum_by-cons stmt_nodes s (items-the_row-CoreStmt _ rest))

body_nodes : (body : List CoreStmt) → row_nodes (core_row_of body).1 ≡ sum_by stmt_nodes body
body_nodes body = row_nodes_sum (core_row_of body).0 (core_row_of body).1 ∙ ap (sum_by stmt_nodes) (core_row_shows body)

-- the nodes of an `if`
pub nodes_if : (c : CoreExpr) (yes_part no_part : List CoreStmt) → stmt_nodes (stmt.If c yes_part no_part) ≡ 1 + expr_nodes c + sum_by stmt_nodes yes_part + sum_by stmt_nodes no_part
nodes_if c yes_part no_part =
    ap (λ k. 1 + expr_nodes c + k + row_nodes (core_row_of no_part).1) (body_nodes yes_part)
    ∙ ap (λ k. 1 + expr_nodes c + sum_by stmt_nodes yes_part + k) (body_nodes no_part)

-- the nodes of a loop
pub nodes_loop : (i turns : ℕ) (body : List CoreStmt) → stmt_nodes (stmt.Loop i turns body) ≡ 1 + sum_by stmt_nodes body
nodes_loop i turns body = ap (λ k. 1 + k) (body_nodes body)

-- the nodes of a block
pub nodes_block : (site : ℕ) (body : List CoreStmt) → stmt_nodes (stmt.Block site body) ≡ 1 + sum_by stmt_nodes body
nodes_block site body = ap (λ k. 1 + k) (body_nodes body)
