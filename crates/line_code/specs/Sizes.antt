-- How many lines code has, wherever it stands.
use Rattle.std.specs.Prelude.{ℕ, ◌+◌, List, [], ◌∷◌}
use Rattle.task_ast.specs.declared.tree.Op1.{Op1}
use Rattle.task_ast.specs.declared.tree.Op1.TheVariants as one
use Rattle.task_ast.specs.declared.tree.Op2.{Op2}
use Rattle.task_ast.specs.declared.tree.Op2.TheVariants as two
use Rattle.task_ast.specs.declared.core_form.CoreExpr.{CoreExpr, end_of-CoreExpr, more_of-CoreExpr}
use Rattle.task_ast.specs.declared.core_form.CoreExpr.TheVariants as expr
use Rattle.task_ast.specs.declared.core_form.CoreTarget.{CoreTarget}
use Rattle.task_ast.specs.declared.core_form.CoreTarget.TheVariants as target
use Rattle.task_ast.specs.declared.core_form.CoreStmt.{CoreStmt, Row_of-CoreStmt, end_of-CoreStmt, more_of-CoreStmt}
use Rattle.task_ast.specs.declared.core_form.CoreStmt.TheVariants as stmt

-- a prefix operator
abbrev pub one_size : Op1 → ℕ
one_size one.Not = 1
one_size one.Inv = 4
one_size one.Neg = 3

-- a binary operator, beside its sides
abbrev pub two_size : Op2 → ℕ
two_size two.Add = 4
two_size two.Sub = 4
two_size two.Mul = 4
two_size two.Div = 4
two_size two.Rem = 4
two_size two.And = 4
two_size two.Or = 4
two_size two.Xor = 4
two_size two.Shl = 4
two_size two.Shr = 4
two_size two.Eq = 4
two_size two.Ne = 5
two_size two.Lt = 4
two_size two.Le = 6
two_size two.Gt = 5
two_size two.Ge = 5
two_size two.Both = 5
two_size two.Either = 4

-- an expression
abbrev pub expr_size : CoreExpr → ℕ
expr_size (expr.Number n) = 2
expr_size (expr.Cell' array u (more_of-CoreExpr index end_of-CoreExpr)) = expr_size index + 10
expr_size (expr.Through' pointer u (more_of-CoreExpr index end_of-CoreExpr)) = expr_size index + 14
expr_size (expr.One' op u (more_of-CoreExpr e end_of-CoreExpr)) = expr_size e + one_size op
expr_size (expr.Two' op u (more_of-CoreExpr a end_of-CoreExpr) v (more_of-CoreExpr b end_of-CoreExpr)) = expr_size a + expr_size b + two_size op

-- the place of a target
abbrev pub target_size : CoreTarget → ℕ
target_size (target.Cell array index) = expr_size index + 9
target_size (target.Through pointer index) = expr_size index + 13

abbrev mutual
  -- a statement without sites; one with a site has no code of its own
  pub statement_size : CoreStmt → ℕ
  statement_size (stmt.Assign x e) = target_size x + expr_size e + 3
  statement_size (stmt.Point p array i) = expr_size i + 11
  statement_size (stmt.If' c m yes_row n no_row) = expr_size c + row_size yes_row + row_size no_row + 4
  statement_size (stmt.Loop' i turns m row) = row_size row + 12
  statement_size (stmt.Io site x p args) = 0
  statement_size (stmt.Block' site m row) = 0
  statement_size (stmt.Copy site to from n) = 0

  -- a row's statements
  pub row_size : {n : _} → Row_of-CoreStmt n → ℕ
  row_size end_of-CoreStmt = 0
  row_size (more_of-CoreStmt s rest) = statement_size s + row_size rest

-- statements, one after another
abbrev pub body_size : List CoreStmt → ℕ
body_size [] = 0
body_size (s ∷ rest) = statement_size s + body_size rest
