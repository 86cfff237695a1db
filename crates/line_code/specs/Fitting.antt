-- Expressions and statements whose numbers fit the operands of their code.
use Rattle.std.specs.Prelude.{ℕ, ◌+◌, ◌^◌, ◌<◌, ◌≤◌, List, [], ◌∷◌}
use Rattle.task_ast.specs.declared.core_form.CoreExpr.{CoreExpr, end_of-CoreExpr, more_of-CoreExpr}
use Rattle.task_ast.specs.declared.core_form.CoreExpr.TheVariants as expr
use Rattle.task_ast.specs.declared.core_form.CoreTarget.{CoreTarget}
use Rattle.task_ast.specs.declared.core_form.CoreTarget.TheVariants as target
use Rattle.task_ast.specs.declared.core_form.CoreStmt.{CoreStmt, Row_of-CoreStmt, end_of-CoreStmt, more_of-CoreStmt}
use Rattle.task_ast.specs.declared.core_form.CoreStmt.TheVariants as stmt
use Rattle.task_ast.specs.WellFormed.{core_depth}

-- the numbers of an expression are words, and its pointers have cells
abbrev pub HasFields : CoreExpr → Type 0
HasFields (expr.Number n) = n < 2 ^ 32
HasFields (expr.Cell' array u (more_of-CoreExpr i end_of-CoreExpr)) = HasFields i
HasFields (expr.Through' pointer u (more_of-CoreExpr i end_of-CoreExpr)) = (pointer < 256) × HasFields i
HasFields (expr.One' op u (more_of-CoreExpr e end_of-CoreExpr)) = HasFields e
HasFields (expr.Two' op u (more_of-CoreExpr a end_of-CoreExpr) v (more_of-CoreExpr b end_of-CoreExpr)) = HasFields a × HasFields b

-- and from a depth on there are cells for its words in between
pub record IsShort (d : ℕ) (e : CoreExpr) : Type 0 where
  pub cells : d + core_depth e ≤ 32
  pub fields : HasFields e

-- a target
abbrev pub IsShortTarget : CoreTarget → Type 0
IsShortTarget (target.Cell array i) = IsShort 0 i
IsShortTarget (target.Through pointer i) = (pointer < 256) × IsShort 0 i

abbrev mutual
  -- a statement without sites
  pub IsShortStmt : CoreStmt → Type 0
  IsShortStmt (stmt.Assign x e) = IsShortTarget x × IsShort 1 e
  IsShortStmt (stmt.Point p array i) = (p < 256) × IsShort 0 i
  IsShortStmt (stmt.If' c m yes_row n no_row) = IsShort 0 c × AreShortStmts yes_row × AreShortStmts no_row
  IsShortStmt (stmt.Loop' i turns m row) = (turns < 65536) × AreShortStmts row
  IsShortStmt (stmt.Io site x p args) = Unit {0}
  IsShortStmt (stmt.Block' site m row) = Unit {0}
  IsShortStmt (stmt.Copy site to from n) = Unit {0}

  -- a row's statements
  pub AreShortStmts : {n : _} → Row_of-CoreStmt n → Type 0
  AreShortStmts end_of-CoreStmt = Unit {0}
  AreShortStmts (more_of-CoreStmt s rest) = IsShortStmt s × AreShortStmts rest

-- statements, one after another
abbrev pub IsShortBody : List CoreStmt → Type 0
IsShortBody [] = Unit {0}
IsShortBody (s ∷ rest) = IsShortStmt s × IsShortBody rest
