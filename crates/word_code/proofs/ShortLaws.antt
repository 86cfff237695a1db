-- What is well formed is short: its words in between have cells, and its numbers fit operands.
use Rattle.std.specs.Prelude.{ℕ, ◌+◌, ◌≤◌, Bool, true, false, ◌==◌, cond, List, [], ◌∷◌, Option, Some, None}
use Rattle.std.specs.List.{AllByRecursion}
use Rattle.std.specs.Option.{ForSome}
use Rattle.std.proofs.Common.{arith}
use Rattle.task_ast.specs.declared.core_form.CoreExpr.{CoreExpr, end_of-CoreExpr, more_of-CoreExpr}
use Rattle.task_ast.specs.declared.core_form.CoreExpr.TheVariants as expr
use Rattle.task_ast.specs.declared.core_form.CoreTarget.{CoreTarget}
use Rattle.task_ast.specs.declared.core_form.CoreTarget.TheVariants as target
use Rattle.task_ast.specs.declared.core_form.CoreEnd.{CoreEnd}
use Rattle.task_ast.specs.declared.core_form.CoreEnd.TheVariants as end
use Rattle.task_ast.specs.declared.core_form.CoreStmt.{CoreStmt, Row_of-CoreStmt, end_of-CoreStmt, more_of-CoreStmt}
use Rattle.task_ast.specs.declared.core_form.CoreStmt.TheVariants as stmt
use Rattle.task_ast.specs.WellFormed.{Scope, core_depth, IsOver, IsCoreExpr, IsTarget, IsEnd, IsCoreStmt, AreCoreStmts}
use Rattle.line_code.specs.Fitting.{HasFields, IsShort, IsShortTarget, IsShortStmt, AreShortStmts}
use Rattle.word_code.specs.Finding.{or_else, found_in, found_in_row, found}
use Rattle.word_code.specs.Fitting.{IsShortEnd, IsShortSite}

-- the numbers of an expression fit
over_fields : (s : Scope) → s.pointers ≤ 256 → (e : CoreExpr) → IsOver s e → HasFields e
over_fields s few (expr.Number n) h = h
over_fields s few (expr.Cell' array u (more_of-CoreExpr i end_of-CoreExpr)) h = over_fields s few i h.1
over_fields s few (expr.Through' pointer u (more_of-CoreExpr i end_of-CoreExpr)) h = (omega (arith, h.0, few), over_fields s few i h.1)
over_fields s few (expr.One' op u (more_of-CoreExpr e end_of-CoreExpr)) h = over_fields s few e h
over_fields s few (expr.Two' op u (more_of-CoreExpr a end_of-CoreExpr) v (more_of-CoreExpr b end_of-CoreExpr)) h = (over_fields s few a h.0, over_fields s few b h.1)

-- an expression, from a low depth on
pub expr_short : (s : Scope) → s.pointers ≤ 256 → (d : ℕ) (e : CoreExpr) → d ≤ 1 → IsCoreExpr s e → IsShort d e
expr_short s few d e low h =
    let deep : core_depth e ≤ 24 = h.0 in
    record { cells = omega (arith, deep, low); fields = over_fields s few e h.1 }

target_short : (s : Scope) → s.pointers ≤ 256 → (turning : List ℕ) (x : CoreTarget) → IsTarget s turning x → IsShortTarget x
target_short s few turning (target.Cell array i) h = expr_short s few 0 i (omega arith) h.1
target_short s few turning (target.Through p i) h = (omega (arith, h.0, few), expr_short s few 0 i (omega arith) h.2)

mutual
  -- a statement without sites
  pub stmt_short : (s : Scope) → s.pointers ≤ 256 → (level : ℕ) (branched : Bool) (turning : List ℕ) (x : CoreStmt) → IsCoreStmt s level branched turning x → IsShortStmt x
  stmt_short s few level branched turning (stmt.Assign x e) h = (target_short s few turning x h.1, expr_short s few 1 e (omega arith) h.2)
  stmt_short s few level branched turning (stmt.Point p array i) h = (omega (arith, h.1, few), expr_short s few 0 i (omega arith) h.3)
  stmt_short s few level branched turning (stmt.If' c m yes_row n no_row) h =
      (expr_short s few 0 c (omega arith) h.1, row_short s few (1 + level) true turning yes_row h.2, row_short s few (1 + level) true turning no_row h.3)
  stmt_short s few level branched turning (stmt.Loop' i turns m row) h =
      let small : turns ≤ 65535 = h.2 in
      (omega (arith, small), row_short s few (1 + level) branched (i ∷ turning) row h.5)
  stmt_short s few level branched turning (stmt.Io k x p args) h = tt
  stmt_short s few level branched turning (stmt.Block' k m row) h = tt
  stmt_short s few level branched turning (stmt.Copy k to from n) h = tt

  row_short : (s : Scope) → s.pointers ≤ 256 → (level : ℕ) (branched : Bool) (turning : List ℕ) → {n : _} (row : Row_of-CoreStmt n) → AreCoreStmts s level branched turning row → AreShortStmts row
  row_short s few level branched turning end_of-CoreStmt h = tt
  row_short s few level branched turning (more_of-CoreStmt x rest) h = (stmt_short s few level branched turning x h.0, row_short s few level branched turning rest h.1)

-- an end of a copy
end_short : (s : Scope) → s.pointers ≤ 256 → (x : CoreEnd) → IsEnd s x → IsShortEnd x
end_short s few (end.Cell array i) h = expr_short s few 0 i (omega arith) h.1
end_short s few (end.Pointer p) h = omega (arith, h, few)

reading_short : (s : Scope) → s.pointers ≤ 256 → (turning : List ℕ) (x : Option CoreTarget) → ForSome x (IsTarget s turning) → ForSome x IsShortTarget
reading_short s few turning x h = λ y is. target_short s few turning y (h y is)

args_short : (s : Scope) → s.pointers ≤ 256 → (args : List CoreExpr) → AllByRecursion (IsCoreExpr s) args → AllByRecursion (IsShort 0) args
args_short s few [] h = tt
args_short s few (e ∷ es) h = (expr_short s few 0 e (omega arith) h.0, args_short s few es h.1)

-- of two, if both are short
either_short : (a b : Option CoreStmt) → IsShortSite a → IsShortSite b → IsShortSite (or_else a b)
either_short (Some s) b h g = h
either_short None b h g = g

-- one that is found, if it is
if_short : (t : Bool) (s : CoreStmt) → IsShortSite (Some s) → IsShortSite (cond t (Some s) None)
if_short true s h = h
if_short false s h = tt

mutual
  -- the call or copy of any site
  pub found_short : (s : Scope) → s.pointers ≤ 256 → (level : ℕ) (branched : Bool) (turning : List ℕ) (site : ℕ) (x : CoreStmt) → IsCoreStmt s level branched turning x → IsShortSite (found_in site x)
  found_short s few level branched turning site (stmt.Assign x e) h = tt
  found_short s few level branched turning site (stmt.Point p array i) h = tt
  found_short s few level branched turning site (stmt.If' c m yes_row n no_row) h =
      either_short (found_in_row site yes_row) (found_in_row site no_row) (row_found_short s few (1 + level) true turning site yes_row h.2) (row_found_short s few (1 + level) true turning site no_row h.3)
  found_short s few level branched turning site (stmt.Loop' i turns m row) h = tt
  found_short s few level branched turning site (stmt.Io k x p args) h =
      if_short (k == site) (stmt.Io k x p args) (reading_short s few turning x h.1, h.3, args_short s few args h.4)
  found_short s few level branched turning site (stmt.Block' k m row) h = row_found_short s few (1 + level) branched turning site row h.1
  found_short s few level branched turning site (stmt.Copy k to from n) h =
      if_short (k == site) (stmt.Copy k to from n) (end_short s few to h.2.0, end_short s few from h.3, expr_short s few 0 n (omega arith) h.4)

  row_found_short : (s : Scope) → s.pointers ≤ 256 → (level : ℕ) (branched : Bool) (turning : List ℕ) (site : ℕ) → {n : _} (row : Row_of-CoreStmt n) → AreCoreStmts s level branched turning row → IsShortSite (found_in_row site row)
  row_found_short s few level branched turning site end_of-CoreStmt h = tt
  row_found_short s few level branched turning site (more_of-CoreStmt x rest) h =
      either_short (found_in site x) (found_in_row site rest) (found_short s few level branched turning site x h.0) (row_found_short s few level branched turning site rest h.1)

-- that of a body
pub body_found_short : (s : Scope) → s.pointers ≤ 256 → (level : ℕ) (branched : Bool) (turning : List ℕ) (site : ℕ) (body : List CoreStmt) → AllByRecursion (IsCoreStmt s level branched turning) body → IsShortSite (found site body)
body_found_short s few level branched turning site [] h = tt
body_found_short s few level branched turning site (x ∷ rest) h =
    either_short (found_in site x) (found site rest) (found_short s few level branched turning site x h.0) (body_found_short s few level branched turning site rest h.1)
