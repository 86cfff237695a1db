-- Induction over checked statements.
use Rattle.std.specs.Prelude.{ℕ, List, Option}
use Rattle.std.specs.List.{AllByRecursion}
use Rattle.std.proofs.Common.{subst, sym, ap, ◌∙◌}
use Rattle.task_ast.specs.declared.core_form.CoreExpr.{CoreExpr}
use Rattle.task_ast.specs.declared.core_form.CoreEnd.{CoreEnd}
use Rattle.task_ast.specs.declared.core_form.CoreTarget.{CoreTarget}
use Rattle.task_ast.specs.declared.core_form.CoreStmt.{CoreStmt, Row_of-CoreStmt, end_of-CoreStmt, more_of-CoreStmt, items-the_row-CoreStmt, items_shown-the_row-CoreStmt-0, roll-CoreStmt, roll-out-CoreStmt}
use Rattle.task_ast.specs.declared.core_form.CoreStmt.TheVariants as stmt
use Rattle.task_ast.specs.declared.core_form.CoreStmt.TheBlock.{shown-the_row-CoreStmt-0}

-- a claim holds of each variant where it holds of each statement inside
pub record HoldsByParts (P : CoreStmt → Type 0) : Type 0 where
  pub assign : (x : CoreTarget) (e : CoreExpr) → P (stmt.Assign x e)
  pub point : (p array : ℕ) (index : CoreExpr) → P (stmt.Point p array index)
  pub choose : (c : CoreExpr) (yes_part no_part : List CoreStmt) → AllByRecursion P yes_part → AllByRecursion P no_part → P (stmt.If c yes_part no_part)
  pub loop : (i turns : ℕ) (body : List CoreStmt) → AllByRecursion P body → P (stmt.Loop i turns body)
  pub io : (site : ℕ) (x : Option CoreTarget) (p : ℕ) (args : List CoreExpr) → P (stmt.Io site x p args)
  pub block : (site : ℕ) (body : List CoreStmt) → AllByRecursion P body → P (stmt.Block site body)
  pub copy : (site : ℕ) (to from : CoreEnd) (n : CoreExpr) → P (stmt.Copy site to from n)

-- what holds of each statement of a row holds of each of the list that it shows
all_items : (P : CoreStmt → Type 0) (m : _) (row : Row_of-CoreStmt _) → AllByRecursion P (items-the_row-CoreStmt _ row) → AllByRecursion P (shown-the_row-CoreStmt-0 m row)
all_items P m row all = subst (AllByRecursion P) (sym (items_shown-the_row-CoreStmt-0 m row)) all

mutual
  -- what holds of each variant by its parts holds of every checked statement
  pub for_every : (P : CoreStmt → Type 0) → HoldsByParts P → (s : CoreStmt) → P s
  for_every P h (stmt.Assign x e) = h.assign x e
  for_every P h (stmt.Point p array index) = h.point p array index
  for_every P h (stmt.If' c m yes_row n no_row) =
      subst P (sym (stmt.rolls-If c _ _) ∙ ap roll-CoreStmt (sym (stmt.outs-If' c m yes_row n no_row)) ∙ roll-out-CoreStmt (stmt.If' c m yes_row n no_row))
      (h.choose c (shown-the_row-CoreStmt-0 m yes_row) (shown-the_row-CoreStmt-0 n no_row) (all_items P m yes_row (all_shown P h yes_row)) (all_items P n no_row (all_shown P h no_row)))
  for_every P h (stmt.Loop' i turns m row) =
      subst P (sym (stmt.rolls-Loop i turns _) ∙ ap roll-CoreStmt (sym (stmt.outs-Loop' i turns m row)) ∙ roll-out-CoreStmt (stmt.Loop' i turns m row))
      (h.loop i turns (shown-the_row-CoreStmt-0 m row) (all_items P m row (all_shown P h row)))
  for_every P h (stmt.Io site x p args) = h.io site x p args
  for_every P h (stmt.Block' site m row) =
      subst P (sym (stmt.rolls-Block site _) ∙ ap roll-CoreStmt (sym (stmt.outs-Block' site m row)) ∙ roll-out-CoreStmt (stmt.Block' site m row))
      (h.block site (shown-the_row-CoreStmt-0 m row) (all_items P m row (all_shown P h row)))
  for_every P h (stmt.Copy site to from n) = h.copy site to from n

  -- and of each statement of a row
  all_shown : (P : CoreStmt → Type 0) → HoldsByParts P → {n : _} (row : Row_of-CoreStmt n) → AllByRecursion P (items-the_row-CoreStmt n row)
  all_shown P h end_of-CoreStmt = tt
  all_shown P h (more_of-CoreStmt s rest) = (for_every P h s, all_shown P h rest)
