-- Induction over statements and exits, as they are read.
use Rattle.std.specs.Prelude.{ℕ, List, Option}
use Rattle.std.specs.List.{AllByRecursion}
use Rattle.std.proofs.Common.{subst, sym, ap, ◌∙◌}
use Rattle.ease_base.specs.declared.place.Pos.{Pos}
use Rattle.task_ast.specs.declared.tree.Ann.{Ann}
use Rattle.task_ast.specs.declared.tree.Name.{Name}
use Rattle.task_ast.specs.declared.tree.Expr.{Expr}
use Rattle.task_ast.specs.declared.tree.Place.{Place}
use Rattle.task_ast.specs.declared.tree.Target.{Target}
use Rattle.task_ast.specs.declared.tree.Stmt.{Stmt, Row_of-Stmt, end_of-Stmt, more_of-Stmt, items-the_row-Stmt, items_shown-the_row-Stmt-0, roll-Stmt, roll-out-Stmt}
use Rattle.task_ast.specs.declared.tree.Stmt.TheVariants as stmt
use Rattle.task_ast.specs.declared.tree.Stmt.TheBlock.{shown-the_row-Stmt-0}

-- a claim holds of each variant where it holds of each statement inside
pub record HoldsByParts (P : Stmt → Type 0) : Type 0 where
  pub assign : (x : Target) (e : Expr) → P (stmt.Assign x e)
  pub point : (p : Name) (to : Place) → P (stmt.Point p to)
  pub choose : (c : Expr) (yes_part no_part : List Stmt) → AllByRecursion P yes_part → AllByRecursion P no_part → P (stmt.If c yes_part no_part)
  pub loop : (i : Name) (turns : ℕ) (at : Pos) (body : List Stmt) (word : Pos) → AllByRecursion P body → P (stmt.For i turns at body word)
  pub io : (x : Option Target) (p : Name) (a : Ann) (args : List Expr) (word : Pos) → P (stmt.Io x p a args word)
  pub block : (a : Ann) (body : List Stmt) (word : Pos) → AllByRecursion P body → P (stmt.Block a body word)
  pub copy : (to from : Place) (n : Expr) (word : Pos) → P (stmt.Dma to from n word)

-- what holds of each statement of a row holds of each of the list that it shows
all_items : (P : Stmt → Type 0) (m : _) (row : Row_of-Stmt _) → AllByRecursion P (items-the_row-Stmt _ row) → AllByRecursion P (shown-the_row-Stmt-0 m row)
all_items P m row all = subst (AllByRecursion P) (sym (items_shown-the_row-Stmt-0 m row)) all

mutual
  -- what holds of each variant by its parts holds of every statement
  pub for_every : (P : Stmt → Type 0) → HoldsByParts P → (s : Stmt) → P s
  for_every P h (stmt.Assign x e) = h.assign x e
  for_every P h (stmt.Point p to) = h.point p to
  for_every P h (stmt.If' c m yes_row n no_row) =
      subst P (sym (stmt.rolls-If c _ _) ∙ ap roll-Stmt (sym (stmt.outs-If' c m yes_row n no_row)) ∙ roll-out-Stmt (stmt.If' c m yes_row n no_row)) (h.choose c (shown-the_row-Stmt-0 m yes_row) (shown-the_row-Stmt-0 n no_row) (all_items P m yes_row (all_shown P h yes_row)) (all_items P n no_row (all_shown P h no_row)))
  for_every P h (stmt.For' i turns at m row word) =
      subst P (sym (stmt.rolls-For i turns at _ word) ∙ ap roll-Stmt (sym (stmt.outs-For' i turns at m row word)) ∙ roll-out-Stmt (stmt.For' i turns at m row word)) (h.loop i turns at (shown-the_row-Stmt-0 m row) word (all_items P m row (all_shown P h row)))
  for_every P h (stmt.Io x p a args word) = h.io x p a args word
  for_every P h (stmt.Block' a m row word) =
      subst P (sym (stmt.rolls-Block a _ word) ∙ ap roll-Stmt (sym (stmt.outs-Block' a m row word)) ∙ roll-out-Stmt (stmt.Block' a m row word)) (h.block a (shown-the_row-Stmt-0 m row) word (all_items P m row (all_shown P h row)))
  for_every P h (stmt.Dma to from n word) = h.copy to from n word

  -- and of each statement of a row
  all_shown : (P : Stmt → Type 0) → HoldsByParts P → {n : _} (row : Row_of-Stmt n) → AllByRecursion P (items-the_row-Stmt n row)
  all_shown P h end_of-Stmt = tt
  all_shown P h (more_of-Stmt s rest) = (for_every P h s, all_shown P h rest)
