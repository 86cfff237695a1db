-- Induction over checked expressions.
use Rattle.std.specs.Prelude.{ℕ}
use Rattle.task_ast.specs.declared.tree.Op1.{Op1}
use Rattle.task_ast.specs.declared.tree.Op2.{Op2}
use Rattle.task_ast.specs.declared.core_form.CoreExpr.{CoreExpr, end_of-CoreExpr, more_of-CoreExpr}
use Rattle.task_ast.specs.declared.core_form.CoreExpr.TheVariants.{Number, Cell, Cell', Through, Through', One, One', Two, Two'}
use Rattle.task_ast.specs.declared.core_form.CoreExpr.TheBlock.{hidden-the_row-CoreExpr-0, shape-the_row-CoreExpr-0}
use denote.Hole.Carrier.{hidden}

-- a claim holds of each variant where it holds of the parts
pub record HoldsByParts (P : CoreExpr → Type 0) : Type 0 where
  pub number : (n : ℕ) → P (Number n)
  pub cell : (array : ℕ) (i : CoreExpr) → P i → P (Cell array i)
  pub through : (pointer : ℕ) (i : CoreExpr) → P i → P (Through pointer i)
  pub one : (op : Op1) (e : CoreExpr) → P e → P (One op e)
  pub two : (op : Op2) (a b : CoreExpr) → P a → P b → P (Two op a b)

-- what holds of each variant by its parts holds of every checked expression
pub for_every : (P : CoreExpr → Type 0) → HoldsByParts P → (e : CoreExpr) → P e
unfolding hidden-the_row-CoreExpr-0 shape-the_row-CoreExpr-0 hidden
for_every P h (Number n) = h.number n
for_every P h (Cell' array u (more_of-CoreExpr i end_of-CoreExpr)) = h.cell array i (for_every P h i)
for_every P h (Through' pointer u (more_of-CoreExpr i end_of-CoreExpr)) = h.through pointer i (for_every P h i)
for_every P h (One' op u (more_of-CoreExpr e end_of-CoreExpr)) = h.one op e (for_every P h e)
for_every P h (Two' op u (more_of-CoreExpr a end_of-CoreExpr) v (more_of-CoreExpr b end_of-CoreExpr)) = h.two op a b (for_every P h a) (for_every P h b)
