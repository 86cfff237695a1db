-- Induction over expressions, as they are read and as they are checked.
use Rattle.std.specs.Prelude.{ℕ}
use Rattle.ease_base.specs.declared.place.Pos.{Pos}
use Rattle.task_ast.specs.declared.tree.Name.{Name}
use Rattle.task_ast.specs.declared.tree.Op1.{Op1}
use Rattle.task_ast.specs.declared.tree.Op2.{Op2}
use Rattle.task_ast.specs.declared.tree.Expr.{Expr, end_of-Expr, more_of-Expr}
use Rattle.task_ast.specs.declared.tree.Expr.TheVariants.{Number, Read, Index, Index', Paren, Paren', One, One', Two, Two'}
use Rattle.task_ast.specs.declared.tree.Expr.TheBlock.{hidden-the_row-Expr-0, shape-the_row-Expr-0}
use denote.Hole.Carrier.{hidden}

-- a claim holds of each variant where it holds of the parts
pub record HoldsByParts (P : Expr → Type 0) : Type 0 where
  pub number : (n : ℕ) (at : Pos) → P (Number n at)
  pub read : (x : Name) → P (Read x)
  pub index : (x : Name) (i : Expr) → P i → P (Index x i)
  pub paren : (e : Expr) → P e → P (Paren e)
  pub one : (op : Op1) (e : Expr) → P e → P (One op e)
  pub two : (op : Op2) (a b : Expr) → P a → P b → P (Two op a b)

-- what holds of each variant by its parts holds of every expression
pub for_every : (P : Expr → Type 0) → HoldsByParts P → (e : Expr) → P e
unfolding hidden-the_row-Expr-0 shape-the_row-Expr-0 hidden
for_every P h (Number n at) = h.number n at
for_every P h (Read x) = h.read x
for_every P h (Index' x u (more_of-Expr i end_of-Expr)) = h.index x i (for_every P h i)
for_every P h (Paren' u (more_of-Expr e end_of-Expr)) = h.paren e (for_every P h e)
for_every P h (One' op u (more_of-Expr e end_of-Expr)) = h.one op e (for_every P h e)
for_every P h (Two' op u (more_of-Expr a end_of-Expr) v (more_of-Expr b end_of-Expr)) = h.two op a b (for_every P h a) (for_every P h b)
