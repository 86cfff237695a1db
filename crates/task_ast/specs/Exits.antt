-- Induction over exits, as they are read and as they are checked.
use Rattle.std.specs.Prelude.{ℕ}
use Rattle.task_ast.specs.declared.tree.Name.{Name}
use Rattle.task_ast.specs.declared.tree.Expr.{Expr}
use Rattle.task_ast.specs.declared.tree.Exit.{Exit, end_of-Exit, more_of-Exit}
use Rattle.task_ast.specs.declared.tree.Exit.TheVariants as exit
use Rattle.task_ast.specs.declared.tree.Exit.TheBlock.{hidden-the_row-Exit-0, shape-the_row-Exit-0}
use Rattle.task_ast.specs.declared.core_form.CoreExpr.{CoreExpr}
use Rattle.task_ast.specs.declared.core_form.CoreExit.{CoreExit, end_of-CoreExit, more_of-CoreExit}
use Rattle.task_ast.specs.declared.core_form.CoreExit.TheVariants as core_exit
use Rattle.task_ast.specs.declared.core_form.CoreExit.TheBlock.{hidden-the_row-CoreExit-0, shape-the_row-CoreExit-0}
use denote.Hole.Carrier.{hidden}

-- a claim holds of each variant where it holds of the parts
pub record HoldsByParts (P : Exit → Type 0) : Type 0 where
  pub next : (t : Name) → P (exit.Next t)
  pub stop : P exit.Stop
  pub choose : (c : Expr) (a b : Exit) → P a → P b → P (exit.Choose c a b)

-- what holds of each variant by its parts holds of every exit
pub for_every : (P : Exit → Type 0) → HoldsByParts P → (e : Exit) → P e
unfolding hidden-the_row-Exit-0 shape-the_row-Exit-0 hidden
for_every P h (exit.Next t) = h.next t
for_every P h exit.Stop = h.stop
for_every P h (exit.Choose' c u (more_of-Exit a end_of-Exit) v (more_of-Exit b end_of-Exit)) = h.choose c a b (for_every P h a) (for_every P h b)

-- the same for checked exits
pub record HoldsByCoreParts (P : CoreExit → Type 0) : Type 0 where
  pub next : (t : ℕ) → P (core_exit.Next t)
  pub stop : P core_exit.Stop
  pub choose : (c : CoreExpr) (a b : CoreExit) → P a → P b → P (core_exit.Choose c a b)

-- what holds of each variant by its parts holds of every checked exit
pub for_every_core : (P : CoreExit → Type 0) → HoldsByCoreParts P → (e : CoreExit) → P e
unfolding hidden-the_row-CoreExit-0 shape-the_row-CoreExit-0 hidden
for_every_core P h (core_exit.Next t) = h.next t
for_every_core P h core_exit.Stop = h.stop
for_every_core P h (core_exit.Choose' c u (more_of-CoreExit a end_of-CoreExit) v (more_of-CoreExit b end_of-CoreExit)) = h.choose c a b (for_every_core P h a) (for_every_core P h b)
