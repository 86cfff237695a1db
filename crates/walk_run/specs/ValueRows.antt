-- The value of a cell, of an index through a pointer and of an operator, by their parts.
use Rattle.std.specs.Prelude.{◌≡◌, ℕ, Ok}
use Rattle.std.proofs.Common.{ap}
use Rattle.ease_base.specs.Found.{with_found}
use Rattle.task_ast.specs.declared.tree.Op1.{Op1}
use Rattle.task_ast.specs.declared.tree.Op2.{Op2}
use Rattle.task_ast.specs.declared.core_form.CoreExpr.{CoreExpr}
use Rattle.task_ast.specs.declared.core_form.CoreExpr.TheVariants.{Cell, Through, One, Two}
use Rattle.task_ast.specs.declared.core_form.CoreExpr.TheBlock.{hidden-the_row-CoreExpr-0, shape-the_row-CoreExpr-0}
use Rattle.walk_run.specs.Store.{Store}
use Rattle.walk_run.specs.Operators.{one_word, two_values}
use Rattle.walk_run.specs.Value.{word_found, cell_place, through_place, value_of}
use denote.Hole.Carrier.{hidden}

pub value_at_cell : (e : CoreExpr) (store : Store) (array : ℕ) (index : CoreExpr) → e ≡ Cell array index → value_of e store ≡ word_found store (cell_place store array (value_of index store))
unfolding hidden-the_row-CoreExpr-0 shape-the_row-CoreExpr-0 hidden
value_at_cell e store array index is = ap (λ x. value_of x store) is

pub value_at_through : (e : CoreExpr) (store : Store) (pointer : ℕ) (index : CoreExpr) → e ≡ Through pointer index → value_of e store ≡ word_found store (through_place store pointer (value_of index store))
unfolding hidden-the_row-CoreExpr-0 shape-the_row-CoreExpr-0 hidden
value_at_through e store pointer index is = ap (λ x. value_of x store) is

pub value_at_one : (e : CoreExpr) (store : Store) (op : Op1) (a : CoreExpr) → e ≡ One op a → value_of e store ≡ with_found (value_of a store) (λ word. Ok (one_word op word))
unfolding hidden-the_row-CoreExpr-0 shape-the_row-CoreExpr-0 hidden
value_at_one e store op a is = ap (λ x. value_of x store) is

pub value_at_two : (e : CoreExpr) (store : Store) (op : Op2) (a b : CoreExpr) → e ≡ Two op a b → value_of e store ≡ two_values op (value_of a store) (value_of b store)
unfolding hidden-the_row-CoreExpr-0 shape-the_row-CoreExpr-0 hidden
value_at_two e store op a b is = ap (λ x. value_of x store) is
