-- The value of an expression, by how its parts end.
use Rattle.std.proofs.Common.{◌≡◌, ◌∙◌, ℕ, Option, None, Result, Ok, sym, ap}
use Rattle.ease_base.specs.Found.{with_found}
use Rattle.task_ast.specs.declared.tree.Op1.{Op1}
use Rattle.task_ast.specs.declared.tree.Op2.{Op2}
use Rattle.task_ast.specs.declared.core_form.CoreExpr.{CoreExpr}
use Rattle.task_ast.specs.declared.core_form.CoreExpr.TheVariants.{Cell, Through, One, Two}
use Rattle.walk_run.specs.declared.trap.Trap.{Trap}
use Rattle.walk_run.specs.Store.{Store}
use Rattle.walk_run.specs.Operators.{one_word, two_words, decided, unless_decided, two_values}
use Rattle.walk_run.specs.Value.{word_found, cell_place, through_place, value_of}
use Rattle.walk_run.specs.ValueRows.{value_at_cell, value_at_through, value_at_one, value_at_two}

-- what a call on a part gave
pub part_value : (part got : CoreExpr) (store : Store) (result r : Result ℕ Trap)
    → got ≡ part → result ≡ value_of got store → result ≡ r → value_of part store ≡ r
part_value part got store result r is value was = ap (λ e. value_of e store) (sym is) ∙ sym value ∙ was

pub cell_at : (e index : CoreExpr) (store : Store) (array : ℕ) (r : Result ℕ Trap)
    → e ≡ Cell array index → value_of index store ≡ r → value_of e store ≡ word_found store (cell_place store array r)
cell_at e index store array r is v = value_at_cell e store array index is ∙ ap (λ x. word_found store (cell_place store array x)) v

pub through_at : (e index : CoreExpr) (store : Store) (pointer : ℕ) (r : Result ℕ Trap)
    → e ≡ Through pointer index → value_of index store ≡ r → value_of e store ≡ word_found store (through_place store pointer r)
through_at e index store pointer r is v = value_at_through e store pointer index is ∙ ap (λ x. word_found store (through_place store pointer x)) v

pub one_at : (e a : CoreExpr) (store : Store) (op : Op1) (r : Result ℕ Trap)
    → e ≡ One op a → value_of a store ≡ r → value_of e store ≡ with_found r (λ word. Ok (one_word op word))
one_at e a store op r is v = value_at_one e store op a is ∙ ap (λ x. with_found x (λ word. Ok (one_word op word))) v

pub two_at_left : (e a b : CoreExpr) (store : Store) (op : Op2) (r : Result ℕ Trap)
    → e ≡ Two op a b → value_of a store ≡ r → value_of e store ≡ two_values op r (value_of b store)
two_at_left e a b store op r is v = value_at_two e store op a b is ∙ ap (λ x. two_values op x (value_of b store)) v

-- at a left side with a word, by whether it decides
pub two_at_early : (e a b : CoreExpr) (store : Store) (op : Op2) (x : ℕ) (early : Option ℕ)
    → e ≡ Two op a b → value_of a store ≡ Ok x → decided op x ≡ early
    → value_of e store ≡ unless_decided early (with_found (value_of b store) (two_words op x))
two_at_early e a b store op x early is v d =
    two_at_left e a b store op (Ok x) is v ∙ ap (λ o. unless_decided o (with_found (value_of b store) (two_words op x))) d

pub two_at_right : (e a b : CoreExpr) (store : Store) (op : Op2) (x : ℕ) (r : Result ℕ Trap)
    → e ≡ Two op a b → value_of a store ≡ Ok x → decided op x ≡ None → value_of b store ≡ r
    → value_of e store ≡ with_found r (two_words op x)
two_at_right e a b store op x r is v d w =
    two_at_early e a b store op x None is v d ∙ ap (λ y. with_found y (two_words op x)) w
