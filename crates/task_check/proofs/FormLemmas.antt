-- The checked forms of expressions and exits, by those of their parts.
use Rattle.std.proofs.Common.{◌≡◌, ◌∙◌, ℕ, List, refl, ap, sym}
use Rattle.std.specs.Prelude.{Option}
use Rattle.task_ast.specs.declared.tree.Name.{Name}
use Rattle.task_ast.specs.declared.tree.Op1.{Op1}
use Rattle.task_ast.specs.declared.tree.Op2.{Op2}
use Rattle.task_ast.specs.declared.tree.Expr.{Expr}
use Rattle.task_ast.specs.declared.tree.Expr.TheVariants.{Index, Paren, One, Two}
use Rattle.task_ast.specs.declared.tree.Expr.TheBlock.{hidden-the_row-Expr-0, shape-the_row-Expr-0}
use Rattle.task_ast.specs.declared.tree.Exit.{Exit}
use Rattle.task_ast.specs.declared.tree.Exit.TheVariants.{Choose}
use Rattle.task_ast.specs.declared.tree.Exit.TheBlock.{hidden-the_row-Exit-0, shape-the_row-Exit-0}
use Rattle.task_ast.specs.declared.core_form.CoreExpr.{CoreExpr}
use Rattle.task_ast.specs.declared.core_form.CoreExpr.TheVariants as core
use Rattle.task_ast.specs.declared.core_form.CoreExit.{CoreExit}
use Rattle.task_ast.specs.declared.core_form.CoreExit.TheVariants as core_exits
use denote.Hole.Carrier.{hidden}
use Rattle.task_check.specs.declared.names.Meaning.{Meaning}
use Rattle.task_check.specs.CheckedForm.{indexed, core_expr, core_exit}
use Rattle.task_check.specs.Names.{Meanings, array_number, pointer_of}

at_index : (names : Meanings) (x : Name) (i : Expr) → core_expr names (Index x i) ≡ indexed (pointer_of (names x.text)) (array_number (names x.text)) (core_expr names i)
unfolding hidden-the_row-Expr-0 shape-the_row-Expr-0 hidden
at_index names x i = refl

-- an indexed name
pub index_form : (names : Meanings) (e : Expr) (x : Name) (i inner : Expr) (m : Option Meaning) (text : List ℕ) (p : Option ℕ) (a : ℕ) (k c : CoreExpr) → e ≡ Index x i → inner ≡ i → text ≡ x.text → m ≡ names text
    → p ≡ pointer_of m → a ≡ array_number m → k ≡ core_expr names inner → c ≡ indexed p a k → c ≡ core_expr names e
index_form names e x i inner m text p a k c is same at_text at_m at_p at_a at_k made =
    let meant = at_m ∙ ap names at_text in
    made ∙ (λ j. indexed ((at_p ∙ ap pointer_of meant) j) ((at_a ∙ ap array_number meant) j) ((at_k ∙ ap (core_expr names) same) j)) ∙ sym (ap (core_expr names) is ∙ at_index names x i)

at_paren : (names : Meanings) (i : Expr) → core_expr names (Paren i) ≡ core_expr names i
unfolding hidden-the_row-Expr-0 shape-the_row-Expr-0 hidden
at_paren names i = refl

-- parentheses
pub paren_form : (names : Meanings) (e i inner : Expr) (c : CoreExpr) → e ≡ Paren i → inner ≡ i → c ≡ core_expr names inner → c ≡ core_expr names e
paren_form names e i inner c is same made = made ∙ ap (core_expr names) same ∙ sym (ap (core_expr names) is ∙ at_paren names i)

at_one : (names : Meanings) (op : Op1) (i : Expr) → core_expr names (One op i) ≡ core.One op (core_expr names i)
unfolding hidden-the_row-Expr-0 shape-the_row-Expr-0 hidden
at_one names op i = refl

-- a prefix form
pub one_form : (names : Meanings) (e i inner : Expr) (op : Op1) (k c : CoreExpr) → e ≡ One op i → inner ≡ i → k ≡ core_expr names inner → c ≡ core.One op k → c ≡ core_expr names e
one_form names e i inner op k c is same at_k made = made ∙ ap (core.One op) (at_k ∙ ap (core_expr names) same) ∙ sym (ap (core_expr names) is ∙ at_one names op i)

at_two : (names : Meanings) (op : Op2) (a b : Expr) → core_expr names (Two op a b) ≡ core.Two op (core_expr names a) (core_expr names b)
unfolding hidden-the_row-Expr-0 shape-the_row-Expr-0 hidden
at_two names op a b = refl

-- a binary form
pub two_form : (names : Meanings) (e a b left right : Expr) (op : Op2) (l r c : CoreExpr) → e ≡ Two op a b → left ≡ a → right ≡ b → l ≡ core_expr names left → r ≡ core_expr names right → c ≡ core.Two op l r → c ≡ core_expr names e
two_form names e a b left right op l r c is at_left at_right at_l at_r made =
    made ∙ (λ j. core.Two op ((at_l ∙ ap (core_expr names) at_left) j) ((at_r ∙ ap (core_expr names) at_right) j)) ∙ sym (ap (core_expr names) is ∙ at_two names op a b)

at_choose : (names : Meanings) (c : Expr) (a b : Exit) → core_exit names (Choose c a b) ≡ core_exits.Choose (core_expr names c) (core_exit names a) (core_exit names b)
unfolding hidden-the_row-Exit-0 shape-the_row-Exit-0 hidden
at_choose names c a b = refl

-- an exit that chooses
pub choose_form : (names : Meanings) (e a b left right : Exit) (c : Expr) (k : CoreExpr) (l r made : CoreExit) → e ≡ Choose c a b → left ≡ a → right ≡ b
    → k ≡ core_expr names c → l ≡ core_exit names left → r ≡ core_exit names right → made ≡ core_exits.Choose k l r → made ≡ core_exit names e
choose_form names e a b left right c k l r made is at_left at_right at_k at_l at_r how =
    how ∙ (λ j. core_exits.Choose (at_k j) ((at_l ∙ ap (core_exit names) at_left) j) ((at_r ∙ ap (core_exit names) at_right) j)) ∙ sym (ap (core_exit names) is ∙ at_choose names c a b)
