-- The faults of an expression and of an exit, by their parts.
use Rattle.std.proofs.Common.{◌≡◌, ℕ, List, ◌++◌, refl, ap, sym, ◌∙◌}
use Rattle.std.specs.Prelude.{Option}
use Rattle.task_ast.specs.declared.tree.Name.{Name}
use Rattle.task_ast.specs.declared.tree.Op1.{Op1}
use Rattle.task_ast.specs.declared.tree.Op2.{Op2}
use Rattle.task_ast.specs.declared.tree.Expr.{Expr}
use Rattle.task_ast.specs.declared.tree.Expr.TheVariants.{Index, Paren, One, Two}
use Rattle.task_ast.specs.declared.tree.Expr.TheBlock.{hidden-the_row-Expr-0, shape-the_row-Expr-0}
use Rattle.task_ast.specs.declared.tree.Exit.{Exit}
use Rattle.task_ast.specs.declared.tree.Exit.TheVariants.{Choose}
use Rattle.task_ast.specs.declared.tree.Exit.TheBlock.{hidden-the_row-Exit-0, shape-the_row-Exit-0}
use denote.Hole.Carrier.{hidden}
use Rattle.task_check.specs.declared.names.Meaning.{Meaning}
use Rattle.task_check.specs.Names.{Meanings}
use Rattle.task_check.specs.Faults.{expr_faults, exit_faults}
use Rattle.task_check.specs.Refusals.{unknown_name, not_array_or_pointer}

at_index : (names : Meanings) (x : Name) (i : Expr) → expr_faults names (Index x i) ≡ (unknown_name x.at (names x.text) ++ not_array_or_pointer x.at (names x.text)) ++ expr_faults names i
unfolding hidden-the_row-Expr-0 shape-the_row-Expr-0 hidden
at_index names x i = refl

-- those of an indexed name: of the name, then of the index
pub index_faults : (names : Meanings) (e : Expr) (x : Name) (i inner : Expr) (m : Option Meaning) (text : List ℕ) → e ≡ Index x i → inner ≡ i → text ≡ x.text → m ≡ names text
    → expr_faults names e ≡ (unknown_name x.at m ++ not_array_or_pointer x.at m) ++ expr_faults names inner
index_faults names e x i inner m text is same at_text at_m =
    let meant : m ≡ names x.text = at_m ∙ ap names at_text in
    ap (expr_faults names) is ∙ at_index names x i ∙ (λ j. (unknown_name x.at (sym meant j) ++ not_array_or_pointer x.at (sym meant j)) ++ expr_faults names (sym same j))

at_paren : (names : Meanings) (i : Expr) → expr_faults names (Paren i) ≡ expr_faults names i
unfolding hidden-the_row-Expr-0 shape-the_row-Expr-0 hidden
at_paren names i = refl

-- those of parentheses and of a prefix form
pub paren_faults : (names : Meanings) (e i inner : Expr) → e ≡ Paren i → inner ≡ i → expr_faults names e ≡ expr_faults names inner
paren_faults names e i inner is same = ap (expr_faults names) is ∙ at_paren names i ∙ ap (expr_faults names) (sym same)

at_one : (names : Meanings) (op : Op1) (i : Expr) → expr_faults names (One op i) ≡ expr_faults names i
unfolding hidden-the_row-Expr-0 shape-the_row-Expr-0 hidden
at_one names op i = refl

pub one_faults : (names : Meanings) (e i inner : Expr) (op : Op1) → e ≡ One op i → inner ≡ i → expr_faults names e ≡ expr_faults names inner
one_faults names e i inner op is same = ap (expr_faults names) is ∙ at_one names op i ∙ ap (expr_faults names) (sym same)

at_two : (names : Meanings) (op : Op2) (a b : Expr) → expr_faults names (Two op a b) ≡ expr_faults names a ++ expr_faults names b
unfolding hidden-the_row-Expr-0 shape-the_row-Expr-0 hidden
at_two names op a b = refl

-- those of a binary form: of its left part, then of its right part
pub two_faults : (names : Meanings) (e a b left right : Expr) (op : Op2) → e ≡ Two op a b → left ≡ a → right ≡ b → expr_faults names e ≡ expr_faults names left ++ expr_faults names right
two_faults names e a b left right op is at_left at_right =
    ap (expr_faults names) is ∙ at_two names op a b ∙ (λ j. expr_faults names (sym at_left j) ++ expr_faults names (sym at_right j))

-- its left part alone
pub two_left : (names : Meanings) (e a b left : Expr) (op : Op2) → e ≡ Two op a b → left ≡ a → expr_faults names e ≡ expr_faults names left ++ expr_faults names b
two_left names e a b left op is at_left = two_faults names e a b left b op is at_left refl

at_choose : (names : Meanings) (c : Expr) (a b : Exit) → exit_faults names (Choose c a b) ≡ expr_faults names c ++ exit_faults names a ++ exit_faults names b
unfolding hidden-the_row-Exit-0 shape-the_row-Exit-0 hidden
at_choose names c a b = refl

-- those of an exit that chooses: of its condition, then of its two exits
pub choose_faults : (names : Meanings) (e a b left right : Exit) (c : Expr) → e ≡ Choose c a b → left ≡ a → right ≡ b
    → exit_faults names e ≡ expr_faults names c ++ exit_faults names left ++ exit_faults names right
choose_faults names e a b left right c is at_left at_right =
    ap (exit_faults names) is ∙ at_choose names c a b ∙ (λ j. expr_faults names c ++ exit_faults names (sym at_left j) ++ exit_faults names (sym at_right j))
