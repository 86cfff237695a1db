-- The nodes of a tree by those of its parts, as far as they can be counted.
use Rattle.std.proofs.Common.{◌≡◌, ℕ, zero, suc, ◌+◌, ◌*◌, Bool, true, false, List, sum_by, refl, sym, ap, ◌∙◌, arith}
use Rattle.std.proofs.Math.Nat.{suc-mul}
use Rattle.ease_base.specs.declared.place.Pos.{Pos}
use Rattle.task_ast.specs.declared.tree.Ann.{Ann}
use Rattle.task_ast.specs.declared.tree.Name.{Name}
use Rattle.task_ast.specs.declared.tree.Op1.{Op1}
use Rattle.task_ast.specs.declared.tree.Op2.{Op2}
use Rattle.task_ast.specs.declared.tree.Expr.{Expr}
use Rattle.task_ast.specs.declared.tree.Expr.TheVariants as expr
use Rattle.task_ast.specs.declared.tree.Expr.TheBlock.{hidden-the_row-Expr-0, shape-the_row-Expr-0}
use Rattle.task_ast.specs.declared.tree.Stmt.{Stmt}
use Rattle.task_ast.specs.declared.tree.Stmt.TheVariants as stmt
use Rattle.task_ast.specs.declared.tree.Exit.{Exit}
use Rattle.task_ast.specs.declared.tree.Exit.TheVariants as exit
use Rattle.task_ast.specs.declared.tree.Exit.TheBlock.{hidden-the_row-Exit-0, shape-the_row-Exit-0}
use denote.Hole.Carrier.{hidden}
use Rattle.task_check.specs.Capped.{capped}
use Rattle.task_check.specs.Nodes.{nodes_of_expr, nodes_of_stmt, nodes_of_exit, nodes_of_loop, nodes_of_if, nodes_of_for, nodes_of_block}
use Rattle.task_check.specs.Sites.{body_has_sites}

-- one part, two parts and three parts, counted one after another
one_part : (a r x : ℕ) → a ≡ capped x → r ≡ capped (1 + a) → r ≡ capped (1 + x)
one_part a r x p q = omega (arith, p, q)

two_parts : (a b f r x y : ℕ) → a ≡ capped x → f ≡ capped (1 + a) → b ≡ capped y → r ≡ capped (f + b) → r ≡ capped (1 + x + y)
two_parts a b f r x y p q s t = omega (arith, p, q, s, t)

index_nodes : (x : Name) (i : Expr) → nodes_of_expr (expr.Index x i) ≡ 1 + nodes_of_expr i
unfolding hidden-the_row-Expr-0 shape-the_row-Expr-0 hidden
index_nodes x i = refl

paren_nodes : (e : Expr) → nodes_of_expr (expr.Paren e) ≡ nodes_of_expr e
unfolding hidden-the_row-Expr-0 shape-the_row-Expr-0 hidden
paren_nodes e = refl

one_nodes : (op : Op1) (e : Expr) → nodes_of_expr (expr.One op e) ≡ 1 + nodes_of_expr e
unfolding hidden-the_row-Expr-0 shape-the_row-Expr-0 hidden
one_nodes op e = refl

two_nodes : (op : Op2) (a b : Expr) → nodes_of_expr (expr.Two op a b) ≡ 1 + nodes_of_expr a + nodes_of_expr b
unfolding hidden-the_row-Expr-0 shape-the_row-Expr-0 hidden
two_nodes op a b = refl

choose_nodes : (c : Expr) (a b : Exit) → nodes_of_exit (exit.Choose c a b) ≡ 1 + nodes_of_expr c + nodes_of_exit a + nodes_of_exit b
unfolding hidden-the_row-Exit-0 shape-the_row-Exit-0 hidden
choose_nodes c a b = refl

-- an element's nodes
pub counts_index : (e inner i : Expr) (x : Name) (a r : ℕ) → e ≡ expr.Index x i → inner ≡ i → a ≡ capped (nodes_of_expr inner) → r ≡ capped (1 + a) → r ≡ capped (nodes_of_expr e)
counts_index e inner i x a r is same p q = one_part a r _ p q ∙ ap capped (sym (ap nodes_of_expr is ∙ index_nodes x i ∙ ap (λ (k : Expr). 1 + nodes_of_expr k) (sym same)))

-- those of parentheses
pub counts_paren : (e inner i : Expr) (r : ℕ) → e ≡ expr.Paren i → inner ≡ i → r ≡ capped (nodes_of_expr inner) → r ≡ capped (nodes_of_expr e)
counts_paren e inner i r is same p = p ∙ ap capped (sym (ap nodes_of_expr is ∙ paren_nodes i ∙ ap nodes_of_expr (sym same)))

-- those of a prefix form
pub counts_one : (e inner i : Expr) (op : Op1) (a r : ℕ) → e ≡ expr.One op i → inner ≡ i → a ≡ capped (nodes_of_expr inner) → r ≡ capped (1 + a) → r ≡ capped (nodes_of_expr e)
counts_one e inner i op a r is same p q = one_part a r _ p q ∙ ap capped (sym (ap nodes_of_expr is ∙ one_nodes op i ∙ ap (λ (k : Expr). 1 + nodes_of_expr k) (sym same)))

-- those of a binary form
pub counts_two : (e left right a b : Expr) (op : Op2) (n m f r : ℕ) → e ≡ expr.Two op a b → left ≡ a → right ≡ b
    → n ≡ capped (nodes_of_expr left) → f ≡ capped (1 + n) → m ≡ capped (nodes_of_expr right) → r ≡ capped (f + m) → r ≡ capped (nodes_of_expr e)
counts_two e left right a b op n m f r is at_left at_right p q s t =
    two_parts n m f r _ _ p q s t
    ∙ ap capped (sym (ap nodes_of_expr is ∙ two_nodes op a b ∙ (λ j. 1 + nodes_of_expr (sym at_left j) + nodes_of_expr (sym at_right j))))

-- three parts that are counted
parts_three : (a b c r x y z : ℕ) → a ≡ capped x → b ≡ capped y → c ≡ capped z → r ≡ capped (1 + a + b + c) → r ≡ capped (1 + x + y + z)
parts_three a b c r x y z p q s t = omega (arith, p, q, s, t)

-- those of an exit that chooses
pub counts_choose : (e left right a b : Exit) (c : Expr) (k n m r : ℕ) → e ≡ exit.Choose c a b → left ≡ a → right ≡ b
    → k ≡ capped (nodes_of_expr c) → n ≡ capped (nodes_of_exit left) → m ≡ capped (nodes_of_exit right) → r ≡ capped (1 + k + n + m)
    → r ≡ capped (nodes_of_exit e)
counts_choose e left right a b c k n m r is at_left at_right p q s t =
    parts_three k n m r _ _ _ p q s t
    ∙ ap capped (sym (ap nodes_of_exit is ∙ choose_nodes c a b ∙ (λ j. 1 + nodes_of_expr c + nodes_of_exit (sym at_left j) + nodes_of_exit (sym at_right j))))

-- those of an `if`
pub counts_if : (s : Stmt) (c : Expr) (ys ns ys' ns' : List Stmt) (k n m r : ℕ) → s ≡ stmt.If c ys ns → ys' ≡ ys → ns' ≡ ns
    → k ≡ capped (nodes_of_expr c) → n ≡ capped (sum_by nodes_of_stmt ys') → m ≡ capped (sum_by nodes_of_stmt ns') → r ≡ capped (1 + k + n + m)
    → r ≡ capped (nodes_of_stmt s)
counts_if s c ys ns ys' ns' k n m r is at_ys at_ns p q t u =
    parts_three k n m r _ _ _ p q t u
    ∙ ap capped (sym (ap nodes_of_stmt is ∙ nodes_of_if c ys ns ∙ (λ j. 1 + nodes_of_expr c + sum_by nodes_of_stmt (sym at_ys j) + sum_by nodes_of_stmt (sym at_ns j))))

-- those of a block
pub counts_block : (s : Stmt) (a : Ann) (body body' : List Stmt) (word : Pos) (n r : ℕ) → s ≡ stmt.Block a body word → body' ≡ body
    → n ≡ capped (sum_by nodes_of_stmt body') → r ≡ capped (1 + n) → r ≡ capped (nodes_of_stmt s)
counts_block s a body body' word n r is same p q =
    one_part n r _ p q ∙ ap capped (sym (ap nodes_of_stmt is ∙ nodes_of_block a body word ∙ ap (λ (l : List Stmt). 1 + sum_by nodes_of_stmt l) (sym same)))

-- a product of what is counted
pub times_capped : (k n : ℕ) → capped (k * capped n) ≡ capped (k * n)
times_capped zero n = let e : 0 * capped n ≡ 0 = omega arith in let f : 0 * n ≡ 0 = omega arith in ap capped (e ∙ sym f)
times_capped (suc k) n = omega (arith, suc-mul k (capped n), suc-mul k n, times_capped k n)

loop_capped : (b : Bool) (turns n : ℕ) → capped (nodes_of_loop b turns (capped n)) ≡ capped (nodes_of_loop b turns n)
loop_capped true turns n = omega (arith, times_capped turns n)
loop_capped false turns n = omega arith

-- those of a loop
pub counts_for : (s : Stmt) (x : Name) (turns : ℕ) (at : Pos) (body here there : List Stmt) (word : Pos) (b : Bool) (n r : ℕ) → s ≡ stmt.For x turns at body word
    → here ≡ body → b ≡ body_has_sites here → there ≡ body → n ≡ capped (sum_by nodes_of_stmt there) → r ≡ capped (nodes_of_loop b turns n) → r ≡ capped (nodes_of_stmt s)
counts_for s x turns at body here there word b n r is at_here at_b at_there p q =
    q ∙ (λ j. capped (nodes_of_loop ((at_b ∙ ap body_has_sites at_here) j) turns ((p ∙ ap (λ l. capped (sum_by nodes_of_stmt l)) at_there) j)))
    ∙ loop_capped (body_has_sites body) turns (sum_by nodes_of_stmt body)
    ∙ ap capped (sym (ap nodes_of_stmt is ∙ nodes_of_for x turns at body word))
