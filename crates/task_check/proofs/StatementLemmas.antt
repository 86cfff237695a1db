-- The faults of statements with bodies, by their parts.
use Rattle.std.proofs.Common.{◌≡◌, ℕ, ◌+◌, Bool, List, ◌∷◌, ◌++◌, sym, ap, ◌∙◌}
use Rattle.std.specs.Prelude.{if◌then◌else◌}
use Rattle.ease_base.specs.declared.place.Pos.{Pos}
use Rattle.task_ast.specs.declared.tree.Ann.{Ann}
use Rattle.task_ast.specs.declared.tree.Name.{Name}
use Rattle.task_ast.specs.declared.tree.Expr.{Expr}
use Rattle.task_ast.specs.declared.tree.Stmt.{Stmt}
use Rattle.task_ast.specs.declared.tree.Stmt.TheVariants.{If, For, Block}
use Rattle.task_check.specs.Around.{Around, in_branch, in_loop}
use Rattle.task_check.specs.Names.{array_number}
use Rattle.task_check.specs.Sites.{body_has_sites}
use Rattle.task_check.specs.Faults.{expr_faults, head_faults, stmt_faults, body_faults, faults_if, faults_for, faults_block}

-- those of an `if`
pub if_faults : (a : Around) (s : Stmt) (c : Expr) (ys ns ys' ns' : List Stmt) → s ≡ If c ys ns → ys' ≡ ys → ns' ≡ ns
    → stmt_faults a s ≡ expr_faults a.names c ++ body_faults (in_branch a) ys' ++ body_faults (in_branch a) ns'
if_faults a s c ys ns ys' ns' is at_ys at_ns =
    ap (stmt_faults a) is ∙ faults_if a c ys ns ∙ (λ i. expr_faults a.names c ++ body_faults (in_branch a) (sym at_ys i) ++ body_faults (in_branch a) (sym at_ns i))

-- those of a block
pub block_faults : (a : Around) (s : Stmt) (n : Ann) (body body' : List Stmt) (word : Pos) → s ≡ Block n body word → body' ≡ body → stmt_faults a s ≡ body_faults a body'
block_faults a s n body body' word is same = ap (stmt_faults a) is ∙ faults_block a n body word ∙ ap (body_faults a) (sym same)

-- what surrounds the body of a loop, by its parts
abbrev pub inside_loop : Around → List ℕ → ℕ → Around
inside_loop a barred level = record { names = a.names; reach = a.reach; barred = barred; level = level; branched = a.branched }

-- those of a loop
pub loop_faults : (a : Around) (s : Stmt) (i : Name) (turns : ℕ) (at : Pos) (body here there : List Stmt) (word : Pos) (unrolled : Bool) (barred barred' : List ℕ) (level : ℕ)
    → s ≡ For i turns at body word → here ≡ body → unrolled ≡ body_has_sites here → there ≡ body
    → barred' ≡ barred → barred ≡ array_number (a.names i.text) ∷ a.barred → level ≡ (if unrolled then a.level else a.level + 1)
    → stmt_faults a s ≡ head_faults a unrolled i turns at word ++ body_faults (inside_loop a barred' level) there
loop_faults a s i turns at body here there word unrolled barred barred' level is at_here at_unrolled at_there at_barred' at_barred at_level =
    let u : unrolled ≡ body_has_sites body = at_unrolled ∙ ap body_has_sites at_here in
    ap (stmt_faults a) is ∙ faults_for a i turns at body word
    ∙ (λ j. head_faults a (sym u j) i turns at word ++ body_faults (in_loop a (sym u j) (array_number (a.names i.text))) (sym at_there j))
    ∙ (λ j. head_faults a unrolled i turns at word ++ body_faults (inside_loop a (sym (at_barred' ∙ at_barred) j) (sym at_level j)) there)

-- those of a loop's head come first
pub loop_head : (a : Around) (s : Stmt) (i : Name) (turns : ℕ) (at : Pos) (body here : List Stmt) (word : Pos) (unrolled : Bool)
    → s ≡ For i turns at body word → here ≡ body → unrolled ≡ body_has_sites here
    → stmt_faults a s ≡ head_faults a unrolled i turns at word ++ body_faults (in_loop a unrolled (array_number (a.names i.text))) body
loop_head a s i turns at body here word unrolled is at_here at_unrolled =
    let u : unrolled ≡ body_has_sites body = at_unrolled ∙ ap body_has_sites at_here in
    ap (stmt_faults a) is ∙ faults_for a i turns at body word
    ∙ (λ j. head_faults a (sym u j) i turns at word ++ body_faults (in_loop a (sym u j) (array_number (a.names i.text))) body)
