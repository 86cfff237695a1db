-- Whether a statement has sites, by its parts.
use Rattle.std.proofs.Common.{◌≡◌, ℕ, Bool, true, false, ◌||◌, List, ap, sym, ◌∙◌}
use Rattle.ease_base.specs.declared.place.Pos.{Pos}
use Rattle.task_ast.specs.declared.tree.Name.{Name}
use Rattle.task_ast.specs.declared.tree.Expr.{Expr}
use Rattle.task_ast.specs.declared.tree.Stmt.{Stmt}
use Rattle.task_ast.specs.declared.tree.Stmt.TheVariants.{If, For}
use Rattle.task_check.specs.Sites.{has_sites, body_has_sites, has_if, has_for}

-- of an `if` whose first body has a site
pub has_first : (s : Stmt) (c : Expr) (ys ns ys' : List Stmt) (b : Bool) → s ≡ If c ys ns → ys' ≡ ys → b ≡ body_has_sites ys' → b ≡ true → b ≡ has_sites s
has_first s c ys ns ys' b is same h holds = holds ∙ sym (ap has_sites is ∙ has_if c ys ns ∙ ap (λ b. b || body_has_sites ns) (ap body_has_sites (sym same) ∙ sym h ∙ holds))

-- and of one whose first body has none
pub has_second : (s : Stmt) (c : Expr) (ys ns ys' ns' : List Stmt) (a b : Bool) → s ≡ If c ys ns → ys' ≡ ys → ns' ≡ ns → a ≡ body_has_sites ys' → a ≡ false → b ≡ body_has_sites ns' → b ≡ has_sites s
has_second s c ys ns ys' ns' a b is same same' at_a none h =
    h ∙ ap body_has_sites same' ∙ sym (ap has_sites is ∙ has_if c ys ns ∙ ap (λ b. b || body_has_sites ns) (ap body_has_sites (sym same) ∙ sym at_a ∙ none))

-- of a loop
pub has_loop : (s : Stmt) (i : Name) (turns : ℕ) (at : Pos) (body body' : List Stmt) (word : Pos) (b : Bool) → s ≡ For i turns at body word → body' ≡ body → b ≡ body_has_sites body' → b ≡ has_sites s
has_loop s i turns at body body' word b is same h = h ∙ ap body_has_sites same ∙ sym (ap has_sites is ∙ has_for i turns at body word)
