-- The call or copy of a site in a body, inside a statement and as a list.
use Rattle.std.specs.Prelude.{◌≡◌, ℕ, ◌+◌, ◌<◌, List, ◌∷◌, length, drop, get_or, Option, Some, None, refl}
use Rattle.std.proofs.lemmas.List.{drop_more}
use Rattle.std.proofs.Common.{ap, sym, ◌∙◌}
use Rattle.task_ast.specs.declared.core_form.CoreExpr.{CoreExpr}
use Rattle.task_ast.specs.declared.core_form.CoreStmt.{CoreStmt, Row_of-CoreStmt, end_of-CoreStmt, more_of-CoreStmt, items-the_row-CoreStmt}
use Rattle.task_ast.specs.declared.core_form.CoreStmt.TheVariants as stmt
use Rattle.task_ast.specs.Rows.{core_row_of, core_row_shows}
use Rattle.word_code.specs.Finding.{or_else, found_in, found_in_row, found}

row_found : (site n : _) (row : Row_of-CoreStmt n) → found_in_row site row ≡ found site (items-the_row-CoreStmt n row)
row_found site n end_of-CoreStmt = refl
row_found site n (more_of-CoreStmt s rest) = ap (or_else (found_in site s)) (row_found site _ rest)

body_found : (site : ℕ) (body : List CoreStmt) → found_in_row site (core_row_of body).1 ≡ found site body
body_found site body = row_found site (core_row_of body).0 (core_row_of body).1 ∙ ap (found site) (core_row_shows body)

-- an `if` and a block
pub found_if : (site : ℕ) (s : CoreStmt) (c : CoreExpr) (a b got other : List CoreStmt) → s ≡ stmt.If c a b → got ≡ a → other ≡ b → or_else (found site got) (found site other) ≡ found_in site s
found_if site s c a b got other is at follows =
    (λ i. or_else ((ap (found site) at ∙ sym (body_found site a)) i) ((ap (found site) follows ∙ sym (body_found site b)) i)) ∙ sym (ap (found_in site) is)

pub found_block : (site : ℕ) (s : CoreStmt) (k : ℕ) (a got : List CoreStmt) → s ≡ stmt.Block k a → got ≡ a → found site got ≡ found_in site s
found_block site s k a got is at = ap (found site) at ∙ sym (body_found site a) ∙ sym (ap (found_in site) is)

pub found_here : (site : ℕ) (s : CoreStmt) (c : CoreExpr) (a b got : List CoreStmt) (x : CoreStmt) → s ≡ stmt.If c a b → got ≡ a → Some x ≡ found site got → Some x ≡ found_in site s
found_here site s c a b got x is at here = (λ i. or_else (here i) (found site b)) ∙ found_if site s c a b got b is at refl

pub found_there : (site : ℕ) (s : CoreStmt) (c : CoreExpr) (a b got other : List CoreStmt) (x : Option CoreStmt) → s ≡ stmt.If c a b → got ≡ a → other ≡ b → None ≡ found site got → x ≡ found site other
    → x ≡ found_in site s
found_there site s c a b got other x is at follows none there = there ∙ (λ i. or_else (none i) (found site other)) ∙ found_if site s c a b got other is at follows

-- in the statement at a place of a body
pub found_at : (site : ℕ) (body : List CoreStmt) (k : ℕ) (s x : CoreStmt) → k < length body → s ≡ get_or body k s → found site (drop k body) ≡ found site body → Some x ≡ found_in site s → Some x ≡ found site body
found_at site body k s x within is left here =
    (λ i. or_else (here i) (found site (drop (k + 1) body))) ∙ sym (ap (found site) (drop_more body k s within ∙ ap (λ y. y ∷ drop (k + 1) body) (sym is))) ∙ left
