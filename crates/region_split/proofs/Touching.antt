-- What statements touch, by their parts.
use Rattle.std.proofs.Common.{◌≡◌, ◌∙◌, ℕ, ◌∷◌, List, [], ◌++◌, refl, sym, ap}
use Rattle.task_ast.specs.declared.core_form.CoreExpr.{CoreExpr}
use Rattle.task_ast.specs.declared.core_form.CoreStmt.{CoreStmt, Row_of-CoreStmt, end_of-CoreStmt, more_of-CoreStmt, items-the_row-CoreStmt}
use Rattle.task_ast.specs.declared.core_form.CoreStmt.TheVariants as stmt
use Rattle.task_ast.specs.Pointing.{Pointing}
use Rattle.task_ast.specs.Rows.{core_row_of, core_row_shows}
use Rattle.region_split.specs.Regions.{Touch, may_write, touches, row_touches, all_touches}
use Rattle.region_split.specs.Owners.{Owners, touched_by, touched, all_touched}

pub touched_append : (ts us : List Touch) (o : Owners) → touched (ts ++ us) o ≡ touched us (touched ts o)
touched_append [] us o = refl
touched_append (t ∷ ts) us o = touched_append ts us (touched_by t o)

pub all_touched_is : (points : Pointing) (body : List CoreStmt) (o : Owners) → all_touched points body o ≡ touched (all_touches points body) o
all_touched_is points [] o = refl
all_touched_is points (s ∷ rest) o = all_touched_is points rest (touched (touches points s) o) ∙ sym (touched_append (touches points s) (all_touches points rest) o)

row_is : (points : Pointing) (n : _) (row : Row_of-CoreStmt n) → row_touches points row ≡ all_touches points (items-the_row-CoreStmt n row)
row_is points n end_of-CoreStmt = refl
row_is points n (more_of-CoreStmt s rest) = ap (λ (ts : List Touch). touches points s ++ ts) (row_is points _ rest)

body_is : (points : Pointing) (body : List CoreStmt) → row_touches points (core_row_of body).1 ≡ all_touches points body
body_is points body = row_is points (core_row_of body).0 (core_row_of body).1 ∙ ap (all_touches points) (core_row_shows body)

-- a body that was passed
body_touched : (points : Pointing) (body got : List CoreStmt) (o x y : Owners) → got ≡ body → o ≡ x → y ≡ all_touched points got o → y ≡ touched (row_touches points (core_row_of body).1) x
body_touched points body got o x y at same is =
    is ∙ (λ i. all_touched points (at i) (same i)) ∙ all_touched_is points body x ∙ ap (λ ts. touched ts x) (sym (body_is points body))

-- an `if`, a loop and a block by their bodies
pub if_touched : (points : Pointing) (s : CoreStmt) (e : CoreExpr) (yes_part no_part one other : List CoreStmt) (o x y : Owners)
    → s ≡ stmt.If e yes_part no_part → one ≡ yes_part → other ≡ no_part → x ≡ all_touched points one o → y ≡ all_touched points other x → y ≡ touched (touches points s) o
if_touched points s e yes_part no_part one other o x y is at then left right =
    body_touched points no_part other x (touched (row_touches points (core_row_of yes_part).1) o) y then (body_touched points yes_part one o o x at refl left) right
    ∙ sym (touched_append (row_touches points (core_row_of yes_part).1) (row_touches points (core_row_of no_part).1) o)
    ∙ ap (λ t. touched (touches points t) o) (sym is)

pub loop_touched : (points : Pointing) (s : CoreStmt) (i turns : ℕ) (body got : List CoreStmt) (o x y : Owners)
    → s ≡ stmt.Loop i turns body → got ≡ body → x ≡ touched_by (may_write i) o → y ≡ all_touched points got x → y ≡ touched (touches points s) o
loop_touched points s i turns body got o x y is at left right =
    body_touched points body got x (touched_by (may_write i) o) y at left right ∙ ap (λ t. touched (touches points t) o) (sym is)

pub block_touched : (points : Pointing) (s : CoreStmt) (k : ℕ) (body got : List CoreStmt) (o y : Owners)
    → s ≡ stmt.Block k body → got ≡ body → y ≡ all_touched points got o → y ≡ touched (touches points s) o
block_touched points s k body got o y is at right = body_touched points body got o o y at refl right ∙ ap (λ t. touched (touches points t) o) (sym is)
