-- What the rows of a body give, inside a statement and as a list.
use Rattle.std.proofs.Common.{◌≡◌, ◌∙◌, ℕ, List, [], ◌∷◌, refl, ap, sym, slice_index, bit_or}
use Rattle.task_ast.specs.declared.tree.Op1.{Op1}
use Rattle.task_ast.specs.declared.tree.Op2.{Op2}
use Rattle.task_ast.specs.declared.core_form.CoreExpr.{CoreExpr}
use Rattle.task_ast.specs.declared.core_form.CoreExpr.TheVariants as expr
use Rattle.task_ast.specs.declared.core_form.CoreExpr.TheBlock.{hidden-the_row-CoreExpr-0, shape-the_row-CoreExpr-0}
use Rattle.task_ast.specs.declared.core_form.CoreStmt.{CoreStmt, Row_of-CoreStmt, end_of-CoreStmt, more_of-CoreStmt, items-the_row-CoreStmt}
use Rattle.task_ast.specs.declared.core_form.CoreStmt.TheVariants as stmt
use Rattle.task_ast.specs.Pointing.{Pointing}
use Rattle.task_ast.specs.Rows.{core_row_of, core_row_shows}
use Rattle.io_depend.specs.Rows.{Rows, Branch, in_arrays, branch_of, other_branch, both_branches, block_entered, block_left, through_bits, expr_bits, read_bits, row_bits, all_bits, spread, row_spread, all_spread, done, row_done, all_done}
use denote.Hole.Carrier.{hidden}

-- expressions by their parts
pub cell_bits : (points : Pointing) (r : Rows) (e : CoreExpr) (array : ℕ) (i got : CoreExpr) (a x : ℕ) → e ≡ expr.Cell array i → got ≡ i → a ≡ slice_index r.arrays array → x ≡ expr_bits points r got
    → bit_or a x ≡ expr_bits points r e
unfolding hidden-the_row-CoreExpr-0 shape-the_row-CoreExpr-0 hidden
cell_bits points r e array i got a x is at left right = (λ j. bit_or (left j) ((right ∙ ap (expr_bits points r) at) j)) ∙ sym (ap (expr_bits points r) is)

pub index_bits : (points : Pointing) (r : Rows) (e : CoreExpr) (pointer : ℕ) (i got : CoreExpr) (a x : ℕ) → e ≡ expr.Through pointer i → got ≡ i → a ≡ through_bits points r pointer → x ≡ expr_bits points r got
    → bit_or a x ≡ expr_bits points r e
unfolding hidden-the_row-CoreExpr-0 shape-the_row-CoreExpr-0 hidden
index_bits points r e pointer i got a x is at left right = (λ j. bit_or (left j) ((right ∙ ap (expr_bits points r) at) j)) ∙ sym (ap (expr_bits points r) is)

pub one_bits : (points : Pointing) (r : Rows) (e : CoreExpr) (op : Op1) (i got : CoreExpr) (x : ℕ) → e ≡ expr.One op i → got ≡ i → x ≡ expr_bits points r got → x ≡ expr_bits points r e
unfolding hidden-the_row-CoreExpr-0 shape-the_row-CoreExpr-0 hidden
one_bits points r e op i got x is at right = right ∙ ap (expr_bits points r) at ∙ sym (ap (expr_bits points r) is)

pub two_bits : (points : Pointing) (r : Rows) (e : CoreExpr) (op : Op2) (a b got other : CoreExpr) (x y : ℕ) → e ≡ expr.Two op a b → got ≡ a → other ≡ b → x ≡ expr_bits points r got → y ≡ expr_bits points r other
    → bit_or x y ≡ expr_bits points r e
unfolding hidden-the_row-CoreExpr-0 shape-the_row-CoreExpr-0 hidden
two_bits points r e op a b got other x y is at then left right =
    (λ j. bit_or ((left ∙ ap (expr_bits points r) at) j) ((right ∙ ap (expr_bits points r) then) j)) ∙ sym (ap (expr_bits points r) is)

-- a row's bits are those of the statements that it shows
row_bits_are : (points : Pointing) (r : Rows) (bits : ℕ) (n : _) (row : Row_of-CoreStmt n) → row_bits points r bits row ≡ all_bits points r bits (items-the_row-CoreStmt n row)
row_bits_are points r bits n end_of-CoreStmt = refl
row_bits_are points r bits n (more_of-CoreStmt s rest) = row_bits_are points r (bit_or bits (read_bits points r s)) _ rest

pub body_bits : (points : Pointing) (r : Rows) (bits : ℕ) (body : List CoreStmt) → row_bits points r bits (core_row_of body).1 ≡ all_bits points r bits body
body_bits points r bits body = row_bits_are points r bits (core_row_of body).0 (core_row_of body).1 ∙ ap (all_bits points r bits) (core_row_shows body)

row_spread_is : (points : Pointing) (bits : ℕ) (n : _) (row : Row_of-CoreStmt n) (r : Rows) → row_spread points row bits r ≡ all_spread points (items-the_row-CoreStmt n row) bits r
row_spread_is points bits n end_of-CoreStmt r = refl
row_spread_is points bits n (more_of-CoreStmt s rest) r = row_spread_is points bits _ rest (spread points s bits r)

pub body_spread : (points : Pointing) (bits : ℕ) (body : List CoreStmt) (r : Rows) → row_spread points (core_row_of body).1 bits r ≡ all_spread points body bits r
body_spread points bits body r = row_spread_is points bits (core_row_of body).0 (core_row_of body).1 r ∙ ap (λ b. all_spread points b bits r) (core_row_shows body)

row_done_is : (points : Pointing) (around : ℕ) (n : _) (row : Row_of-CoreStmt n) (r : Rows) → row_done points row around r ≡ all_done points (items-the_row-CoreStmt n row) around r
row_done_is points around n end_of-CoreStmt r = refl
row_done_is points around n (more_of-CoreStmt s rest) r = row_done_is points around _ rest (done points s around r)

pub body_done : (points : Pointing) (around : ℕ) (body : List CoreStmt) (r : Rows) → row_done points (core_row_of body).1 around r ≡ all_done points body around r
body_done points around body r = row_done_is points around (core_row_of body).0 (core_row_of body).1 r ∙ ap (λ b. all_done points b around r) (core_row_shows body)

-- what an `if` and a loop read
pub if_bits : (points : Pointing) (r : Rows) (s : CoreStmt) (e : CoreExpr) (yes_part no_part one other : List CoreStmt) (c x y : ℕ)
    → s ≡ stmt.If e yes_part no_part → one ≡ yes_part → other ≡ no_part → c ≡ expr_bits points r e → x ≡ all_bits points r 0 one → y ≡ all_bits points r 0 other
    → bit_or (bit_or c x) y ≡ read_bits points r s
if_bits points r s e yes_part no_part one other c x y is at then condition left right =
    (λ j. bit_or (bit_or (condition j) ((left ∙ ap (all_bits points r 0) at ∙ sym (body_bits points r 0 yes_part)) j)) ((right ∙ ap (all_bits points r 0) then ∙ sym (body_bits points r 0 no_part)) j))
    ∙ sym (ap (read_bits points r) is)

pub loop_bits : (points : Pointing) (r : Rows) (s : CoreStmt) (i turns : ℕ) (body got : List CoreStmt) (x : ℕ)
    → s ≡ stmt.Loop i turns body → got ≡ body → x ≡ all_bits points r 0 got → x ≡ read_bits points r s
loop_bits points r s i turns body got x is at reads = reads ∙ ap (all_bits points r 0) at ∙ sym (body_bits points r 0 body) ∙ sym (ap (read_bits points r) is)

-- what an `if`, a loop and a block spread into
pub if_spread : (points : Pointing) (bits : ℕ) (s : CoreStmt) (e : CoreExpr) (yes_part no_part one other : List CoreStmt) (r x y : Rows)
    → s ≡ stmt.If e yes_part no_part → one ≡ yes_part → other ≡ no_part → x ≡ all_spread points one bits r → y ≡ all_spread points other bits x
    → y ≡ spread points s bits r
if_spread points bits s e yes_part no_part one other r x y is at then left right =
    right ∙ (λ j. all_spread points (then j) bits ((left ∙ ap (λ b. all_spread points b bits r) at ∙ sym (body_spread points bits yes_part r)) j))
    ∙ sym (body_spread points bits no_part _) ∙ sym (ap (λ t. spread points t bits r) is)

pub loop_spread : (points : Pointing) (bits : ℕ) (s : CoreStmt) (i turns : ℕ) (body got : List CoreStmt) (r x y : Rows)
    → s ≡ stmt.Loop i turns body → got ≡ body → x ≡ in_arrays r (i ∷ []) bits → y ≡ all_spread points got bits x
    → y ≡ spread points s bits r
loop_spread points bits s i turns body got r x y is at left right =
    right ∙ (λ j. all_spread points (at j) bits (left j)) ∙ sym (body_spread points bits body _) ∙ sym (ap (λ t. spread points t bits r) is)

pub block_spread : (points : Pointing) (bits : ℕ) (s : CoreStmt) (k : ℕ) (body got : List CoreStmt) (r y : Rows)
    → s ≡ stmt.Block k body → got ≡ body → y ≡ all_spread points got bits r → y ≡ spread points s bits r
block_spread points bits s k body got r y is at right =
    right ∙ ap (λ b. all_spread points b bits r) at ∙ sym (body_spread points bits body r) ∙ sym (ap (λ t. spread points t bits r) is)

-- what an `if`, a loop and a block leave
pub if_done : (points : Pointing) (around : ℕ) (s : CoreStmt) (e : CoreExpr) (yes_part no_part one other : List CoreStmt) (c inside : ℕ) (r first second last : Rows) (b o : Branch) (given : Rows)
    → s ≡ stmt.If e yes_part no_part → one ≡ yes_part → other ≡ no_part → c ≡ expr_bits points r e → inside ≡ bit_or around c → b ≡ branch_of r
    → first ≡ all_done points one inside r → given ≡ other_branch b first → o ≡ branch_of first
    → second ≡ all_done points other inside given → last ≡ both_branches o second → last ≡ done points s around r
if_done points around s e yes_part no_part one other c inside r first second last b o given is at then condition into branch left swapped kept right merged =
    let inside_is = into ∙ ap (bit_or around) condition in
    let first_is = left ∙ (λ j. all_done points (at j) (inside_is j) r) ∙ sym (body_done points _ yes_part r) in
    let given_is = swapped ∙ (λ j. other_branch (branch j) (first_is j)) in
    let second_is = right ∙ (λ j. all_done points (then j) (inside_is j) (given_is j)) ∙ sym (body_done points _ no_part _) in
    merged ∙ (λ j. both_branches ((kept ∙ ap branch_of first_is) j) (second_is j)) ∙ sym (ap (λ t. done points t around r) is)

pub loop_done : (points : Pointing) (around : ℕ) (s : CoreStmt) (i turns : ℕ) (body got again : List CoreStmt) (reads row : ℕ) (r x y : Rows)
    → s ≡ stmt.Loop i turns body → got ≡ body → again ≡ body → reads ≡ all_bits points r 0 got → row ≡ bit_or around reads → x ≡ in_arrays r (i ∷ []) row → y ≡ all_spread points again row x
    → y ≡ done points s around r
loop_done points around s i turns body got again reads row r x y is at then read into left right =
    let row_is = into ∙ ap (bit_or around) (read ∙ ap (all_bits points r 0) at ∙ sym (body_bits points r 0 body)) in
    right ∙ (λ j. all_spread points (then j) (row_is j) ((left ∙ ap (in_arrays r (i ∷ [])) row_is) j))
    ∙ sym (body_spread points _ body _) ∙ sym (ap (λ t. done points t around r) is)

pub block_done : (points : Pointing) (around : ℕ) (s : CoreStmt) (k : ℕ) (body got : List CoreStmt) (outside : ℕ) (r x y z : Rows)
    → s ≡ stmt.Block k body → got ≡ body → outside ≡ r.found → x ≡ block_entered r → y ≡ all_done points got around x → z ≡ block_left around k outside y
    → z ≡ done points s around r
block_done points around s k body got outside r x y z is at kept entered inside left =
    left ∙ (λ j. block_left around k (kept j) ((inside ∙ (λ h. all_done points (at h) around (entered h)) ∙ sym (body_done points around body _)) j))
    ∙ sym (ap (λ t. done points t around r) is)
