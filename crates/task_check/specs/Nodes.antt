-- The nodes of a program as it is read, which are limited: those that it has when its loops with sites are unrolled.
use Rattle.std.specs.Prelude.{◌≡◌, ℕ, ◌+◌, ◌*◌, Bool, List, sum_by, Option, None, Some, if◌then◌else◌}
use Rattle.std.proofs.Common.{refl, sym, ap, ◌∙◌}
use Rattle.std.proofs.lemmas.List.Sums.{sum_by-cons}
use Rattle.ease_base.specs.declared.place.Pos.{Pos}
use Rattle.task_ast.specs.declared.tree.Ann.{Ann}
use Rattle.task_ast.specs.declared.tree.Name.{Name}
use Rattle.task_ast.specs.declared.tree.Expr.{Expr, end_of-Expr, more_of-Expr}
use Rattle.task_ast.specs.declared.tree.Expr.TheVariants as expr
use Rattle.task_ast.specs.declared.tree.Target.{Target}
use Rattle.task_ast.specs.declared.tree.Target.TheVariants as target
use Rattle.task_ast.specs.declared.tree.Place.{Place}
use Rattle.task_ast.specs.declared.tree.Place.TheVariants as place
use Rattle.task_ast.specs.declared.tree.Stmt.{Stmt, Row_of-Stmt, end_of-Stmt, more_of-Stmt, items-the_row-Stmt}
use Rattle.task_ast.specs.declared.tree.Stmt.TheVariants as stmt
use Rattle.task_ast.specs.declared.tree.Exit.{Exit, end_of-Exit, more_of-Exit}
use Rattle.task_ast.specs.declared.tree.Exit.TheVariants as exit
use Rattle.task_ast.specs.declared.tree.Task.{Task}
use Rattle.task_ast.specs.Rows.{row_of, row_shows}
use Rattle.task_check.specs.Sites.{row_has_sites, body_has_sites, body_has}

-- the nodes of an expression: each part counts 1, and parentheses count as their inside
abbrev pub nodes_of_expr : Expr → ℕ
nodes_of_expr (expr.Number n at) = 1
nodes_of_expr (expr.Read x) = 1
nodes_of_expr (expr.Index' x u (more_of-Expr i end_of-Expr)) = 1 + nodes_of_expr i
nodes_of_expr (expr.Paren' u (more_of-Expr e end_of-Expr)) = nodes_of_expr e
nodes_of_expr (expr.One' op u (more_of-Expr e end_of-Expr)) = 1 + nodes_of_expr e
nodes_of_expr (expr.Two' op u (more_of-Expr a end_of-Expr) v (more_of-Expr b end_of-Expr)) = 1 + nodes_of_expr a + nodes_of_expr b

-- a target counts 1, and an element's index besides
abbrev pub nodes_of_target : Target → ℕ
nodes_of_target (target.Scalar x) = 1
nodes_of_target (target.Element x i) = 1 + nodes_of_expr i

-- the nodes of a reading's target, if it has one
abbrev pub nodes_of_reading : Option Target → ℕ
nodes_of_reading None = 0
nodes_of_reading (Some x) = nodes_of_target x

-- a copy's end, or what a pointer is set to, counts 1, and an index besides
abbrev pub nodes_of_place : Place → ℕ
nodes_of_place (place.Bare x) = 1
nodes_of_place (place.Scalar x) = 1
nodes_of_place (place.Element x i) = 1 + nodes_of_expr i

-- A pure loop counts 1 and its body once; an unrolled one its body once each turn, and 3 for each setting of its variable.
abbrev pub nodes_of_loop : (unrolled : Bool) → (turns body : ℕ) → ℕ
nodes_of_loop unrolled turns body = if unrolled then turns * body + 3 * (turns + 1) else 1 + body

abbrev mutual
  -- a statement counts 1 and its parts
  pub nodes_of_stmt : Stmt → ℕ
  nodes_of_stmt (stmt.Assign x e) = 1 + nodes_of_target x + nodes_of_expr e
  nodes_of_stmt (stmt.Point p to) = 1 + nodes_of_place to
  nodes_of_stmt (stmt.If' c m yes_row n no_row) = 1 + nodes_of_expr c + nodes_of_row yes_row + nodes_of_row no_row
  nodes_of_stmt (stmt.For' i turns at m row word) = nodes_of_loop (row_has_sites row) turns (nodes_of_row row)
  nodes_of_stmt (stmt.Io x p a args word) = 1 + nodes_of_reading x + sum_by nodes_of_expr args
  nodes_of_stmt (stmt.Block' a m row word) = 1 + nodes_of_row row
  nodes_of_stmt (stmt.Dma to from n word) = 1 + nodes_of_place to + nodes_of_place from + nodes_of_expr n

  -- the nodes of a row's statements
  pub nodes_of_row : {n : _} → Row_of-Stmt n → ℕ
  nodes_of_row end_of-Stmt = 0
  nodes_of_row (more_of-Stmt s rest) = nodes_of_stmt s + nodes_of_row rest

-- an exit counts 1 and its parts
abbrev pub nodes_of_exit : Exit → ℕ
nodes_of_exit (exit.Next x) = 1
nodes_of_exit exit.Stop = 1
nodes_of_exit (exit.Choose' c u (more_of-Exit a end_of-Exit) v (more_of-Exit b end_of-Exit)) = 1 + nodes_of_expr c + nodes_of_exit a + nodes_of_exit b

-- the nodes of a task: those of its statements and of its exit
abbrev pub nodes_of_task : Task → ℕ
nodes_of_task t = sum_by nodes_of_stmt t.body + nodes_of_exit t.exit

-- the nodes of a row are those of the statements that it shows
nodes_of_rows : (n : _) (row : Row_of-Stmt n) → nodes_of_row row ≡ sum_by nodes_of_stmt (items-the_row-Stmt n row)
nodes_of_rows n end_of-Stmt = refl
nodes_of_rows n (more_of-Stmt s rest) = ap (λ k. nodes_of_stmt s + k) (nodes_of_rows _ rest) ∙ sym (sum_by-cons nodes_of_stmt s (items-the_row-Stmt _ rest))

nodes_of_body : (body : List Stmt) → nodes_of_row (row_of body).1 ≡ sum_by nodes_of_stmt body
nodes_of_body body = nodes_of_rows (row_of body).0 (row_of body).1 ∙ ap (sum_by nodes_of_stmt) (row_shows body)

-- the nodes of an `if`
pub nodes_of_if : (c : Expr) (yes_part no_part : List Stmt) → nodes_of_stmt (stmt.If c yes_part no_part) ≡ 1 + nodes_of_expr c + sum_by nodes_of_stmt yes_part + sum_by nodes_of_stmt no_part
nodes_of_if c yes_part no_part =
    ap (λ k. 1 + nodes_of_expr c + k + nodes_of_row (row_of no_part).1) (nodes_of_body yes_part)
    ∙ ap (λ k. 1 + nodes_of_expr c + sum_by nodes_of_stmt yes_part + k) (nodes_of_body no_part)

-- the nodes of a loop
pub nodes_of_for : (i : Name) (turns : ℕ) (at : Pos) (body : List Stmt) (word : Pos) →
    nodes_of_stmt (stmt.For i turns at body word) ≡ nodes_of_loop (body_has_sites body) turns (sum_by nodes_of_stmt body)
nodes_of_for i turns at body word = λ j. nodes_of_loop (body_has body j) turns (nodes_of_body body j)

-- the nodes of a block
pub nodes_of_block : (a : Ann) (body : List Stmt) (word : Pos) → nodes_of_stmt (stmt.Block a body word) ≡ 1 + sum_by nodes_of_stmt body
nodes_of_block a body word = ap (λ k. 1 + k) (nodes_of_body body)
