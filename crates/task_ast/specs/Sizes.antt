-- How many parts a tree has; a text has at least one token for each.
use Rattle.std.specs.Prelude.{◌≡◌, ℕ, ◌+◌, List, length, sum_by, Option, None, Some}
use Rattle.std.proofs.Common.{refl, sym, ap, ◌∙◌}
use Rattle.std.proofs.lemmas.List.Sums.{sum_by-cons}
use Rattle.ease_base.specs.declared.place.Pos.{Pos}
use Rattle.task_ast.specs.declared.tree.Ann.{Ann}
use Rattle.task_ast.specs.declared.tree.Name.{Name}
use Rattle.task_ast.specs.declared.tree.Expr.{Expr, end_of-Expr, more_of-Expr}
use Rattle.task_ast.specs.declared.tree.Expr.TheVariants as expr
use Rattle.task_ast.specs.declared.tree.Target.{Target}
use Rattle.task_ast.specs.declared.tree.Target.TheVariants as target
use Rattle.task_ast.specs.declared.tree.Place.{Place}
use Rattle.task_ast.specs.declared.tree.Place.TheVariants as place
use Rattle.task_ast.specs.declared.tree.Stmt.{Stmt, Row_of-Stmt, end_of-Stmt, more_of-Stmt, items-the_row-Stmt}
use Rattle.task_ast.specs.declared.tree.Stmt.TheVariants as stmt
use Rattle.task_ast.specs.declared.tree.Exit.{Exit, end_of-Exit, more_of-Exit}
use Rattle.task_ast.specs.declared.tree.Exit.TheVariants as exit
use Rattle.task_ast.specs.declared.tree.Decl.{Decl}
use Rattle.task_ast.specs.declared.tree.Decl.TheVariants as decl
use Rattle.task_ast.specs.declared.tree.Task.{Task}
use Rattle.task_ast.specs.declared.tree.Program.{Program}
use Rattle.task_ast.specs.Rows.{row_of, row_shows}

-- the parts of an expression
abbrev pub expr_size : Expr → ℕ
expr_size (expr.Number n at) = 1
expr_size (expr.Read x) = 1
expr_size (expr.Index' x u (more_of-Expr i end_of-Expr)) = 1 + expr_size i
expr_size (expr.Paren' u (more_of-Expr e end_of-Expr)) = 1 + expr_size e
expr_size (expr.One' op u (more_of-Expr e end_of-Expr)) = 1 + expr_size e
expr_size (expr.Two' op u (more_of-Expr a end_of-Expr) v (more_of-Expr b end_of-Expr)) = 1 + expr_size a + expr_size b

-- the parts of a target
abbrev pub target_size : Target → ℕ
target_size (target.Scalar x) = 1
target_size (target.Element x i) = 1 + expr_size i

-- the parts of a reading's target, if it has one
abbrev pub reading_size : Option Target → ℕ
reading_size None = 0
reading_size (Some x) = target_size x

-- the parts of a copy's end, or of what a pointer is set to
abbrev pub place_size : Place → ℕ
place_size (place.Bare x) = 1
place_size (place.Scalar x) = 1
place_size (place.Element x i) = 1 + expr_size i

abbrev mutual
  -- the parts of a statement
  pub stmt_size : Stmt → ℕ
  stmt_size (stmt.Assign x e) = 1 + target_size x + expr_size e
  stmt_size (stmt.Point p to) = 1 + place_size to
  stmt_size (stmt.If' c m yes_row n no_row) = 1 + expr_size c + row_size yes_row + row_size no_row
  stmt_size (stmt.For' i turns at m row word) = 1 + row_size row
  stmt_size (stmt.Io x p a args word) = 1 + reading_size x + sum_by expr_size args
  stmt_size (stmt.Block' a m row word) = 1 + row_size row
  stmt_size (stmt.Dma to from n word) = 1 + place_size to + place_size from + expr_size n

  -- the parts of a row's statements
  pub row_size : {n : _} → Row_of-Stmt n → ℕ
  row_size end_of-Stmt = 0
  row_size (more_of-Stmt s rest) = stmt_size s + row_size rest

-- the parts of an exit
abbrev pub exit_size : Exit → ℕ
exit_size (exit.Next x) = 1
exit_size exit.Stop = 1
exit_size (exit.Choose' c u (more_of-Exit a end_of-Exit) v (more_of-Exit b end_of-Exit)) = 1 + expr_size c + exit_size a + exit_size b

-- a declaration and its values
abbrev pub decl_size : Decl → ℕ
decl_size (decl.Words kind x size values) = 1 + length values
decl_size (decl.Pointer x) = 1
decl_size (decl.Peripheral x number) = 1

-- a task, its statements and its exit
abbrev pub task_size : Task → ℕ
task_size t = 1 + sum_by stmt_size t.body + exit_size t.exit

-- the parts of a program
abbrev pub program_size : Program → ℕ
program_size p = sum_by decl_size p.decls + sum_by task_size p.tasks

row_sizes : (n : _) (row : Row_of-Stmt n) → row_size row ≡ sum_by stmt_size (items-the_row-Stmt n row)
row_sizes n end_of-Stmt = refl
row_sizes n (more_of-Stmt s rest) = ap (λ k. stmt_size s + k) (row_sizes _ rest) ∙ sym (sum_by-cons stmt_size s (items-the_row-Stmt _ rest))

body_size : (body : List Stmt) → row_size (row_of body).1 ≡ sum_by stmt_size body
body_size body = row_sizes (row_of body).0 (row_of body).1 ∙ ap (sum_by stmt_size) (row_shows body)

-- the parts of an `if`
pub size_if : (c : Expr) (yes_part no_part : List Stmt) → stmt_size (stmt.If c yes_part no_part) ≡ 1 + expr_size c + sum_by stmt_size yes_part + sum_by stmt_size no_part
size_if c yes_part no_part =
    ap (λ k. 1 + expr_size c + k + row_size (row_of no_part).1) (body_size yes_part)
    ∙ ap (λ k. 1 + expr_size c + sum_by stmt_size yes_part + k) (body_size no_part)

-- the parts of a loop
pub size_loop : (i : Name) (turns : ℕ) (at : Pos) (body : List Stmt) (word : Pos) → stmt_size (stmt.For i turns at body word) ≡ 1 + sum_by stmt_size body
size_loop i turns at body word = ap (λ k. 1 + k) (body_size body)

-- the parts of a block
pub size_block : (a : Ann) (body : List Stmt) (word : Pos) → stmt_size (stmt.Block a body word) ≡ 1 + sum_by stmt_size body
size_block a body word = ap (λ k. 1 + k) (body_size body)
