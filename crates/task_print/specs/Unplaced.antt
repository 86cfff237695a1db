-- A tree without its places, to compare trees up to places.
use Rattle.std.specs.Prelude.{◌≡◌, ℕ, List, [], ◌∷◌, map, Option, Some, None}
use Rattle.std.proofs.Common.{refl, ap, ◌∙◌}
use Rattle.ease_base.specs.declared.place.Pos.{Pos}
use Rattle.task_ast.specs.declared.tree.Name.{Name}
use Rattle.task_ast.specs.declared.tree.Expr.{Expr, end_of-Expr, more_of-Expr}
use Rattle.task_ast.specs.declared.tree.Expr.TheVariants as expr
use Rattle.task_ast.specs.declared.tree.Target.{Target}
use Rattle.task_ast.specs.declared.tree.Target.TheVariants as target
use Rattle.task_ast.specs.declared.tree.Ann.{Ann}
use Rattle.task_ast.specs.declared.tree.Place.{Place}
use Rattle.task_ast.specs.declared.tree.Place.TheVariants as place
use Rattle.task_ast.specs.declared.tree.Stmt.{Stmt, Row_of-Stmt, end_of-Stmt, more_of-Stmt, items-the_row-Stmt}
use Rattle.task_ast.specs.declared.tree.Stmt.TheVariants as stmt
use Rattle.task_ast.specs.declared.tree.Exit.{Exit, end_of-Exit, more_of-Exit}
use Rattle.task_ast.specs.declared.tree.Exit.TheVariants as exit
use Rattle.task_ast.specs.declared.tree.Decl.{Decl}
use Rattle.task_ast.specs.declared.tree.Decl.TheVariants as decl
use Rattle.task_ast.specs.declared.tree.Task.{Task}
use Rattle.task_ast.specs.declared.tree.Program.{Program}
use Rattle.task_ast.specs.Rows.{row_of, row_shows}

-- the place that stands for every place
abbrev pub somewhere : Pos
somewhere = record { line = 1; column = 1 }

-- a name without its place
abbrev pub bare_name : Name → Name
bare_name x = record { text = x.text; at = somewhere }

-- an expression without its places
abbrev pub bare_expr : Expr → Expr
bare_expr (expr.Number n at) = expr.Number n somewhere
bare_expr (expr.Read x) = expr.Read (bare_name x)
bare_expr (expr.Index' x u (more_of-Expr i end_of-Expr)) = expr.Index (bare_name x) (bare_expr i)
bare_expr (expr.Paren' u (more_of-Expr e end_of-Expr)) = expr.Paren (bare_expr e)
bare_expr (expr.One' o u (more_of-Expr e end_of-Expr)) = expr.One o (bare_expr e)
bare_expr (expr.Two' o u (more_of-Expr a end_of-Expr) v (more_of-Expr b end_of-Expr)) = expr.Two o (bare_expr a) (bare_expr b)

-- a target without its places
abbrev pub bare_target : Target → Target
bare_target (target.Scalar x) = target.Scalar (bare_name x)
bare_target (target.Element x i) = target.Element (bare_name x) (bare_expr i)

-- a place without its places
abbrev pub bare_place : Place → Place
bare_place (place.Bare x) = place.Bare (bare_name x)
bare_place (place.Scalar x) = place.Scalar (bare_name x)
bare_place (place.Element x i) = place.Element (bare_name x) (bare_expr i)

-- a reading's target without its places, if it has one
abbrev pub bare_reading : Option Target → Option Target
bare_reading None = None
bare_reading (Some x) = Some (bare_target x)

abbrev mutual
  -- a statement without its places
  pub bare_stmt : Stmt → Stmt
  bare_stmt (stmt.Assign x e) = stmt.Assign (bare_target x) (bare_expr e)
  bare_stmt (stmt.If' c m yes_row n no_row) = stmt.If (bare_expr c) (bare_row yes_row) (bare_row no_row)
  bare_stmt (stmt.For' i turns at m row word) = stmt.For (bare_name i) turns somewhere (bare_row row) somewhere
  bare_stmt (stmt.Point p to) = stmt.Point (bare_name p) (bare_place to)
  bare_stmt (stmt.Io x p a args at) = stmt.Io (bare_reading x) (bare_name p) a (map bare_expr args) somewhere
  bare_stmt (stmt.Block' a m row at) = stmt.Block a (bare_row row) somewhere
  bare_stmt (stmt.Dma to from n at) = stmt.Dma (bare_place to) (bare_place from) (bare_expr n) somewhere

  -- the statements of a row without their places
  pub bare_row : {n : _} → Row_of-Stmt n → List Stmt
  bare_row end_of-Stmt = []
  bare_row (more_of-Stmt s rest) = bare_stmt s ∷ bare_row rest

-- statements without their places
abbrev pub bare_body : List Stmt → List Stmt
bare_body body = map bare_stmt body

-- an exit without its places
abbrev pub bare_exit : Exit → Exit
bare_exit (exit.Next x) = exit.Next (bare_name x)
bare_exit exit.Stop = exit.Stop
bare_exit (exit.Choose' c u (more_of-Exit a end_of-Exit) v (more_of-Exit b end_of-Exit)) = exit.Choose (bare_expr c) (bare_exit a) (bare_exit b)

-- a declaration without its place
abbrev pub bare_decl : Decl → Decl
bare_decl (decl.Words k x size values) = decl.Words k (bare_name x) size values
bare_decl (decl.Pointer x) = decl.Pointer (bare_name x)
bare_decl (decl.Peripheral x n) = decl.Peripheral (bare_name x) n

-- a task without its places
abbrev pub bare_task : Task → Task
bare_task t = record { name = bare_name t.name; body = bare_body t.body; exit = bare_exit t.exit; close = somewhere }

-- a program without its places
abbrev pub unplaced : Program → Program
unplaced p = record { decls = map bare_decl p.decls; tasks = map bare_task p.tasks }

-- a row without its places is that of the statements that it shows
row_is : (n : _) (row : Row_of-Stmt n) → bare_row row ≡ bare_body (items-the_row-Stmt n row)
row_is n end_of-Stmt = refl
row_is n (more_of-Stmt s rest) = ap (λ (ss : List Stmt). bare_stmt s ∷ ss) (row_is _ rest)

body_is : (body : List Stmt) → bare_row (row_of body).1 ≡ bare_body body
body_is body = row_is (row_of body).0 (row_of body).1 ∙ ap bare_body (row_shows body)

-- an `if` without its places
pub bare_if : (c : Expr) (yes_part no_part : List Stmt) → bare_stmt (stmt.If c yes_part no_part) ≡ stmt.If (bare_expr c) (bare_body yes_part) (bare_body no_part)
bare_if c yes_part no_part = λ i. stmt.If (bare_expr c) (body_is yes_part i) (body_is no_part i)

-- a loop without its places
pub bare_for : (i : Name) (turns : ℕ) (at : Pos) (body : List Stmt) (word : Pos) → bare_stmt (stmt.For i turns at body word) ≡ stmt.For (bare_name i) turns somewhere (bare_body body) somewhere
bare_for i turns at body word = λ j. stmt.For (bare_name i) turns somewhere (body_is body j) somewhere

-- a block without its places
pub bare_block : (a : Ann) (body : List Stmt) (at : Pos) → bare_stmt (stmt.Block a body at) ≡ stmt.Block a (bare_body body) somewhere
bare_block a body at = λ j. stmt.Block a (body_is body j) somewhere
