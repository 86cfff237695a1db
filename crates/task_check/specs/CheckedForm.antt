-- The checked form of a program: names become numbers, parentheses vanish, and loops with sites are unrolled.
use Rattle.std.specs.Prelude.{◌≡◌, ℕ, zero, suc, ◌+◌, ◌-◌, Bool, List, [], ◌∷◌, ◌++◌, length, map, replicate, Option, None, Some, if◌then◌else◌}
use Rattle.std.specs.List.{flat_map}
use Rattle.std.specs.Option.{option_map}
use Rattle.std.proofs.Common.{refl, ap, ◌∙◌}
use Rattle.ease_base.specs.declared.place.Pos.{Pos}
use Rattle.ease_base.specs.declared.place.Peripheral.{Peripheral}
use Rattle.task_ast.specs.declared.tree.Ann.{Ann}
use Rattle.task_ast.specs.declared.tree.Name.{Name}
use Rattle.task_ast.specs.declared.tree.Expr.{Expr, end_of-Expr, more_of-Expr}
use Rattle.task_ast.specs.declared.tree.Expr.TheVariants as expr
use Rattle.task_ast.specs.declared.tree.Target.{Target}
use Rattle.task_ast.specs.declared.tree.Target.TheVariants as target
use Rattle.task_ast.specs.declared.tree.Place.{Place}
use Rattle.task_ast.specs.declared.tree.Place.TheVariants as place
use Rattle.task_ast.specs.declared.tree.Stmt.{Stmt, Row_of-Stmt, end_of-Stmt, more_of-Stmt, items-the_row-Stmt}
use Rattle.task_ast.specs.declared.tree.Stmt.TheVariants as stmt
use Rattle.task_ast.specs.declared.tree.Exit.{Exit, end_of-Exit, more_of-Exit}
use Rattle.task_ast.specs.declared.tree.Exit.TheVariants as exit
use Rattle.task_ast.specs.declared.tree.Decl.{Decl}
use Rattle.task_ast.specs.declared.tree.Decl.TheVariants as decl
use Rattle.task_ast.specs.declared.tree.Task.{Task}
use Rattle.task_ast.specs.declared.tree.Program.{Program}
use Rattle.task_ast.specs.Pointing.{all_addresses}
use Rattle.task_ast.specs.Rows.{row_of, row_shows}
use Rattle.task_ast.specs.declared.core_form.Array.{Array}
use Rattle.task_ast.specs.declared.core_form.CoreExpr.{CoreExpr}
use Rattle.task_ast.specs.declared.core_form.CoreExpr.TheVariants.{Number, Cell, Through, One, Two}
use Rattle.task_ast.specs.declared.core_form.CoreTarget.{CoreTarget}
use Rattle.task_ast.specs.declared.core_form.CoreTarget.TheVariants as core_target
use Rattle.task_ast.specs.declared.core_form.CoreEnd.{CoreEnd}
use Rattle.task_ast.specs.declared.core_form.CoreEnd.TheVariants as core_end
use Rattle.task_ast.specs.declared.core_form.CoreStmt.{CoreStmt}
use Rattle.task_ast.specs.declared.core_form.CoreStmt.TheVariants.{Assign, Point, If, Loop, Io, Block, Copy}
use Rattle.task_ast.specs.declared.core_form.CoreExit.{CoreExit}
use Rattle.task_ast.specs.declared.core_form.CoreExit.TheVariants.{Next, Stop, Choose}
use Rattle.task_ast.specs.declared.core_form.Site.{Site}
use Rattle.task_ast.specs.declared.core_form.CoreTask.{CoreTask}
use Rattle.task_ast.specs.declared.core_form.Core.{Core}
use Rattle.task_check.specs.Names.{Meanings, names_of, array_number, array_of, pointer_of, peripheral_number, task_number}
use Rattle.task_check.specs.Numbering.{all_numbered}
use Rattle.task_check.specs.Reach.{Reach, reach_of, copy_words}
use Rattle.task_check.specs.Refusals.{size_words}
use Rattle.task_check.specs.Sites.{row_has_sites, body_has_sites, body_has, body_sites}

-- an index through a pointer, if the name stands for one, else into an array
abbrev pub indexed : Option ℕ → (array : ℕ) → CoreExpr → CoreExpr
indexed None array i = Cell array i
indexed (Some pointer) array i = Through pointer i

-- an expression: a scalar is the place 0 of its array
abbrev pub core_expr : Meanings → Expr → CoreExpr
core_expr names (expr.Number n at) = Number n
core_expr names (expr.Read x) = Cell (array_number (names x.text)) (Number 0)
core_expr names (expr.Index' x u (more_of-Expr i end_of-Expr)) = indexed (pointer_of (names x.text)) (array_number (names x.text)) (core_expr names i)
core_expr names (expr.Paren' u (more_of-Expr e end_of-Expr)) = core_expr names e
core_expr names (expr.One' op u (more_of-Expr e end_of-Expr)) = One op (core_expr names e)
core_expr names (expr.Two' op u (more_of-Expr a end_of-Expr) v (more_of-Expr b end_of-Expr)) = Two op (core_expr names a) (core_expr names b)

-- a target that is indexed through a pointer, if the name stands for one, else into an array
abbrev pub indexed_target : Option ℕ → (array : ℕ) → CoreExpr → CoreTarget
indexed_target None array i = core_target.Cell array i
indexed_target (Some pointer) array i = core_target.Through pointer i

-- what is assigned: the place 0 of a scalar, or what is indexed
abbrev pub target_of : Meanings → Target → CoreTarget
target_of names (target.Scalar x) = core_target.Cell (array_number (names x.text)) (Number 0)
target_of names (target.Element x i) = indexed_target (pointer_of (names x.text)) (array_number (names x.text)) (core_expr names i)

-- the name of a copy's end, or of what a pointer is set to
abbrev pub place_name : Place → Name
place_name (place.Bare x) = x
place_name (place.Scalar x) = x
place_name (place.Element x i) = x

-- its index: the number 0 where none is written
abbrev pub place_index : Meanings → Place → CoreExpr
place_index names (place.Bare x) = Number 0
place_index names (place.Scalar x) = Number 0
place_index names (place.Element x i) = core_expr names i

-- the address of an array's place that is given to a pointer, if the two names stand for such
abbrev pub pointed : Option ℕ → Option ℕ → CoreExpr → List CoreStmt
pointed None to i = []
pointed (Some pointer) None i = []
pointed (Some pointer) (Some array) i = Point pointer array i ∷ []

-- a bare end: a pointer, if the name stands for one, else the place 0 of an array
abbrev pub bare_end : Option ℕ → (array : ℕ) → CoreEnd
bare_end None array = core_end.Cell array (Number 0)
bare_end (Some pointer) array = core_end.Pointer pointer

-- an end of a copy
abbrev pub end_of : Meanings → Place → CoreEnd
end_of names (place.Bare x) = bare_end (pointer_of (names x.text)) (array_number (names x.text))
end_of names (place.Scalar x) = core_end.Cell (array_number (names x.text)) (Number 0)
end_of names (place.Element x i) = core_end.Cell (array_number (names x.text)) (core_expr names i)

-- the variable of an unrolled loop is set to a number
abbrev pub setting : (variable number : ℕ) → CoreStmt
setting variable number = Assign (core_target.Cell variable (Number 0)) (Number number)

-- The turns of an unrolled loop from number j on, so many of them: the variable is set to j, then comes the body. Behind
-- the last turn the variable is set once more.
abbrev pub turns_from : (variable j : ℕ) → ℕ → List CoreStmt → List CoreStmt
turns_from variable j zero body = setting variable j ∷ []
turns_from variable j (suc more) body = setting variable j ∷ body ++ turns_from variable (j + 1) more body

-- a loop, unrolled or not
abbrev pub core_loop : (unrolled : Bool) → (variable turns : ℕ) → List CoreStmt → List CoreStmt
core_loop unrolled variable turns body = if unrolled then turns_from variable 0 turns body else Loop variable turns body ∷ []

abbrev mutual
  -- the checked statements that a statement becomes; their sites have no numbers yet, and stand as 0
  pub core_stmts : Meanings → Stmt → List CoreStmt
  core_stmts names (stmt.Assign x e) = Assign (target_of names x) (core_expr names e) ∷ []
  core_stmts names (stmt.Point p to) = pointed (pointer_of (names p.text)) (array_of (names (place_name to).text)) (place_index names to)
  core_stmts names (stmt.If' c m yes_row n no_row) = If (core_expr names c) (core_row_stmts names yes_row) (core_row_stmts names no_row) ∷ []
  core_stmts names (stmt.For' i turns at m row word) = core_loop (row_has_sites row) (array_number (names i.text)) turns (core_row_stmts names row)
  core_stmts names (stmt.Io x p a args word) = Io 0 (option_map (target_of names) x) (peripheral_number (names p.text)) (map (core_expr names) args) ∷ []
  core_stmts names (stmt.Block' a m row word) = Block 0 (core_row_stmts names row) ∷ []
  core_stmts names (stmt.Dma to from n word) = Copy 0 (end_of names to) (end_of names from) (core_expr names n) ∷ []

  -- those that a row's statements become
  pub core_row_stmts : Meanings → {n : _} → Row_of-Stmt n → List CoreStmt
  core_row_stmts names end_of-Stmt = []
  core_row_stmts names (more_of-Stmt s rest) = core_stmts names s ++ core_row_stmts names rest

-- the checked statements of a body, one after another
abbrev pub core_body : Meanings → List Stmt → List CoreStmt
core_body names body = flat_map (core_stmts names) body

-- an exit
abbrev pub core_exit : Meanings → Exit → CoreExit
core_exit names (exit.Next x) = Next (task_number (names x.text))
core_exit names exit.Stop = Stop
core_exit names (exit.Choose' e u (more_of-Exit a end_of-Exit) v (more_of-Exit b end_of-Exit)) =
    Choose (core_expr names e) (core_exit names a) (core_exit names b)

-- what the pointers of a task may reach: the arrays whose address is given to them in its checked form
abbrev pub reach_in : Meanings → List Array → Task → ℕ → Reach
reach_in names arrays t pointer = reach_of arrays (all_addresses pointer (core_body names t.body))

-- the greatest length of a copy between two places
abbrev pub words_between : Meanings → List Array → (ℕ → Reach) → (to from : Place) → ℕ
words_between names arrays reach to from = copy_words arrays reach (end_of names to) (end_of names from)

-- the sites of a task, in text order
abbrev pub task_sites : Meanings → List Array → Task → List Site
task_sites names arrays t = body_sites (words_between names arrays (reach_in names arrays t)) t.body

-- a task: its sites are numbered from 1
abbrev pub core_task : Meanings → List Array → Task → CoreTask
core_task names arrays t = record {
  name = t.name.text;
  body = all_numbered 1 (core_body names t.body);
  exit = core_exit names t.exit;
  sites = task_sites names arrays t;
}

-- the declared values, and 0 for each further place
abbrev pub first_words : ℕ → List ℕ → List ℕ
first_words size values = values ++ replicate (size - length values) 0

-- the array that a declaration declares, with a word for each of its places
abbrev pub core_arrays : Decl → List Array
core_arrays (decl.Words kind x size values) = record { name = x.text; kind = kind; first = first_words (size_words size) values } ∷ []
core_arrays (decl.Pointer x) = []
core_arrays (decl.Peripheral x number) = []

-- the pointer
abbrev pub core_pointers : Decl → List (List ℕ)
core_pointers (decl.Words kind x size values) = []
core_pointers (decl.Pointer x) = x.text ∷ []
core_pointers (decl.Peripheral x number) = []

-- the peripheral
abbrev pub core_peripherals : Decl → List Peripheral
core_peripherals (decl.Words kind x size values) = []
core_peripherals (decl.Pointer x) = []
core_peripherals (decl.Peripheral x number) = record { name = x.text; number = number } ∷ []

-- the arrays of a program
abbrev pub arrays_of : Program → List Array
arrays_of p = flat_map core_arrays p.decls

-- the checked form
unfoldable pub core_of : Program → Core
core_of p = record {
  arrays = arrays_of p;
  pointers = flat_map core_pointers p.decls;
  peripherals = flat_map core_peripherals p.decls;
  tasks = map (core_task (names_of p) (arrays_of p)) p.tasks;
}

-- what a row becomes is what the statements that it shows become
core_row_is : (names : Meanings) (n : _) (row : Row_of-Stmt n) → core_row_stmts names row ≡ core_body names (items-the_row-Stmt n row)
core_row_is names n end_of-Stmt = refl
core_row_is names n (more_of-Stmt s rest) = ap (λ (cs : List CoreStmt). core_stmts names s ++ cs) (core_row_is names _ rest)

pub core_body_is : (names : Meanings) (body : List Stmt) → core_row_stmts names (row_of body).1 ≡ core_body names body
core_body_is names body = core_row_is names (row_of body).0 (row_of body).1 ∙ ap (core_body names) (row_shows body)

-- the checked form of an `if`
pub core_of_if : (names : Meanings) (c : Expr) (yes_part no_part : List Stmt) → core_stmts names (stmt.If c yes_part no_part) ≡ If (core_expr names c) (core_body names yes_part) (core_body names no_part) ∷ []
core_of_if names c yes_part no_part = λ i. If (core_expr names c) (core_body_is names yes_part i) (core_body_is names no_part i) ∷ []

-- the checked form of a loop
pub core_of_for : (names : Meanings) (i : Name) (turns : ℕ) (at : Pos) (body : List Stmt) (word : Pos) →
    core_stmts names (stmt.For i turns at body word) ≡ core_loop (body_has_sites body) (array_number (names i.text)) turns (core_body names body)
core_of_for names i turns at body word = λ j. core_loop (body_has body j) (array_number (names i.text)) turns (core_body_is names body j)

-- the checked form of a block
pub core_of_block : (names : Meanings) (a : Ann) (body : List Stmt) (word : Pos) → core_stmts names (stmt.Block a body word) ≡ Block 0 (core_body names body) ∷ []
core_of_block names a body word = λ i. Block 0 (core_body_is names body i) ∷ []
