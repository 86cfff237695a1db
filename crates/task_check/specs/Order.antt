-- The places of a program in the order of its text, and the order of faults: by their places, and at one place by the
-- rows of the tables of docs/LANGUAGE.md.
use Rattle.std.specs.Prelude.{◌≡◌, ◌⊎◌, ℕ, ◌<◌, ◌≤◌, List, [], ◌∷◌, ◌++◌, Option, None, Some}
use Rattle.std.specs.List.{AllByRecursion, flat_map}
use Rattle.ease_base.specs.declared.place.Pos.{Pos}
use Rattle.task_ast.specs.declared.tree.Expr.{Expr, end_of-Expr, more_of-Expr}
use Rattle.task_ast.specs.declared.tree.Expr.TheVariants as expr
use Rattle.task_ast.specs.declared.tree.Target.{Target}
use Rattle.task_ast.specs.declared.tree.Target.TheVariants as target
use Rattle.task_ast.specs.declared.tree.Place.{Place}
use Rattle.task_ast.specs.declared.tree.Place.TheVariants as place
use Rattle.task_ast.specs.declared.tree.Stmt.{Stmt, Row_of-Stmt, end_of-Stmt, more_of-Stmt}
use Rattle.task_ast.specs.declared.tree.Stmt.TheVariants as stmt
use Rattle.task_ast.specs.declared.tree.Exit.{Exit, end_of-Exit, more_of-Exit}
use Rattle.task_ast.specs.declared.tree.Exit.TheVariants as exit
use Rattle.task_ast.specs.declared.tree.Decl.{Decl}
use Rattle.task_ast.specs.declared.tree.Task.{Task}
use Rattle.task_ast.specs.declared.tree.Program.{Program}
use Rattle.task_check.specs.declared.error.CheckError.{CheckError}
use Rattle.task_check.specs.declared.error.CheckError.TheVariants.{UnknownName, TwiceNamed, WrongKind, ConstWritten, DmaUnderIf, TooMany, LimitReached, NoMemory}
use Rattle.task_check.specs.declared.error.Limit.{Limit}
use Rattle.task_check.specs.declared.error.Limit.TheVariants as limit
use Rattle.task_check.specs.Names.{decl_name}

-- the places of an expression
abbrev pub expr_places : Expr → List Pos
expr_places (expr.Number n at) = at ∷ []
expr_places (expr.Read x) = x.at ∷ []
expr_places (expr.Index' x u (more_of-Expr i end_of-Expr)) = x.at ∷ expr_places i
expr_places (expr.Paren' u (more_of-Expr e end_of-Expr)) = expr_places e
expr_places (expr.One' op u (more_of-Expr e end_of-Expr)) = expr_places e
expr_places (expr.Two' op u (more_of-Expr a end_of-Expr) v (more_of-Expr b end_of-Expr)) = expr_places a ++ expr_places b

-- of a target
abbrev pub target_places : Target → List Pos
target_places (target.Scalar x) = x.at ∷ []
target_places (target.Element x i) = x.at ∷ expr_places i

-- of a reading's target, if it has one
abbrev pub reading_places : Option Target → List Pos
reading_places None = []
reading_places (Some x) = target_places x

-- of a copy's end, or of what a pointer is set to
abbrev pub place_places : Place → List Pos
place_places (place.Bare x) = x.at ∷ []
place_places (place.Scalar x) = x.at ∷ []
place_places (place.Element x i) = x.at ∷ expr_places i

abbrev mutual
  -- of a statement
  pub stmt_places : Stmt → List Pos
  stmt_places (stmt.Assign x e) = target_places x ++ expr_places e
  stmt_places (stmt.Point p to) = p.at ∷ place_places to
  stmt_places (stmt.If' c m yes_row n no_row) = expr_places c ++ row_places yes_row ++ row_places no_row
  stmt_places (stmt.For' i turns at m row word) = word ∷ i.at ∷ at ∷ row_places row
  stmt_places (stmt.Io x p a args word) = reading_places x ++ word ∷ p.at ∷ flat_map expr_places args
  stmt_places (stmt.Block' a m row word) = word ∷ row_places row
  stmt_places (stmt.Dma to from n word) = word ∷ place_places to ++ place_places from ++ expr_places n

  -- of a row's statements
  pub row_places : {n : _} → Row_of-Stmt n → List Pos
  row_places end_of-Stmt = []
  row_places (more_of-Stmt s rest) = stmt_places s ++ row_places rest

-- of an exit
abbrev pub exit_places : Exit → List Pos
exit_places (exit.Next x) = x.at ∷ []
exit_places exit.Stop = []
exit_places (exit.Choose' c u (more_of-Exit a end_of-Exit) v (more_of-Exit b end_of-Exit)) = expr_places c ++ exit_places a ++ exit_places b

-- of a declaration
abbrev pub decl_places : Decl → List Pos
decl_places d = (decl_name d).at ∷ []

-- of a task: its name, its statements, its exit and its closing brace
abbrev pub task_places : Task → List Pos
task_places t = t.name.at ∷ flat_map stmt_places t.body ++ exit_places t.exit ++ t.close ∷ []

-- of a program
abbrev pub program_places : Program → List Pos
program_places p = flat_map decl_places p.decls ++ flat_map task_places p.tasks

-- a place stands before another in a text
abbrev pub IsBefore : Pos → Pos → Type 0
IsBefore p q = (p.line < q.line) ⊎ ((p.line ≡ q.line) × (p.column < q.column))

-- each of these places stands before those behind it
abbrev pub Rise : List Pos → Type 0
Rise [] = Unit {0}
Rise (p ∷ ps) = AllByRecursion (IsBefore p) ps × Rise ps

-- the place of a fault; want of memory has none
abbrev pub fault_place : CheckError → Pos
fault_place (UnknownName at) = at
fault_place (TwiceNamed at) = at
fault_place (WrongKind at) = at
fault_place (ConstWritten at) = at
fault_place (DmaUnderIf at) = at
fault_place (TooMany at) = at
fault_place (LimitReached at l n) = at
fault_place NoMemory = record { line = 0; column = 0 }

-- the row of a limit, behind those of the rules
abbrev pub limit_row : Limit → ℕ
limit_row limit.Tasks = 7
limit_row limit.Names = 8
limit_row limit.NvWords = 9
limit_row limit.VolWords = 10
limit_row limit.Length = 11
limit_row limit.NameBytes = 12
limit_row limit.PeripheralNumber = 13
limit_row limit.Turns = 14
limit_row limit.Loops = 15
limit_row limit.Sites = 16
limit_row limit.KeptWords = 17
limit_row limit.Nodes = 18

-- the row of a fault
abbrev pub fault_row : CheckError → ℕ
fault_row (UnknownName at) = 1
fault_row (TwiceNamed at) = 2
fault_row (WrongKind at) = 3
fault_row (ConstWritten at) = 4
fault_row (DmaUnderIf at) = 5
fault_row (TooMany at) = 6
fault_row (LimitReached at l n) = limit_row l
fault_row NoMemory = 0

-- a fault is at an earlier place, or at the same place of a row that is no later
abbrev pub IsEarlier : CheckError → CheckError → Type 0
IsEarlier e f = IsBefore (fault_place e) (fault_place f) ⊎ ((fault_place e ≡ fault_place f) × (fault_row e ≤ fault_row f))
