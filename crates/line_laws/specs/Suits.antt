-- Statements whose code can be laid: their parts are in scope and short, and a loop's body leaves the loop's variable.
use Rattle.std.specs.Prelude.{◌≡◌, ◌<◌, ⊤, false}
use Rattle.task_ast.specs.declared.core_form.CoreStmt.{CoreStmt, Row_of-CoreStmt, end_of-CoreStmt, more_of-CoreStmt}
use Rattle.task_ast.specs.declared.core_form.CoreStmt.TheVariants as stmt
use Rattle.task_ast.specs.declared.core_form.CoreTarget.{CoreTarget}
use Rattle.task_ast.specs.declared.core_form.CoreTarget.TheVariants as target
use Rattle.task_ast.specs.WellFormed.{Scope, IsOver}
use Rattle.io_depend.specs.Flow.{row_assigns}
use Rattle.io_depend.specs.Sets.{has}
use Rattle.line_code.specs.Fitting.{IsShort}
use Rattle.line_laws.specs.Relation.{Layout, room_at}

-- a target's array or pointer is there, and its index is in scope and short
abbrev pub IsOverTarget : Scope → CoreTarget → Type 0
IsOverTarget scope (target.Cell array i) = IsOver scope i × IsShort 0 i
IsOverTarget scope (target.Through pointer i) = (pointer < scope.pointers) × IsOver scope i × IsShort 0 i

abbrev mutual
  pub Suits : Layout → Scope → CoreStmt → Type 0
  Suits l scope (stmt.Assign x e) = IsOverTarget scope x × IsOver scope e × IsShort 1 e
  Suits l scope (stmt.Point p array i) = (p < scope.pointers) × IsOver scope i × IsShort 0 i
  Suits l scope (stmt.If' c m yes_row n no_row) = (IsOver scope c × IsShort 0 c) × RowSuits l scope yes_row × RowSuits l scope no_row
  Suits l scope (stmt.Loop' i turns m row) = (0 < room_at l i) × (turns < 65536) × (has (row_assigns scope.points row) i ≡ false) × RowSuits l scope row
  Suits l scope (stmt.Io site x p args) = ⊤
  Suits l scope (stmt.Block' site m row) = ⊤
  Suits l scope (stmt.Copy site to from n) = ⊤

  -- each statement of a row
  pub RowSuits : Layout → Scope → {n : _} → Row_of-CoreStmt n → Type 0
  RowSuits l scope end_of-CoreStmt = ⊤
  RowSuits l scope (more_of-CoreStmt s rest) = Suits l scope s × RowSuits l scope rest
