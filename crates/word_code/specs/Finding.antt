-- The statement of a call or a copy, by its site.
use Rattle.std.specs.Prelude.{ℕ, ◌==◌, cond, List, [], ◌∷◌, Option, Some, None}
use Rattle.task_ast.specs.declared.core_form.CoreStmt.{CoreStmt, Row_of-CoreStmt, end_of-CoreStmt, more_of-CoreStmt}
use Rattle.task_ast.specs.declared.core_form.CoreStmt.TheVariants as stmt
use Rattle.word_code.specs.Frames.{Frame}

-- the first of two, if there is one
abbrev pub or_else : Option CoreStmt → Option CoreStmt → Option CoreStmt
or_else (Some s) other = Some s
or_else None other = other

abbrev mutual
  -- the call or copy of a site in a statement
  pub found_in : (site : ℕ) → CoreStmt → Option CoreStmt
  found_in site (stmt.Assign x e) = None
  found_in site (stmt.Point p array i) = None
  found_in site (stmt.If' c m yes_row n no_row) = or_else (found_in_row site yes_row) (found_in_row site no_row)
  found_in site (stmt.Loop' i turns m row) = None
  found_in site (stmt.Io k x p args) = cond (k == site) (Some (stmt.Io k x p args)) None
  found_in site (stmt.Block' k m row) = found_in_row site row
  found_in site (stmt.Copy k to from n) = cond (k == site) (Some (stmt.Copy k to from n)) None

  -- that in a row's statements
  pub found_in_row : (site : ℕ) → {n : _} → Row_of-CoreStmt n → Option CoreStmt
  found_in_row site end_of-CoreStmt = None
  found_in_row site (more_of-CoreStmt s rest) = or_else (found_in site s) (found_in_row site rest)

-- that in statements, one after another
abbrev pub found : (site : ℕ) → List CoreStmt → Option CoreStmt
found site [] = None
found site (s ∷ rest) = or_else (found_in site s) (found site rest)

-- that of the task
abbrev pub statement_at : Frame → (site : ℕ) → Option CoreStmt
statement_at f site = found site f.task.body
