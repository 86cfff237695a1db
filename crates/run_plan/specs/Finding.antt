-- The statement of a site.
use Rattle.std.specs.Prelude.{ℕ, ◌==◌, cond, List, [], ◌∷◌, Option, Some, None}
use Rattle.task_ast.specs.declared.core_form.CoreStmt.{CoreStmt, Row_of-CoreStmt, end_of-CoreStmt, more_of-CoreStmt}
use Rattle.task_ast.specs.declared.core_form.CoreStmt.TheVariants as stmt
use Rattle.run_plan.specs.Small.{Doing}

-- the first of two that is there
abbrev pub or_else : {A : Type 0} → Option A → Option A → Option A
or_else (Some x) other = Some x
or_else None other = other

abbrev mutual
  -- the statement of a site, if it is in this one
  pub found_in : (site : ℕ) → CoreStmt → Option CoreStmt
  found_in site (stmt.Assign x e) = None
  found_in site (stmt.Point p array i) = None
  found_in site (stmt.If' c m yes_row n no_row) = or_else (found_in_row site yes_row) (found_in_row site no_row)
  found_in site (stmt.Loop' i turns m row) = None
  found_in site (stmt.Io k x p args) = cond (k == site) (Some (stmt.Io k x p args)) None
  found_in site (stmt.Block' k m row) = cond (k == site) (Some (stmt.Block' k m row)) (found_in_row site row)
  found_in site (stmt.Copy k to from n) = cond (k == site) (Some (stmt.Copy k to from n)) None

  -- if it is in a row
  pub found_in_row : (site : ℕ) → {n : _} → Row_of-CoreStmt n → Option CoreStmt
  found_in_row site end_of-CoreStmt = None
  found_in_row site (more_of-CoreStmt s rest) = or_else (found_in site s) (found_in_row site rest)

-- if it is among statements
abbrev pub found_among : (site : ℕ) → List CoreStmt → Option CoreStmt
found_among site [] = None
found_among site (s ∷ rest) = or_else (found_in site s) (found_among site rest)

-- the statement of a site of the running task
abbrev pub statement_of : Doing → (site : ℕ) → Option CoreStmt
statement_of d k = found_among k d.setting.task.body
