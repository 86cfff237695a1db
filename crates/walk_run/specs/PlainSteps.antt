-- The machine steps that expressions and statements without sites may take when compiled: what each part that begins
-- may take, added up.
use Rattle.std.specs.Prelude.{ℕ, zero, suc, ◌+◌, List, [], ◌∷◌, Result, Ok, Err}
use Rattle.task_ast.specs.declared.core_form.CoreExpr.{CoreExpr, end_of-CoreExpr, more_of-CoreExpr}
use Rattle.task_ast.specs.declared.core_form.CoreExpr.TheVariants as expr
use Rattle.task_ast.specs.declared.core_form.CoreTarget.{CoreTarget}
use Rattle.task_ast.specs.declared.core_form.CoreTarget.TheVariants as target
use Rattle.task_ast.specs.declared.core_form.CoreEnd.{CoreEnd}
use Rattle.task_ast.specs.declared.core_form.CoreEnd.TheVariants as end
use Rattle.task_ast.specs.declared.core_form.CoreStmt.{CoreStmt, Row_of-CoreStmt, end_of-CoreStmt, more_of-CoreStmt}
use Rattle.task_ast.specs.declared.core_form.CoreStmt.TheVariants as stmt
use Rattle.walk_run.specs.declared.trap.Trap.{Trap}
use Rattle.walk_run.specs.Store.{Store}
use Rattle.walk_run.specs.Value.{value_of, target_place}
use Rattle.walk_run.specs.Plain.{Ran, done, trapped, chosen, set_variable, plain_done, row_done}

-- an expression: 12 for each of its nodes, and 12 more for each index through a pointer
abbrev pub expr_steps : CoreExpr → ℕ
expr_steps (expr.Number word) = 12
expr_steps (expr.Cell' array u (more_of-CoreExpr index end_of-CoreExpr)) = 12 + expr_steps index
expr_steps (expr.Through' pointer u (more_of-CoreExpr index end_of-CoreExpr)) = 24 + expr_steps index
expr_steps (expr.One' op u (more_of-CoreExpr e end_of-CoreExpr)) = 12 + expr_steps e
expr_steps (expr.Two' op u (more_of-CoreExpr a end_of-CoreExpr) v (more_of-CoreExpr b end_of-CoreExpr)) = 12 + (expr_steps a + expr_steps b)

-- a target: its index, and 12 more where that goes through a pointer
abbrev pub target_steps : CoreTarget → ℕ
target_steps (target.Cell array index) = expr_steps index
target_steps (target.Through pointer index) = 12 + expr_steps index

-- a copy's end: its index, if it has one
abbrev pub end_steps : CoreEnd → ℕ
end_steps (end.Cell array index) = expr_steps index
end_steps (end.Pointer pointer) = 0

-- an `if`: 16, and its condition
abbrev pub condition_steps : CoreExpr → ℕ
condition_steps c = 16 + expr_steps c

-- the steps of what goes on with what was found; after a trap nothing does
abbrev pub found_steps : {A : Type 0} → Result A Trap → (A → ℕ) → ℕ
found_steps (Ok x) go = go x
found_steps (Err trap) go = 0

-- the steps of what goes on from where statements end
abbrev pub next_steps : Ran → (Store → ℕ) → ℕ
next_steps (done store) go = go store
next_steps (trapped trap store) go = 0

-- an assignment: 16, its target, and its word where the target is found
abbrev pub assignment_steps : CoreTarget → CoreExpr → Store → ℕ
assignment_steps target e store = 16 + (target_steps target + found_steps (target_place target store) (λ at. expr_steps e))

-- a condition, and the branch that it chooses
abbrev pub branch_steps : CoreExpr → (yes_part no_part : Store → ℕ) → Store → ℕ
branch_steps c yes_part no_part store = condition_steps c + found_steps (value_of c store) (λ word. chosen word yes_part no_part store)

-- the turns that are left: 24 for each that begins
abbrev pub turns_steps : (body : Store → Ran) → (steps : Store → ℕ) → (variable number left : ℕ) → Store → ℕ
turns_steps body steps variable number zero store = 0
turns_steps body steps variable number (suc left) store =
    let set = set_variable variable number store in
    24 + (steps set + next_steps (body set) (turns_steps body steps variable (number + 1) left))

abbrev mutual
  -- the steps of a statement without sites: of each of its parts that begins
  pub plain_steps : CoreStmt → Store → ℕ
  plain_steps (stmt.Assign target e) store = assignment_steps target e store
  plain_steps (stmt.Point pointer array index) store = 16 + expr_steps index
  plain_steps (stmt.If' c m yes_row n no_row) store = branch_steps c (row_steps yes_row) (row_steps no_row) store
  plain_steps (stmt.Loop' variable turns m row) store = 24 + turns_steps (row_done row) (row_steps row) variable 0 turns store
  plain_steps (stmt.Io site target peripheral args) store = 0
  plain_steps (stmt.Block' site m row) store = 0
  plain_steps (stmt.Copy site to from words) store = 0

  -- the steps of a row's statements
  pub row_steps : {n : _} → Row_of-CoreStmt n → Store → ℕ
  row_steps end_of-CoreStmt store = 0
  row_steps (more_of-CoreStmt s rest) store = plain_steps s store + next_steps (plain_done s store) (row_steps rest)

-- the steps of statements one after another
abbrev pub all_steps : List CoreStmt → Store → ℕ
all_steps [] store = 0
all_steps (s ∷ rest) store = plain_steps s store + next_steps (plain_done s store) (all_steps rest)
