-- What an `if` and a loop do, write and may take, by their bodies.
use Rattle.std.specs.Prelude.{◌≡◌, ℕ, ◌+◌, List, ◌++◌}
use Rattle.std.proofs.Common.{refl, ap, ◌∙◌}
use Rattle.task_ast.specs.declared.core_form.CoreExpr.{CoreExpr}
use Rattle.task_ast.specs.declared.core_form.CoreStmt.{CoreStmt, Row_of-CoreStmt, end_of-CoreStmt, more_of-CoreStmt, items-the_row-CoreStmt}
use Rattle.task_ast.specs.declared.core_form.CoreStmt.TheVariants as stmt
use Rattle.task_ast.specs.Rows.{core_row_of, core_row_shows}
use Rattle.walk_run.specs.Store.{Store}
use Rattle.walk_run.specs.Plain.{and_then, branched, turns_done, plain_done, row_done, all_done}
use Rattle.walk_run.specs.PlainWrites.{next_writes, branch_writes, turns_writes, plain_writes, row_writes, all_writes}
use Rattle.walk_run.specs.PlainSteps.{next_steps, branch_steps, turns_steps, plain_steps, row_steps, all_steps}

-- a row does what the statements that it shows do
row_does : (n : _) (row : Row_of-CoreStmt n) (store : Store) → row_done row store ≡ all_done (items-the_row-CoreStmt n row) store
row_does n end_of-CoreStmt store = refl
row_does n (more_of-CoreStmt s rest) store = λ i. and_then (plain_done s store) (λ after. row_does _ rest after i)

pub body_does : (body : List CoreStmt) (store : Store) → row_done (core_row_of body).1 store ≡ all_done body store
body_does body store = row_does (core_row_of body).0 (core_row_of body).1 store ∙ ap (λ b. all_done b store) (core_row_shows body)

-- an `if`
pub done_if : (c : CoreExpr) (yes_part no_part : List CoreStmt) (store : Store) → plain_done (stmt.If c yes_part no_part) store ≡ branched c (all_done yes_part) (all_done no_part) store
done_if c yes_part no_part store = λ i. branched c (λ s. body_does yes_part s i) (λ s. body_does no_part s i) store

-- a loop
pub done_loop : (variable turns : ℕ) (body : List CoreStmt) (store : Store) → plain_done (stmt.Loop variable turns body) store ≡ turns_done (all_done body) variable 0 turns store
done_loop variable turns body store = λ i. turns_done (λ s. body_does body s i) variable 0 turns store

-- a row writes what the statements that it shows write
row_writes_are : (n : _) (row : Row_of-CoreStmt n) (store : Store) → row_writes row store ≡ all_writes (items-the_row-CoreStmt n row) store
row_writes_are n end_of-CoreStmt store = refl
row_writes_are n (more_of-CoreStmt s rest) store = λ i. plain_writes s store ++ next_writes (plain_done s store) (λ after. row_writes_are _ rest after i)

pub body_writes : (body : List CoreStmt) (store : Store) → row_writes (core_row_of body).1 store ≡ all_writes body store
body_writes body store = row_writes_are (core_row_of body).0 (core_row_of body).1 store ∙ ap (λ b. all_writes b store) (core_row_shows body)

-- the writes of an `if`
pub writes_if : (c : CoreExpr) (yes_part no_part : List CoreStmt) (store : Store) → plain_writes (stmt.If c yes_part no_part) store ≡ branch_writes c (all_writes yes_part) (all_writes no_part) store
writes_if c yes_part no_part store = λ i. branch_writes c (λ s. body_writes yes_part s i) (λ s. body_writes no_part s i) store

-- the writes of a loop
pub writes_loop : (variable turns : ℕ) (body : List CoreStmt) (store : Store) → plain_writes (stmt.Loop variable turns body) store ≡ turns_writes (all_done body) (all_writes body) variable 0 turns store
writes_loop variable turns body store = λ i. turns_writes (λ s. body_does body s i) (λ s. body_writes body s i) variable 0 turns store

-- a row may take the steps that the statements that it shows may take
row_steps_are : (n : _) (row : Row_of-CoreStmt n) (store : Store) → row_steps row store ≡ all_steps (items-the_row-CoreStmt n row) store
row_steps_are n end_of-CoreStmt store = refl
row_steps_are n (more_of-CoreStmt s rest) store = λ i. plain_steps s store + next_steps (plain_done s store) (λ after. row_steps_are _ rest after i)

pub body_steps : (body : List CoreStmt) (store : Store) → row_steps (core_row_of body).1 store ≡ all_steps body store
body_steps body store = row_steps_are (core_row_of body).0 (core_row_of body).1 store ∙ ap (λ b. all_steps b store) (core_row_shows body)

-- the steps of an `if`
pub steps_if : (c : CoreExpr) (yes_part no_part : List CoreStmt) (store : Store) → plain_steps (stmt.If c yes_part no_part) store ≡ branch_steps c (all_steps yes_part) (all_steps no_part) store
steps_if c yes_part no_part store = λ i. branch_steps c (λ s. body_steps yes_part s i) (λ s. body_steps no_part s i) store

-- the steps of a loop
pub steps_loop : (variable turns : ℕ) (body : List CoreStmt) (store : Store) → plain_steps (stmt.Loop variable turns body) store ≡ 24 + turns_steps (all_done body) (all_steps body) variable 0 turns store
steps_loop variable turns body store = λ i. 24 + turns_steps (λ s. body_does body s i) (λ s. body_steps body s i) variable 0 turns store
