-- One attempt of a task: the events of each of its statements, then those of what comes behind it (docs/ATTEMPTS.md, "An
-- attempt").
use Rattle.std.specs.Prelude.{ℕ, List, [], ◌∷◌}
use Rattle.task_ast.specs.declared.core_form.CoreStmt.{CoreStmt, Row_of-CoreStmt, end_of-CoreStmt, more_of-CoreStmt}
use Rattle.task_ast.specs.declared.core_form.CoreStmt.TheVariants as stmt
use Rattle.task_ast.specs.declared.core_form.CoreExit.{CoreExit, end_of-CoreExit, more_of-CoreExit}
use Rattle.task_ast.specs.declared.core_form.CoreExit.TheVariants as exit
use Rattle.io_annot.specs.declared.choice.Mode.TheVariants.{Own}
use Rattle.walk_run.specs.Store.{fresh}
use Rattle.devices.specs.Journal.{begins, commits}
use Rattle.task_attempts.specs.State.{Setting, Standing, Here, Rest, new_instance}
use Rattle.task_attempts.specs.Changes.{spent, spent_by}
use Rattle.task_attempts.specs.Costs.{beginning_steps, commit_steps}
use Rattle.task_attempts.specs.Told.{told}
use Rattle.task_attempts.specs.Values.{branch, plain_log}
use Rattle.task_attempts.specs.Calls.{call_log}
use Rattle.task_attempts.specs.Blocks.{block_log}
use Rattle.task_attempts.specs.Copies.{copy_log}

abbrev mutual
  -- the events of a statement, and then those of what comes behind it
  pub statement_log : Setting → CoreStmt → Rest → Rest
  statement_log setting (stmt.Assign onto e) go = plain_log (stmt.Assign onto e) go
  statement_log setting (stmt.Point pointer array index) go = plain_log (stmt.Point pointer array index) go
  statement_log setting (stmt.If' c m yes_row n no_row) go = branch c (row_log setting yes_row go) (row_log setting no_row go)
  statement_log setting (stmt.Loop' variable turns m row) go = plain_log (stmt.Loop' variable turns m row) go
  statement_log setting (stmt.Io k onto peripheral args) go = call_log setting k onto peripheral args go
  statement_log setting (stmt.Block' k m row) go = block_log setting k (row_log setting row) go
  statement_log setting (stmt.Copy k to from words) go = copy_log setting k to from words go

  -- those of a row's statements, one after another
  pub row_log : Setting → {n : _} → Row_of-CoreStmt n → Rest → Rest
  row_log setting end_of-CoreStmt go = go
  row_log setting (more_of-CoreStmt s rest) go = statement_log setting s (row_log setting rest go)

-- those of statements, one after another
abbrev pub body_log : Setting → List CoreStmt → Rest → Rest
body_log setting [] go = go
body_log setting (s ∷ rest) go = statement_log setting s (body_log setting rest go)

-- an exit leads to a task, or to 0 for STOP
abbrev pub exit_log : CoreExit → (ℕ → Rest) → Rest
exit_log (exit.Next t) go = go t
exit_log exit.Stop go = go 0
exit_log (exit.Choose' c u (more_of-CoreExit a end_of-CoreExit) v (more_of-CoreExit b end_of-CoreExit)) go = branch c (exit_log a go) (exit_log b go)

-- the standing after a commit: the store as it is, the next task, and no record
abbrev pub after_commit : (next : ℕ) → Here → Standing
after_commit next here = record { committed = here.store; next = next; account = new_instance here.standing.account }

-- a place right behind a commit
abbrev pub committed_by : (next : ℕ) → Here → Here
committed_by next here = spent commit_steps (record here { standing = after_commit next here })

-- a commit, and what comes behind it
abbrev pub commit : Rest → (next : ℕ) → Rest
commit go next here = told (commits next) go (committed_by next here)

-- a place where an attempt begins: volatile words are as declared, pointers point to nothing, and each site decides for itself
abbrev pub begun_by : Setting → Here → Here
begun_by setting here =
    spent_by (beginning_steps setting.rules.core setting.task)
    (record here { store = fresh setting.rules.core here.standing.committed; mode = Own })

-- the events of one attempt, and then those of what comes behind its commit
abbrev pub attempt_log : Setting → Rest → Rest
attempt_log setting go here =
    told (begins here.standing.next) (body_log setting setting.task.body (exit_log setting.task.exit (commit go))) (begun_by setting here)
