-- The run of an `if`, a loop and a block by their bodies, and of a choice of exits.
use Rattle.std.specs.Prelude.{◌≡◌, ℕ, List}
use Rattle.std.proofs.Common.{refl, ap, ◌∙◌}
use Rattle.task_ast.specs.declared.core_form.CoreExpr.{CoreExpr}
use Rattle.task_ast.specs.declared.core_form.CoreStmt.{CoreStmt, Row_of-CoreStmt, end_of-CoreStmt, more_of-CoreStmt, items-the_row-CoreStmt}
use Rattle.task_ast.specs.declared.core_form.CoreStmt.TheVariants as stmt
use Rattle.task_ast.specs.declared.core_form.CoreExit.{CoreExit}
use Rattle.task_ast.specs.declared.core_form.CoreExit.TheVariants as exit
use Rattle.task_ast.specs.declared.core_form.CoreExit.TheBlock.{hidden-the_row-CoreExit-0, shape-the_row-CoreExit-0}
use Rattle.task_ast.specs.Rows.{core_row_of, core_row_shows}
use Rattle.walk_run.specs.declared.walked.EarlyEnd.{EarlyEnd}
use Rattle.walk_run.specs.Store.{Store}
use Rattle.walk_run.specs.Plain.{turns_done, all_done}
use Rattle.walk_run.specs.PlainRows.{body_does}
use Rattle.walk_run.specs.Walk.{Onward, plain_walk, branch_walk, statement_walk, row_walk, body_walk, exit_walk}
use denote.Hole.Carrier.{hidden}

module _ {W : Type 0} (halt : EarlyEnd → Store → W) where
  -- a row runs as the statements that it shows do
  row_runs : (n : _) (row : Row_of-CoreStmt n) (go : Onward W) → row_walk halt row go ≡ body_walk halt (items-the_row-CoreStmt n row) go
  row_runs n end_of-CoreStmt go = refl
  row_runs n (more_of-CoreStmt s rest) go = ap (statement_walk halt s) (row_runs _ rest go)

  pub body_runs : (body : List CoreStmt) (go : Onward W) → row_walk halt (core_row_of body).1 go ≡ body_walk halt body go
  body_runs body go = row_runs (core_row_of body).0 (core_row_of body).1 go ∙ ap (λ b. body_walk halt b go) (core_row_shows body)

  -- an `if`
  pub walk_if : (c : CoreExpr) (yes_part no_part : List CoreStmt) (go : Onward W) → statement_walk halt (stmt.If c yes_part no_part) go ≡ branch_walk halt c (body_walk halt yes_part go) (body_walk halt no_part go)
  walk_if c yes_part no_part go = λ i. branch_walk halt c (body_runs yes_part go i) (body_runs no_part go i)

  -- a loop
  pub walk_loop : (variable turns : ℕ) (body : List CoreStmt) (go : Onward W) → statement_walk halt (stmt.Loop variable turns body) go ≡ plain_walk halt (turns_done (all_done body) variable 0 turns) go
  walk_loop variable turns body go = λ i. plain_walk halt (turns_done (λ s. body_does body s i) variable 0 turns) go

  -- a block
  pub walk_block : (site : ℕ) (body : List CoreStmt) (go : Onward W) → statement_walk halt (stmt.Block site body) go ≡ body_walk halt body go
  walk_block site body go = body_runs body go

  -- a choice of exits
  pub walk_choose : (e : CoreExit) (c : CoreExpr) (a b : CoreExit) (go : ℕ → Onward W) → e ≡ exit.Choose c a b → exit_walk halt e go ≡ branch_walk halt c (exit_walk halt a go) (exit_walk halt b go)
  unfolding hidden-the_row-CoreExit-0 shape-the_row-CoreExit-0 hidden
  walk_choose e c a b go is = ap (λ x. exit_walk halt x go) is
