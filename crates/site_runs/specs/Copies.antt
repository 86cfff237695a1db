-- That a copy leads on: where what comes behind its acts follows the machine, so do its acts.
use Rattle.std.specs.Prelude.{List, [], ◌≡◌, ℕ, ◌-◌, Bool, false, Some, slice_get, suc}
use Rattle.devices.specs.Journal.{Place}
use Rattle.task_ast.specs.CoreSites.{greatest}
use Rattle.task_ast.specs.Pointing.{pointing}
use Rattle.task_ast.specs.WellFormed.{IsCoreStmt, scope_of}
use Rattle.task_ast.specs.declared.core_form.CoreEnd.{CoreEnd}
use Rattle.task_ast.specs.declared.core_form.CoreExpr.{CoreExpr}
use Rattle.task_ast.specs.declared.core_form.CoreStmt.TheVariants as stmt
use Rattle.task_ast.specs.declared.core_form.Site.TheVariants as site
use Rattle.word_machine.specs.State.{Program}
use Rattle.run_plan.specs.Finding.{statement_of}
use Rattle.run_plan.specs.PlanOf.{around, copy_acts}
use Rattle.run_plan.specs.Runs.{Onward, acts_run}
use Rattle.run_plan.specs.Small.{Doing, core_of}
use Rattle.word_code.specs.Finding.{statement_at}
use Rattle.code_places.specs.Placed.{ActsLie}
use Rattle.cell_laws.specs.Standing.{IsSite}
use Rattle.act_refines.specs.Does.{frame_of}
use Rattle.site_runs.specs.InAttempts.{In, LeadsOn}

-- A copy of the task: it stands at its site, is the statement that its acts and their code find there, and is one of a checked form.
pub record IsCopyOf (d : Doing) (number k : ℕ) (to from : CoreEnd) (words : CoreExpr) : Type 0 where
  pub level : ℕ
  pub branched : Bool
  pub numbered : IsSite k
  pub there : slice_get d.setting.task.sites (k - 1) ≡ Some (site.Copy (greatest (core_of d).arrays (pointing d.setting.task) to from))
  pub said : statement_of d k ≡ Some (stmt.Copy k to from words)
  pub laid : statement_at (frame_of d number) k ≡ Some (stmt.Copy k to from words)
  pub formed : IsCoreStmt (scope_of (core_of d) d.setting.task) level branched [] (stmt.Copy k to from words)

-- Each copy leads on inside any blocks, where its acts lie.
abbrev pub CopiesLead : Program → (ℕ → Place) → Doing → (number : ℕ) → Type 0
CopiesLead p place_of d number =
    (k : ℕ) (to from : CoreEnd) (words : CoreExpr) → IsCopyOf d number k to from words
    → (blocks : List ℕ) (most at next : ℕ) (again go : Onward) → ActsLie p (frame_of d number) false (copy_acts (around d.scheme d.setting.task) k) at next
    → LeadsOn p place_of d (In p place_of d number blocks) (suc most) next go
    → LeadsOn p place_of d (In p place_of d number blocks) (suc most) at (acts_run d again (copy_acts (around d.scheme d.setting.task) k) go)
