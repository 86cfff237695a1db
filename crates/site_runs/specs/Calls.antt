-- That a call leads on: where what comes behind its acts follows the machine, so do its acts.
use Rattle.std.specs.Prelude.{List, ◌≡◌, ℕ, ◌-◌, Bool, false, Option, Some, slice_get, suc}
use Rattle.devices.specs.Journal.{Place}
use Rattle.task_ast.specs.WellFormed.{IsCoreStmt, scope_of}
use Rattle.task_ast.specs.declared.core_form.CoreExpr.{CoreExpr}
use Rattle.task_ast.specs.declared.core_form.CoreStmt.TheVariants as stmt
use Rattle.task_ast.specs.declared.core_form.CoreTarget.{CoreTarget}
use Rattle.task_ast.specs.declared.core_form.Site.TheVariants as site
use Rattle.task_ast.specs.declared.tree.Ann.{Ann}
use Rattle.word_machine.specs.State.{Program}
use Rattle.run_plan.specs.Finding.{statement_of}
use Rattle.run_plan.specs.PlanOf.{around, call_acts}
use Rattle.run_plan.specs.Runs.{Onward, acts_run}
use Rattle.run_plan.specs.Small.{Doing, core_of}
use Rattle.word_code.specs.Finding.{statement_at}
use Rattle.code_places.specs.Placed.{ActsLie}
use Rattle.cell_laws.specs.Standing.{IsSite}
use Rattle.act_refines.specs.Does.{frame_of}
use Rattle.site_runs.specs.InAttempts.{In, LeadsOn}

-- A call of the task: it stands at its site, is the statement that its acts and their code find there, and is one of a checked form.
pub record IsCallOf (d : Doing) (number k : ℕ) (x : Option CoreTarget) (q : ℕ) (args : List CoreExpr) : Type 0 where
  pub ann : Ann
  pub level : ℕ
  pub branched : Bool
  pub turning : List ℕ
  pub numbered : IsSite k
  pub there : slice_get d.setting.task.sites (k - 1) ≡ Some (site.Io ann)
  pub said : statement_of d k ≡ Some (stmt.Io k x q args)
  pub laid : statement_at (frame_of d number) k ≡ Some (stmt.Io k x q args)
  pub formed : IsCoreStmt (scope_of (core_of d) d.setting.task) level branched turning (stmt.Io k x q args)

-- Each call leads on inside any blocks, where its acts lie.
abbrev pub CallsLead : Program → (ℕ → Place) → Doing → (number : ℕ) → Type 0
CallsLead p place_of d number =
    (k : ℕ) (x : Option CoreTarget) (q : ℕ) (args : List CoreExpr) → IsCallOf d number k x q args
    → (blocks : List ℕ) (most at next : ℕ) (again go : Onward) → ActsLie p (frame_of d number) false (call_acts (around d.scheme d.setting.task) k) at next
    → LeadsOn p place_of d (In p place_of d number blocks) (suc most) next go
    → LeadsOn p place_of d (In p place_of d number blocks) (suc most) at (acts_run d again (call_acts (around d.scheme d.setting.task) k) go)
