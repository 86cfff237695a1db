-- That the acts of statements lead on: where what comes behind them follows the machine, so do they.
use Rattle.std.specs.Prelude.{List, ◌∷◌, ◌≡◌, ℕ, ◌-◌, ◌<◌, false, Some, slice_get, suc}
use Rattle.std.specs.List.{AllByRecursion}
use Rattle.devices.specs.Journal.{Place}
use Rattle.task_ast.specs.declared.core_form.Site.TheVariants as site
use Rattle.task_ast.specs.declared.tree.Ann.{Ann}
use Rattle.word_machine.specs.State.{Program}
use Rattle.run_plan.specs.declared.act.Act.{Act}
use Rattle.run_plan.specs.PlanOf.{block_acts}
use Rattle.run_plan.specs.Runs.{Onward, acts_run}
use Rattle.run_plan.specs.Small.{Doing}
use Rattle.word_code.specs.ActCode.{acts_entry}
use Rattle.code_places.specs.Placed.{ActsLie}
use Rattle.act_laws.specs.Words.{FitsLimit}
use Rattle.cell_laws.specs.Standing.{IsSite}
use Rattle.act_refines.specs.Does.{frame_of}
use Rattle.site_runs.specs.InAttempts.{In, LeadsOn}

-- Acts lead on inside blocks: wherever they lie, from what is known between the acts of an attempt to the same behind them.
abbrev pub ActsLead : Program → (ℕ → Place) → Doing → (number : ℕ) → (blocks : List ℕ) → List Act → Type 0
ActsLead p place_of d number blocks acts =
    (most at next : ℕ) (again go : Onward) → ActsLie p (frame_of d number) false acts at next → LeadsOn p place_of d (In p place_of d number blocks) (suc most) next go
    → LeadsOn p place_of d (In p place_of d number blocks) (suc most) (acts_entry acts at next) (acts_run d again acts go)

-- A block of the task: it stands at its site, and its limit is a word.
pub record IsBlockOf (d : Doing) (k : ℕ) : Type 0 where
  pub ann : Ann
  pub numbered : IsSite k
  pub there : slice_get d.setting.task.sites (k - 1) ≡ Some (site.Block ann)
  pub limit : FitsLimit ann

-- Each block leads on inside blocks of earlier sites, where the acts of its body lead on inside it.
abbrev pub BlocksLead : Program → (ℕ → Place) → Doing → (number : ℕ) → Type 0
BlocksLead p place_of d number =
    (k : ℕ) (blocks : List ℕ) (body : List Act) → IsBlockOf d k → AllByRecursion (λ j. j < k) blocks → ActsLead p place_of d number (k ∷ blocks) body → ActsLead p place_of d number blocks (block_acts k body)
