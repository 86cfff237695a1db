-- What comes in a boot: what it restores, and attempts, one after another.
use Rattle.std.specs.Prelude.{List, [], ◌∷◌, ◌++◌, ℕ, ◌+◌, nat_lt, Bool, true, false, ⊤}
use Rattle.devices.specs.Journal.{Place}
use Rattle.region_split.specs.Regions.{regions}
use Rattle.task_ast.specs.declared.core_form.CoreExit.{CoreExit}
use Rattle.word_machine.specs.State as machine
use Rattle.word_machine.specs.State.{Program}
use Rattle.word_machine.specs.Straight.{Spot}
use Rattle.run_plan.specs.declared.act.Act.{Act}
use Rattle.run_plan.specs.declared.act.Act.TheVariants as act
use Rattle.run_plan.specs.Cells.{State}
use Rattle.run_plan.specs.PlanOf.{exit_act}
use Rattle.run_plan.specs.Runs.{Onward}
use Rattle.run_plan.specs.Small.{Doing, core_of}
use Rattle.word_code.specs.ActCode.{acts_entry}
use Rattle.word_code.specs.Sizes.{act_size}
use Rattle.act_refines.specs.Between.{AreRelated}
use Rattle.act_refines.specs.Does.{frame_of}
use Rattle.code_runs.specs.Following.{ActsRun, AnyWay, LeadsFrom, RunsAt}

-- where an attempt hasn't begun yet
abbrev pub LeadsFirst : Program → (ℕ → Place) → Doing → (Stood : machine.State → State → Type 0) → (Holds : ℕ → Spot → State → Type 0) → (most pc : ℕ) → Onward → Type 0
LeadsFirst p place_of d Stood Holds most pc go = LeadsFrom p place_of (core_of d) d.scheme Stood Holds (AreRelated p d false) most pc go

-- of a region that the task has
abbrev pub IfThere : Bool → Type 0 → Type 0
IfThere true claim = claim
IfThere false claim = ⊤

-- the regions of a list are restored, each where its code stands
abbrev pub RegionsRun : Program → (ℕ → Place) → Doing → (number : ℕ) → (Stood : machine.State → State → Type 0) → (Holds : ℕ → Spot → State → Type 0) → (rs : List ℕ) → (at next : ℕ) → Type 0
RegionsRun p place_of d number Stood Holds [] at next = ⊤
RegionsRun p place_of d number Stood Holds (r ∷ rs) at next =
    let behind_at = at + act_size (frame_of d number) (act.Restore r) in
    IfThere (nat_lt r (regions d.setting.task)) (RunsAt p place_of d number Stood Holds (AnyWay Holds) (act.Restore r) at behind_at) × RegionsRun p place_of d number Stood Holds rs behind_at next

-- the acts of an attempt: its beginning, others, and the act of an exit at the end
abbrev pub attempt : (task : ℕ) → List Act → CoreExit → List Act
attempt t acts e = act.Begin t ∷ (acts ++ exit_act e ∷ [])

-- each of them does its act at its place
abbrev pub AttemptRuns : Program → (ℕ → Place) → Doing → (number : ℕ) → (Stood : machine.State → State → Type 0) → (Ready : ℕ → ℕ → Spot → State → Type 0) → (Holds : ℕ → Spot → State → Type 0) → (task : ℕ) → List Act → CoreExit → (at next : ℕ) → Type 0
AttemptRuns p place_of d number Stood Ready Holds t acts e at next =
    let rest = acts ++ exit_act e ∷ [] in
    let behind_at = at + act_size (frame_of d number) (act.Begin t) in
    RunsAt p place_of d number Stood (Ready number) (AnyWay Holds) (act.Begin t) at (acts_entry rest behind_at next) × ActsRun p place_of d number Stood Ready Holds rest behind_at next
