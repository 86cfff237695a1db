-- What is known between the acts of an attempt, inside blocks.
use Rattle.std.specs.Prelude.{List, ◌≡◌, ℕ, ◌≤◌, Some}
use Rattle.std.specs.List.{AllByRecursion}
use Rattle.devices.specs.Journal.{Place}
use Rattle.io_flow.specs.Written.{AllWithin}
use Rattle.task_ast.specs.Pointing.{pointing}
use Rattle.task_ast.specs.declared.core_form.CoreTask.{CoreTask}
use Rattle.task_attempts.specs.State.{Rules}
use Rattle.word_isa.specs.declared.parts.Scheme.{Scheme}
use Rattle.word_machine.specs.State.{Program}
use Rattle.word_machine.specs.Straight.{Spot}
use Rattle.run_plan.specs.Cells.{State}
use Rattle.run_plan.specs.Runs.{Onward}
use Rattle.run_plan.specs.Small.{Doing}
use Rattle.code_cuts.specs.Asked.{HasBegun, HasMode, HasOuter, HasTime}
use Rattle.code_cuts.specs.Lasting.{Lasts}
use Rattle.code_runs.specs.Claims.{Common}
use Rattle.code_runs.specs.Following.{Leads}

-- ---- between acts

-- a block around has begun, no later than now, and the mode outside it was noted
pub record IsAround (k : ℕ) (m : Spot) (s : State) : Type 0 where
  pub begun : HasBegun k m s
  pub outer : HasOuter k m s
  pub past : (u : ℕ) → s.frame.begun k ≡ Some u → u ≤ m.clock

-- In an attempt of the task of a number, with so many steps to go: what is known anywhere, where pointers point, that a mode was
-- made, and of each block around, innermost first, how it began.
pub record InAttempt (p : Program) (place_of : ℕ → Place) (rules : Rules) (scheme : Scheme) (number : ℕ) (t : CoreTask) (blocks : List ℕ) (n : ℕ) (m : Spot) (s : State) : Type 0 where
  pub common : Common p place_of rules scheme number n m s
  pub within : AllWithin (pointing t) s.store
  pub mode : HasMode m s
  pub around : AllByRecursion (λ k. IsAround k m s) blocks

-- so it is of the task that runs
abbrev pub In : Program → (ℕ → Place) → Doing → (number : ℕ) → (blocks : List ℕ) → ℕ → Spot → State → Type 0
In p place_of d number blocks n m s = InAttempt p place_of d.setting.rules d.scheme number d.setting.task blocks n m s

-- a claim, and something more of the state
abbrev pub With : (Holds : ℕ → Spot → State → Type 0) → (More : Spot → State → Type 0) → ℕ → Spot → State → Type 0
With Holds More n m s = Holds n m s × More m s

-- of a way that isn't taken
abbrev pub Never : ℕ → Spot → State → Type 0
Never n m s = ⊥

-- ---- behind a look

-- a look was taken: its time isn't of the future, and no stamp is later than it
pub record IsLooked (m : Spot) (s : State) : Type 0 where
  pub time : HasTime m s
  pub past : (u : ℕ) → s.frame.time ≡ Some u → u ≤ m.clock
  pub stamps : (u k : ℕ) → s.frame.time ≡ Some u → s.cells.stamp k ≤ u

-- ---- leading on

-- what comes at an address where an attempt has begun follows the machine, cut anywhere
abbrev pub LeadsOn : Program → (ℕ → Place) → Doing → (Holds : ℕ → Spot → State → Type 0) → (most pc : ℕ) → Onward → Type 0
LeadsOn p place_of d Holds most pc go = Leads p place_of d (Lasts p d.setting.rules d.scheme) Holds most pc go
