-- Where a run over power rows begins so that it is followed, and what is asked of looks and failures.
use Rattle.std.specs.Prelude.{List, [], ◌∷◌, ◌++◌, ◌≡◌, ℕ, ◌+◌, ◌<◌, ◌≤◌, ◌^◌, ⊤, Some, None, length}
use Rattle.devices.specs.Journal.{Place}
use Rattle.devices.specs.World.{steps_of, ticks_of}
use Rattle.devices.specs.declared.world.PowerRow.{PowerRow}
use Rattle.task_attempts.specs.State.{Rules}
use Rattle.word_isa.specs.declared.parts.Scheme.{Scheme}
use Rattle.word_isa.specs.declared.instr.Instr.TheVariants.{Halt}
use Rattle.word_machine.specs.State as machine
use Rattle.word_machine.specs.State.{Program}
use Rattle.word_machine.specs.Step.{exec}
use Rattle.word_machine.specs.Straight.{Spot, live}
use Rattle.word_machine.specs.declared.ending.Ending.TheVariants.{Running}
use Rattle.run_plan.specs.Cells as cells
use Rattle.run_plan.specs.Cells.{State}
use Rattle.run_plan.specs.Runs.{Planned}
use Rattle.code_cuts.specs.Boots.{times_in}
use Rattle.code_cuts.specs.Lasting.{Lasts}
use Rattle.code_cuts.specs.Runs.{shown_by}
use Rattle.power_runs.specs.Followed.{begun_again}

-- the looks begin with those that a boot shows, and of those that are left something holds where the machine goes on
pub record DueOver (p : Program) (place_of : ℕ → Place) (most : ℕ) (m : Spot) (times : List ℕ) (Rest : List ℕ → Type 0) : Type 0 where
  pub later : List ℕ
  pub due : times ≡ times_in (shown_by p place_of most m) ++ later
  pub rest : (exec p most (live m)).ending ≡ Running → Rest later

-- boot by boot the looks that are left begin with those that are shown next
abbrev pub AreDueOver : Program → (ℕ → Place) → List PowerRow → Spot → (times : List ℕ) → Type 0
AreDueOver p place_of [] m times = ⊤
AreDueOver p place_of (row ∷ rows) m times =
    DueOver p place_of row.on m times (λ (later : List ℕ). AreDueOver p place_of rows (begun_again row (exec p row.on (live m))) later)

-- behind a failure FRAM and the counts of issues stand for what the failure leaves of the plan's state
abbrev pub FailsWell : Program → Rules → Scheme → Type 0
FailsWell p rules scheme = (e : machine.State) (s : State) (row : PowerRow) → e.ending ≡ Running → Lasts p rules scheme e s → Lasts p rules scheme (live (begun_again row e)) (cells.failed rules.core s)

-- a machine that begins a run over power rows: it stands for a state of the plan whose epochs don't run out, its clock doesn't
-- either, and its looks are due
pub record StartsWell (p : Program) (place_of : ℕ → Place) (x : Planned) (rows : List PowerRow) (m : Spot) (s : State) : Type 0 where
  pub pc : m.pc ≡ 0
  pub lasts : Lasts p x.rules x.plan.scheme (live m) s
  pub next : s.task ≤ length x.rules.core.tasks
  pub room : s.epoch + steps_of rows + 1 < 2 ^ 24
  pub ticks : m.clock + ticks_of rows < 2 ^ 32
  pub due : AreDueOver p place_of rows m s.looks

-- no mark is at an instruction that halts: a machine shows nothing as it halts
abbrev pub HaltsUnmarked : Program → Type 0
HaltsUnmarked p = (at : ℕ) → p.instr at ≡ Some Halt → p.mark at ≡ None
