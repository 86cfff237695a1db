-- What it means that a machine's code runs a plan, boot by boot.
use Rattle.std.specs.Prelude.{List, [], ◌∷◌, ◌++◌, ◌≡◌, ℕ, ◌+◌, ◌<◌, ◌≤◌, ◌^◌, length, Some}
use Rattle.devices.specs.declared.event.Event.TheVariants as event
use Rattle.devices.specs.Journal.{JournalEvent, Place, begins, looks, keeps, drops, issues, seals, copies, commits, traps}
use Rattle.word_machine.specs.Events.{event_next}
use Rattle.word_machine.specs.State as machine
use Rattle.word_machine.specs.State.{Program}
use Rattle.word_machine.specs.Step.{exec}
use Rattle.word_machine.specs.Straight.{Spot, live}
use Rattle.word_machine.specs.declared.ending.Ending.TheVariants.{Running, Halted}
use Rattle.run_plan.specs.Cells.{State}
use Rattle.run_plan.specs.Runs.{Planned, boot_run}
use Rattle.act_refines.specs.Seen.{Seen, puts, tells}
use Rattle.code_cuts.specs.Lasting.{Lasts}
use Rattle.code_cuts.specs.Runs.{Cut, shown_by}

-- the time of a look, and the times of all that are seen
abbrev pub time_in : JournalEvent → List ℕ → List ℕ
time_in (begins t) times = times
time_in (looks k t) times = t ∷ times
time_in (keeps k value) times = times
time_in (drops k) times = times
time_in (issues k p args reading) times = times
time_in (seals k) times = times
time_in (copies k from to n) times = times
time_in (commits next) times = times
time_in (traps code) times = times

abbrev pub times_in : List Seen → List ℕ
times_in [] = []
times_in (puts at word ∷ seen) = times_in seen
times_in (tells e ∷ seen) = time_in e (times_in seen)

-- the plan's looks begin with those that the machine will show in so many steps
pub record AreDue (p : Program) (place_of : ℕ → Place) (n : ℕ) (m : Spot) (times : List ℕ) : Type 0 where
  pub later : List ℕ
  pub due : times ≡ times_in (shown_by p place_of n m) ++ later

-- the machine has just begun a boot of so many steps, and stands for a state of the plan
pub record IsBooted (p : Program) (place_of : ℕ → Place) (x : Planned) (n : ℕ) (m : Spot) (s : State) : Type 0 where
  pub pc : m.pc ≡ 0
  pub lasts : Lasts p x.rules x.plan.scheme (live m) s
  pub next : s.task ≤ length x.rules.core.tasks
  pub room : s.epoch + n + 1 < 2 ^ 24
  pub ticks : m.clock + n < 2 ^ 32
  pub due : AreDue p place_of n m s.looks

-- then it follows the plan's boot, cut anywhere, of more attempts than it has steps
abbrev pub BootsRun : Program → (ℕ → Place) → Planned → Type 0
BootsRun p place_of x =
    (n many : ℕ) (m : Spot) (s : State) → n < many → IsBooted p place_of x n m s → Cut p place_of x.rules.core x.plan.scheme (Lasts p x.rules x.plan.scheme) n 0 m s (boot_run x many s)

-- A machine's code runs a plan: each of its boots follows the plan's; a boot that finds no task halts within 64 steps; and so does
-- a machine that shows the commit behind which none is next, 33 steps from there.
pub record RunsPlan (p : Program) (place_of : ℕ → Place) (x : Planned) : Type 0 where
  pub boots : BootsRun p place_of x
  pub none : (m : Spot) (s : State) → m.pc ≡ 0 → Lasts p x.rules x.plan.scheme (live m) s → s.task ≡ 0 → (exec p 64 (live m)).ending ≡ Halted
  pub stops : (e : machine.State) → e.ending ≡ Running → event_next p e ≡ Some (event.Commit 0) → (exec p 33 e).ending ≡ Halted
