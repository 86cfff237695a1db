-- A boot that is cut anywhere: what the machine has shown is what a front of the run's small steps shows.
use Rattle.std.specs.Prelude.{List, [], ◌∷◌, ◌++◌, ◌≡◌, ℕ, ◌+◌, ◌<◌, ⊤, None}
use Rattle.devices.specs.Journal.{Place, traps}
use Rattle.task_ast.specs.declared.core_form.Core.{Core}
use Rattle.task_attempts.specs.Boots.{task_of}
use Rattle.word_isa.specs.declared.parts.Scheme.{Scheme}
use Rattle.word_machine.specs.State as machine
use Rattle.word_machine.specs.State.{Program}
use Rattle.word_machine.specs.Step.{exec}
use Rattle.word_machine.specs.Straight.{Spot, live}
use Rattle.word_machine.specs.Traces as trace
use Rattle.word_machine.specs.declared.ending.Ending.{Ending}
use Rattle.word_machine.specs.declared.ending.Ending.TheVariants.{Running, Halted, Trapped}
use Rattle.run_plan.specs.Cells.{State}
use Rattle.run_plan.specs.Runs.{Smalls, after}
use Rattle.run_plan.specs.Small.{after_shown}
use Rattle.act_refines.specs.Seen.{Seen, event_seen, tells, trace_seen, write_seen}
use Rattle.code_cuts.specs.Lasting.{IsNear}

-- what a run's small steps show from a state on, one after another
abbrev pub smalls_seen : Core → Scheme → Smalls → State → List Seen
smalls_seen c scheme [] s = []
smalls_seen c scheme (x ∷ xs) s = write_seen c scheme (after_shown x.atom.event s) x.atom.write ++ event_seen x.atom.event ++ smalls_seen c scheme xs x.after

-- a trap is seen as the machine ends
abbrev pub end_seen : Ending → List Seen
end_seen Running = []
end_seen Halted = []
end_seen (Trapped code) = tells (traps code) ∷ []

-- what so many steps of the machine show
abbrev pub shown_by : Program → (ℕ → Place) → (steps : ℕ) → Spot → List Seen
shown_by p place_of n m = trace_seen place_of (trace.trace p n (live m)) ++ end_seen (exec p n (live m)).ending

-- the next small step's act is in progress: so many steps of the boot are fewer than the weights that have begun
abbrev pub IsInProgress : (steps : ℕ) → (rest : Smalls) → Type 0
IsInProgress steps [] = ⊤
IsInProgress steps (x ∷ rest) = steps < x.weights

-- Cut behind so many steps, and `spent` steps of the boot before them, the machine has shown just what the small steps of a front
-- of these show, what outlives a failure stands for the state behind them, the act that does the next of them is in progress, and
-- a machine that has halted has no task to run.
pub record Cut (p : Program) (place_of : ℕ → Place) (c : Core) (scheme : Scheme) (Stood : machine.State → State → Type 0) (n spent : ℕ) (m : Spot) (s : State) (xs : Smalls) : Type 0 where
  pub front : Smalls
  pub rest : Smalls
  pub whole : front ++ rest ≡ xs
  pub shown : shown_by p place_of n m ≡ smalls_seen c scheme front s
  pub stood : Stood (exec p n (live m)) (after s front)
  pub near : IsNear c scheme n (smalls_seen c scheme front s) s (after s front)
  pub on : (exec p n (live m)).ending ≡ Halted → task_of c (after s front).task ≡ None
  pub within : IsInProgress (spent + n) rest
