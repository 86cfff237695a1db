-- Acts that are cut anywhere: no small step is seen in part, and what outlives a failure stands for the state so far.
use Rattle.std.specs.Prelude.{List, ◌++◌, ◌≡◌, ℕ, Bool, Some}
use Rattle.devices.specs.Journal.{Place}
use Rattle.task_ast.specs.declared.core_form.Core.{Core}
use Rattle.task_ast.specs.WellFormed.{IsWellFormed}
use Rattle.task_attempts.specs.Boots.{task_of}
use Rattle.word_isa.specs.declared.parts.Scheme.{Scheme}
use Rattle.word_machine.specs.State as machine
use Rattle.word_machine.specs.State.{Program}
use Rattle.word_machine.specs.Step.{exec}
use Rattle.word_machine.specs.Straight.{Spot, live}
use Rattle.word_machine.specs.Traces as trace
use Rattle.line_laws.specs.Standing.{Lie}
use Rattle.run_plan.specs.declared.act.Act.{Act}
use Rattle.run_plan.specs.Cells.{State}
use Rattle.run_plan.specs.Deeds.{act_done}
use Rattle.run_plan.specs.Small.{Atom, Doing, Done, core_of, does, fails, stuck}
use Rattle.word_code.specs.ActCode.{act_code}
use Rattle.act_refines.specs.Between.{AreRelated}
use Rattle.act_refines.specs.Does.{Ends, MayCommit, frame_of, has_begun, way_at}
use Rattle.act_refines.specs.Seen.{IsFront, behind, steps_seen, trace_seen}
use Rattle.code_cuts.specs.Lasting.{IsNear, Lasts, MayFollow}

-- so far the machine has shown just what a front of the small steps shows, and stands for the state behind it
pub record SoFar (p : Program) (place_of : ℕ → Place) (c : Core) (scheme : Scheme) (Stood : machine.State → State → Type 0) (n : ℕ) (m : Spot) (s : State) (atoms : List Atom) : Type 0 where
  pub front : List Atom
  pub left : List Atom
  pub whole : front ++ left ≡ atoms
  pub shown : trace_seen place_of (trace.trace p n (live m)) ≡ steps_seen c scheme front s
  pub stood : Stood (exec p n (live m)) (behind c front s)
  pub near : IsNear c scheme n (steps_seen c scheme front s) s (behind c front s)

-- so it does behind all of them
pub record IsThrough (p : Program) (c : Core) (scheme : Scheme) (Stood : machine.State → State → Type 0) (n : ℕ) (m : Spot) (s : State) (atoms : List Atom) : Type 0 where
  pub stood : Stood (exec p n (live m)) (behind c atoms s)
  pub near : IsNear c scheme n (steps_seen c scheme atoms s) s (behind c atoms s)

-- No small step is seen in part: a front of what they show is what a front of them shows.
pub record AreWhole (p : Program) (place_of : ℕ → Place) (c : Core) (scheme : Scheme) (Stood : machine.State → State → Type 0) (m : Spot) (s : State) (atoms : List Atom) : Type 0 where
  pub fronts : (n : ℕ) → IsFront (trace_seen place_of (trace.trace p n (live m))) (steps_seen c scheme atoms s) → SoFar p place_of c scheme Stood n m s atoms
  pub last : (n : ℕ) → trace_seen place_of (trace.trace p n (live m)) ≡ steps_seen c scheme atoms s → IsThrough p c scheme Stood n m s atoms

-- an act's end changes neither the state word, nor the looks, nor what is recorded
pub record IsQuiet (s to : State) : Type 0 where
  pub epoch : to.epoch ≡ s.epoch
  pub task : to.task ≡ s.task
  pub bank : to.bank ≡ s.bank
  pub looks : to.looks ≡ s.looks
  pub cells : to.cells ≡ s.cells

-- all of this of an act by how it ends; it misses nothing
abbrev pub CutsBy : Program → (ℕ → Place) → Core → Scheme → (Stood : machine.State → State → Type 0) → Spot → State → Done → Type 0
CutsBy p place_of c scheme Stood m s (does atoms change way) = AreWhole p place_of c scheme Stood m s atoms × IsQuiet (behind c atoms s) (change (behind c atoms s))
CutsBy p place_of c scheme Stood m s (fails atoms why) = AreWhole p place_of c scheme Stood m s atoms
CutsBy p place_of c scheme Stood m s stuck = ⊥

abbrev pub CutsWell : Program → (ℕ → Place) → Doing → Act → Spot → State → Type 0
CutsWell p place_of d a m s = CutsBy p place_of (core_of d) d.scheme (Lasts p d.setting.rules d.scheme) m s (act_done d a s)

-- the task of which an act is runs
abbrev pub IsRunning : Doing → State → Type 0
IsRunning d s = task_of (core_of d) s.task ≡ Some d.setting.task

-- An act's code is cut well, wherever it stands, from a state of which this is asked.
abbrev pub CutsAct : Program → (ℕ → Place) → Doing → (number : ℕ) → (keeps : Bool) → Act → (Asks : Spot → State → Type 0) → Type 0
CutsAct p place_of d number keeps a Asks =
    (next : ℕ) (m : Spot) (s : State) → IsWellFormed (core_of d) → Lie p m.pc (act_code (frame_of d number) keeps a m.pc next) → AreRelated p d (has_begun a) m s → IsRunning d s → MayFollow d m.clock s → Asks m s
    → CutsWell p place_of d a m s

-- A commit does its act in fewer steps than it may take: one is left to the jump of the next task's stub.
abbrev pub CommitsEarly : Program → (ℕ → Place) → Doing → (number : ℕ) → (keeps : Bool) → Act → Type 0
CommitsEarly p place_of d number keeps a =
    (next : ℕ) (m : Spot) (s : State) → IsWellFormed (core_of d) → Lie p m.pc (act_code (frame_of d number) keeps a m.pc next) → AreRelated p d (has_begun a) m s → MayCommit m s
    → Ends p place_of d a 31 (way_at (frame_of d number) a m.pc next) m s (act_done d a s)
