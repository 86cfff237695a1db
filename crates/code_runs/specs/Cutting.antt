-- What is asked of an act's code at its top, so that it runs its act wherever it is cut.
use Rattle.std.specs.Prelude.{List, ◌++◌, ◌≡◌, ℕ, ◌+◌, ◌-◌, ◌≤◌, ⊤}
use Rattle.devices.specs.Journal.{Place}
use Rattle.task_ast.specs.declared.core_form.Core.{Core}
use Rattle.word_isa.specs.declared.parts.Scheme.{Scheme}
use Rattle.word_machine.specs.State as machine
use Rattle.word_machine.specs.State.{Program}
use Rattle.word_machine.specs.Straight.{Spot, live}
use Rattle.run_plan.specs.declared.act.Act.{Act}
use Rattle.run_plan.specs.Cells.{State}
use Rattle.run_plan.specs.Deeds.{act_done}
use Rattle.run_plan.specs.Small.{Atom, Doing, Done, Way, core_of, does, fails, stuck}
use Rattle.act_refines.specs.Does.{Ends, frame_of, way_at}
use Rattle.act_refines.specs.Seen.{behind, steps_seen}
use Rattle.code_cuts.specs.Acts.{CutsBy, IsQuiet}
use Rattle.code_cuts.specs.Lasting.{IsNear}
use Rattle.code_cuts.specs.Runs.{shown_by}

-- An act has gone its way in some of so many steps: what is seen of them is what it showed, and then what the rest shows; what outlives
-- a failure stands for the state behind its small steps, and its end changes nothing that is recorded.
pub record HasGone (p : Program) (place_of : ℕ → Place) (c : Core) (scheme : Scheme) (Stood : machine.State → State → Type 0) (n steps : ℕ) (m there : Spot) (atoms : List Atom) (s to : State) : Type 0 where
  pub few : steps ≤ n
  pub clock : there.clock ≡ m.clock + steps
  pub near : IsNear c scheme steps (steps_seen c scheme atoms s) s to
  pub stood : Stood (live there) (behind c atoms s)
  pub quiet : IsQuiet (behind c atoms s) to
  pub shown : shown_by p place_of n m ≡ steps_seen c scheme atoms s ++ shown_by p place_of (n - steps) there

-- behind an act that goes on, with fewer steps to go, this is known by the way that it goes
abbrev pub KeepsBy : Program → (ℕ → Place) → Core → Scheme → (Stood : machine.State → State → Type 0) → (After : Way → ℕ → Spot → State → Type 0) → (n : ℕ) → Spot → State → Done → Type 0
KeepsBy p place_of c scheme Stood After n m s (does atoms change way) =
    let to = change (behind c atoms s) in
    (steps : ℕ) (there : Spot) → HasGone p place_of c scheme Stood n steps m there atoms s to → After way (n - steps) there to
KeepsBy p place_of c scheme Stood After n m s (fails atoms why) = ⊤
KeepsBy p place_of c scheme Stood After n m s stuck = ⊤

-- it does its act in at most so many steps, is cut well, and leaves this
pub record FitsThere (p : Program) (place_of : ℕ → Place) (d : Doing) (number : ℕ) (Stood : machine.State → State → Type 0) (After : Way → ℕ → Spot → State → Type 0) (n most : ℕ) (a : Act) (at next : ℕ) (m : Spot) (s : State) : Type 0 where
  pub ends : Ends p place_of d a most (way_at (frame_of d number) a at next) m s (act_done d a s)
  pub cuts : CutsBy p place_of (core_of d) d.scheme Stood m s (act_done d a s)
  pub keeps : KeepsBy p place_of (core_of d) d.scheme Stood After n m s (act_done d a s)
