-- An act's code at its place: it does its act, is cut well, and keeps what is known anywhere.
use Rattle.std.specs.Prelude.{Some, map}
use Rattle.std.proofs.Common.{◌≡◌, ◌∙◌, ℕ, ◌+◌, ◌-◌, ◌≤◌, Bool, List, [], ◌∷◌, refl, sym, ap, subst, arith}
use Rattle.devices.specs.Journal.{Place}
use Rattle.task_ast.specs.WellFormed.{IsWellFormed}
use Rattle.task_ast.specs.declared.core_form.Core.{Core}
use Rattle.task_attempts.specs.Boots.{task_of}
use Rattle.word_isa.specs.declared.parts.Scheme.{Scheme}
use Rattle.word_machine.specs.State as machine
use Rattle.word_machine.specs.State.{Program}
use Rattle.word_machine.specs.Straight.{Spot}
use Rattle.line_laws.specs.Standing.{Lie}
use Rattle.run_plan.specs.declared.act.Act.{Act}
use Rattle.run_plan.specs.Cells.{CellWrite, State}
use Rattle.run_plan.specs.Deeds.{act_done}
use Rattle.run_plan.specs.Small.{Atom, Doing, Done, Way, core_of, silent}
use Rattle.word_code.specs.ActCode.{act_code}
use Rattle.act_refines.specs.Between.{AreRelated}
use Rattle.act_refines.specs.Does.{Ends, frame_of, has_begun, way_at}
use Rattle.act_refines.specs.Seen.{steps_seen}
use Rattle.code_cuts.specs.Acts.{CutsAct}
use Rattle.code_cuts.specs.Lasting.{Lasts, MayFollow, task_behind}
use Rattle.code_runs.specs.Claims.{Common}
use Rattle.code_runs.specs.Cutting.{HasGone, KeepsBy}
use Rattle.code_runs.specs.Following.{RunsIn}
use Rattle.code_runs.proofs.Commons.{common_same, follow_of, follows_here}
use Rattle.code_runs.proofs.Cutting.{runs_in}

-- writes without events leave the next task
pub silent_task : (c : Core) (scheme : Scheme) (writes : List CellWrite) (s : State) (task : ℕ) → task_behind (steps_seen c scheme (map silent writes) s) task ≡ task
silent_task c scheme [] s task = refl
silent_task c scheme (w ∷ writes) s task = silent_task c scheme writes _ task

module _ (p : Program) (place_of : ℕ → Place) (d : Doing) (number : ℕ) where
  -- what outlives a failure, and what is known anywhere
  abbrev pub Stood : machine.State → State → Type 0
  Stood = Lasts p d.setting.rules d.scheme

  abbrev pub Known : (n : ℕ) → Spot → State → Type 0
  Known = Common p place_of d.setting.rules d.scheme number

  abbrev pub Keeps : (After : Way → ℕ → Spot → State → Type 0) → (n : ℕ) → Spot → State → Done → Type 0
  Keeps = KeepsBy p place_of (core_of d) d.scheme Stood

  abbrev pub Gone : (n steps : ℕ) → (m there : Spot) → List Atom → (s to : State) → Type 0
  Gone = HasGone p place_of (core_of d) d.scheme Stood

  -- an act's code does its act in at most so many steps
  abbrev pub DoesIn : (keeps : Bool) → (most : State → ℕ) → Act → (Asks : Spot → State → Type 0) → Type 0
  DoesIn keeps most a Asks =
      (next : ℕ) (m : Spot) (s : State) → IsWellFormed (core_of d) → Lie p m.pc (act_code (frame_of d number) keeps a m.pc next) → AreRelated p d (has_begun a) m s → Asks m s
      → Ends p place_of d a (most s) (way_at (frame_of d number) a m.pc next) m s (act_done d a s)

  -- it leaves what is known anywhere, unless it commits
  pub known_behind : (n steps : ℕ) (m there : Spot) (atoms : List Atom) (s to : State) → Known n m s → Gone n steps m there atoms s to → task_behind (steps_seen (core_of d) d.scheme atoms s) s.task ≡ s.task → Known (n - steps) there to
  known_behind n steps m there atoms s to known gone same = common_same p place_of d.setting.rules d.scheme number n steps m there atoms s to known gone same

  pub later : (n steps : ℕ) (m there : Spot) (atoms : List Atom) (s to : State) → Gone n steps m there atoms s to → m.clock ≤ there.clock
  later n steps m there atoms s to gone = let clock : there.clock ≡ m.clock + steps = gone.clock in omega (arith, clock)

  module _ (well : IsWellFormed (core_of d)) (here : task_of (core_of d) number ≡ Some d.setting.task) where
    -- what is recorded may be followed
    pub may_follow : (n : ℕ) (m : Spot) (s : State) → Known n m s → MayFollow d m.clock s
    may_follow n m s known = follow_of d m.clock s (follows_here p place_of d.setting.rules d.scheme number n m s d.setting.task here known)

    pub placed : (keeps : Bool) (Before : ℕ → Spot → State → Type 0) (After : Way → ℕ → Spot → State → Type 0) (Asks Misses : Spot → State → Type 0) (most : State → ℕ) (a : Act) (at next : ℕ) → DoesIn keeps most a Asks
        → CutsAct p place_of d number keeps a Misses → ((n : ℕ) (m : Spot) (s : State) → Before n m s → Known n m s)
        → ((n : ℕ) (m : Spot) (s : State) → AreRelated p d (has_begun a) m s → Before n m s → Asks m s × Misses m s)
        → ((n : ℕ) (m : Spot) (s : State) → AreRelated p d (has_begun a) m s → Before n m s → Keeps After n m s (act_done d a s))
        → Lie p at (act_code (frame_of d number) keeps a at next) → RunsIn p place_of d number Stood Before After most a at next
    placed keeps Before After Asks Misses most a at next act cuts knows asks leaves has =
        runs_in p place_of d number Stood Before After most a at next (λ n m s pc related before.
        let lies : Lie p m.pc (act_code (frame_of d number) keeps a m.pc next) = subst (λ w. Lie p w (act_code (frame_of d number) keeps a w next)) (sym pc) has in
        let known : Known n m s = knows n m s before in
        let both : Asks m s × Misses m s = asks n m s related before in
        record {
          ends = subst (λ w. Ends p place_of d a (most s) (way_at (frame_of d number) a w next) m s (act_done d a s)) pc (act next m s well lies related both.0);
          cuts = cuts next m s well lies related (ap (task_of (core_of d)) known.task ∙ here) (may_follow n m s known) both.1;
          keeps = leaves n m s related before;
        })
