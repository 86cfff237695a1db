-- How the machine's steps follow a plan's small steps: what is seen so far is what some number of them show, cut anywhere.
use Rattle.std.specs.Prelude.{List, [], ◌∷◌, ◌++◌, ◌≡◌, ◌≢◌, ℕ, ◌+◌, ◌-◌, ◌<◌, ◌≤◌, ◌⊎◌, ⊤, true, false, length}
use Rattle.devices.specs.Journal.{Place, traps}
use Rattle.task_ast.specs.declared.core_form.Core.{Core}
use Rattle.task_ast.specs.declared.core_form.CoreTask.{CoreTask}
use Rattle.walk_run.specs.Trap.{code_of}
use Rattle.word_isa.specs.declared.parts.Scheme.{Scheme}
use Rattle.word_machine.specs.State as machine
use Rattle.word_machine.specs.State.{Program}
use Rattle.word_machine.specs.Step.{exec}
use Rattle.word_machine.specs.Straight.{Spot, live}
use Rattle.word_machine.specs.declared.ending.Ending.TheVariants.{Halted}
use Rattle.line_code.specs.Sizes.{expr_size}
use Rattle.run_plan.specs.declared.act.Act.{Act, Row_of-Act, end_of-Act, more_of-Act}
use Rattle.run_plan.specs.declared.act.Act.TheVariants as act
use Rattle.run_plan.specs.Cells.{State}
use Rattle.run_plan.specs.Deeds.{act_done}
use Rattle.run_plan.specs.Runs.{At, Onward}
use Rattle.run_plan.specs.Small.{Atom, Doing, Done, Way, core_of, does, fails, showing, stuck}
use Rattle.run_plan.specs.Weights.{weight}
use Rattle.word_code.specs.ActCode.{acts_entry, entry}
use Rattle.word_code.specs.Frames.{site_at, stub_at}
use Rattle.word_code.specs.Sizes.{act_size, row_size}
use Rattle.word_code.specs.Tables.{keeps_size}
use Rattle.act_refines.specs.Between.{AreRelated}
use Rattle.act_refines.specs.Does.{GoesOn, RelatedBehind, frame_of, has_begun, way_at}
use Rattle.act_refines.specs.Seen.{behind, steps_seen}
use Rattle.code_cuts.specs.Lasting.{IsNear}
use Rattle.code_cuts.specs.Runs.{Cut, shown_by}

-- ---- a run that is cut

-- From an address on, where the machine is related, fewer steps than so many follow what comes there. `Holds` is what is known of
-- the machine with so many steps to go, and of the plan's state.
abbrev pub LeadsFrom : Program → (ℕ → Place) → Core → Scheme → (Stood : machine.State → State → Type 0) → (Holds : ℕ → Spot → State → Type 0) → (Related : Spot → State → Type 0) → (most pc : ℕ) → Onward → Type 0
LeadsFrom p place_of c scheme Stood Holds Related most pc go =
    (n spent : ℕ) (m : Spot) (at : At) → n < most → m.pc ≡ pc → Related m at.state → spent ≤ at.weights → Holds n m at.state → Cut p place_of c scheme Stood n spent m at.state (go at)

-- where a commit leads: to the attempt of the next task, whichever it is
abbrev pub RelatedNext : Program → Doing → (next : ℕ) → Spot → State → Type 0
RelatedNext p d next m s = (s.task ≡ next) × ((t : CoreTask) (firsts : List (List ℕ)) → AreRelated p (record d { setting = record d.setting { task = t }; firsts = firsts }) false m s)

-- ---- an act that is cut

-- an act's small steps in order, the trap of one that traps behind them
abbrev pub atoms_of : Done → List Atom
atoms_of (does atoms change way) = atoms
atoms_of (fails atoms why) = atoms ++ showing (traps (code_of why)) ∷ []
atoms_of stuck = []

-- of what is left of it
abbrev pub IfMore : List Atom → Type 0 → Type 0
IfMore [] claim = ⊤
IfMore (a ∷ atoms) claim = claim

-- an act that hasn't ended has taken fewer steps than its weight; one that traps ends as its trap is seen
abbrev pub IsInTime : Done → (steps weight : ℕ) → (left : List Atom) → Type 0
IsInTime (does atoms change way) n most left = n < most
IsInTime (fails atoms why) n most left = IfMore left (n < most)
IsInTime stuck n most left = IfMore left (n < most)

-- cut within an act, in which no machine halts
pub record Inside (p : Program) (place_of : ℕ → Place) (c : Core) (scheme : Scheme) (Stood : machine.State → State → Type 0) (n most : ℕ) (m : Spot) (s : State) (done : Done) : Type 0 where
  pub front : List Atom
  pub left : List Atom
  pub whole : front ++ left ≡ atoms_of done
  pub shown : shown_by p place_of n m ≡ steps_seen c scheme front s
  pub stood : Stood (exec p n (live m)) (behind c front s)
  pub near : IsNear c scheme n (steps_seen c scheme front s) s (behind c front s)
  pub on : (exec p n (live m)).ending ≢ Halted
  pub in_time : IsInTime done n most left

-- or behind it: it has gone its way, and this holds there with so many steps to go
pub record Passes (p : Program) (place_of : ℕ → Place) (c : Core) (scheme : Scheme) (Holds : ℕ → Spot → State → Type 0) (Related : Spot → State → Type 0) (n most pc : ℕ) (m : Spot) (atoms : List Atom) (s to : State) : Type 0 where
  pub goes : GoesOn p place_of most m pc (steps_seen c scheme atoms s) (λ there. Related there to)
  pub few : goes.steps ≤ n
  pub near : IsNear c scheme goes.steps (steps_seen c scheme atoms s) s to
  pub holds : Holds (n - goes.steps) goes.there to

abbrev pub PassesBy : Program → (ℕ → Place) → Core → Scheme → (Holds : Way → ℕ → Spot → State → Type 0) → (Related : Spot → State → Type 0) → (n most : ℕ) → (to : Way → ℕ) → Spot → State → Done → Type 0
PassesBy p place_of c scheme Holds Related n most to m s (does atoms change way) =
    Passes p place_of c scheme (Holds way) Related n most (to way) m atoms s (change (behind c atoms s))
PassesBy p place_of c scheme Holds Related n most to m s (fails atoms why) = ⊥
PassesBy p place_of c scheme Holds Related n most to m s stuck = ⊥

-- An act's code does its act at an address, cut anywhere, in at most so many steps: so many from its top are within it, or it has
-- gone its way. `Before` is what is known of the machine with so many steps to go, and of the plan's state, and `After` is so behind
-- the act, by the way that it goes.
abbrev pub RunsIn : Program → (ℕ → Place) → Doing → (number : ℕ) → (Stood : machine.State → State → Type 0) → (Before : ℕ → Spot → State → Type 0) → (After : Way → ℕ → Spot → State → Type 0) → (most : State → ℕ) → Act → (at next : ℕ) → Type 0
RunsIn p place_of d number Stood Before After most a at next =
    (n : ℕ) (m : Spot) (s : State) → m.pc ≡ at → AreRelated p d (has_begun a) m s → Before n m s
    → Inside p place_of (core_of d) d.scheme Stood n (most s) m s (act_done d a s)
    ⊎ PassesBy p place_of (core_of d) d.scheme After (RelatedBehind p d a) n (most s) (way_at (frame_of d number) a at next) m s (act_done d a s)

-- within its weight
abbrev pub RunsAt : Program → (ℕ → Place) → Doing → (number : ℕ) → (Stood : machine.State → State → Type 0) → (Before : ℕ → Spot → State → Type 0) → (After : Way → ℕ → Spot → State → Type 0) → Act → (at next : ℕ) → Type 0
RunsAt p place_of d number Stood Before After a at next = RunsIn p place_of d number Stood Before After (weight d a) a at next

-- a commit leaves a step of its weight to the next task's stub
abbrev pub commit_most : State → ℕ
commit_most s = 31

-- whichever way it goes
abbrev pub AnyWay : (ℕ → Spot → State → Type 0) → Way → ℕ → Spot → State → Type 0
AnyWay Holds way = Holds

-- the way that an act goes as it ends
abbrev pub IsWay : Done → Way → Type 0
IsWay (does atoms change way) other = way ≡ other
IsWay (fails atoms why) other = ⊥
IsWay stuck other = ⊥

-- ---- acts in a row

abbrev mutual
  -- an act of an attempt that has begun does so at its place, and so does each act of its lists; it commits to a task, or to the end
  pub ActRuns : Program → (ℕ → Place) → Doing → (number : ℕ) → (Stood : machine.State → State → Type 0) → (Ready : ℕ → ℕ → Spot → State → Type 0) → (Holds : ℕ → Spot → State → Type 0) → Act → (at next : ℕ) → Type 0
  ActRuns p place_of d number Stood Ready Holds (act.Restore r) at next = ⊥
  ActRuns p place_of d number Stood Ready Holds (act.Begin t) at next = ⊥
  ActRuns p place_of d number Stood Ready Holds (act.Test' c m yes_row n no_row) at next =
      let yes_at = at + expr_size c + 4 in
      RunsAt p place_of d number Stood Holds (AnyWay Holds) (act.Test' c m yes_row n no_row) at next
      × RowRuns p place_of d number Stood Ready Holds yes_row yes_at next
      × RowRuns p place_of d number Stood Ready Holds no_row (yes_at + row_size (frame_of d number) yes_row) next
  ActRuns p place_of d number Stood Ready Holds (act.Choose' k m issue_row n keep_row) at next =
      let issue_at = at + keeps_size (site_at (frame_of d number) k) + 3 in
      RunsAt p place_of d number Stood Holds (AnyWay Holds) (act.Choose' k m issue_row n keep_row) at next
      × RowRuns p place_of d number Stood Ready Holds issue_row issue_at next
      × RowRuns p place_of d number Stood Ready Holds keep_row (issue_at + row_size (frame_of d number) issue_row) next
  ActRuns p place_of d number Stood Ready Holds (act.Leave' k m row) at next =
      RunsAt p place_of d number Stood Holds (AnyWay Holds) (act.Leave' k m row) at next
      × RowRuns p place_of d number Stood Ready Holds row (at + 8) next
  ActRuns p place_of d number Stood Ready Holds (act.ByClass' k l single_row m private_row n rest_row) at next =
      let private_at = at + 12 + row_size (frame_of d number) single_row in
      RunsAt p place_of d number Stood Holds (AnyWay Holds) (act.ByClass' k l single_row m private_row n rest_row) at next
      × RowRuns p place_of d number Stood Ready Holds single_row (at + 12) next
      × RowRuns p place_of d number Stood Ready Holds private_row private_at next
      × RowRuns p place_of d number Stood Ready Holds rest_row (private_at + row_size (frame_of d number) private_row) next
  ActRuns p place_of d number Stood Ready Holds (act.Commit t) at next = RunsIn p place_of d number Stood Holds (AnyWay (Ready t)) commit_most (act.Commit t) at next × (t ≤ length (core_of d).tasks)
  ActRuns p place_of d number Stood Ready Holds a at next = RunsAt p place_of d number Stood Holds (AnyWay Holds) a at next

  -- those of a row, each where the row has it and before what comes next in it
  pub RowRuns : Program → (ℕ → Place) → Doing → (number : ℕ) → (Stood : machine.State → State → Type 0) → (Ready : ℕ → ℕ → Spot → State → Type 0) → (Holds : ℕ → Spot → State → Type 0) → {n : _} → Row_of-Act n → (at next : ℕ) → Type 0
  RowRuns p place_of d number Stood Ready Holds end_of-Act at next = ⊤
  RowRuns p place_of d number Stood Ready Holds (more_of-Act a rest) at next =
      let behind_at = at + act_size (frame_of d number) a in
      ActRuns p place_of d number Stood Ready Holds a at (entry rest behind_at next) × RowRuns p place_of d number Stood Ready Holds rest behind_at next

-- those of acts in a list
abbrev pub ActsRun : Program → (ℕ → Place) → Doing → (number : ℕ) → (Stood : machine.State → State → Type 0) → (Ready : ℕ → ℕ → Spot → State → Type 0) → (Holds : ℕ → Spot → State → Type 0) → List Act → (at next : ℕ) → Type 0
ActsRun p place_of d number Stood Ready Holds [] at next = ⊤
ActsRun p place_of d number Stood Ready Holds (a ∷ rest) at next =
    let behind_at = at + act_size (frame_of d number) a in
    ActRuns p place_of d number Stood Ready Holds a at (acts_entry rest behind_at next) × ActsRun p place_of d number Stood Ready Holds rest behind_at next

-- what comes at an address where an attempt has begun, and what comes behind a commit to each task
abbrev pub Leads : Program → (ℕ → Place) → Doing → (Stood : machine.State → State → Type 0) → (Holds : ℕ → Spot → State → Type 0) → (most pc : ℕ) → Onward → Type 0
Leads p place_of d Stood Holds most pc go = LeadsFrom p place_of (core_of d) d.scheme Stood Holds (AreRelated p d true) most pc go

abbrev pub LeadsAgain : Program → (ℕ → Place) → Doing → (Stood : machine.State → State → Type 0) → (Ready : ℕ → ℕ → Spot → State → Type 0) → (most : ℕ) → Onward → Type 0
LeadsAgain p place_of d Stood Ready most again =
    (t : ℕ) → t ≤ length (core_of d).tasks
    → (n spent : ℕ) (m : Spot) (at : At) → n < most → m.pc ≡ stub_at (length (core_of d).tasks) t → RelatedNext p d t m at.state → spent < at.weights → Ready t n m at.state
    → Cut p place_of (core_of d) d.scheme Stood n spent m at.state (again at)
