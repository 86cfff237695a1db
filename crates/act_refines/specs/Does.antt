-- What it means that an act's code does its act.
use Rattle.std.specs.Prelude.{List, ◌≡◌, ◌≢◌, ℕ, ◌+◌, ◌%◌, ◌^◌, ◌<◌, ◌≤◌, ⊤, Option, Some, None, Ok, Bool, true, false, length}
use Rattle.std.specs.List.{AllByRecursion}
use Rattle.devices.specs.Journal.{Place}
use Rattle.task_ast.specs.declared.core_form.Core.{Core}
use Rattle.task_ast.specs.declared.core_form.CoreTask.{CoreTask}
use Rattle.task_ast.specs.declared.core_form.CoreTarget.{CoreTarget}
use Rattle.task_ast.specs.WellFormed.{IsWellFormed}
use Rattle.walk_run.specs.declared.place.Place as walked
use Rattle.io_flow.specs.Written.{AllWithin}
use Rattle.task_ast.specs.Pointing.{pointing}
use Rattle.task_ast.specs.declared.core_form.CoreStmt.{CoreStmt}
use Rattle.walk_run.specs.PlainSteps.{plain_steps}
use Rattle.walk_run.specs.PlainWrites.{Write, plain_writes, points, sets}
use Rattle.walk_run.specs.Value.{target_place}
use Rattle.task_attempts.specs.Told.{next_look}
use Rattle.walk_run.specs.Trap.{code_of}
use Rattle.word_machine.specs.State.{Program}
use Rattle.word_machine.specs.Step.{exec}
use Rattle.word_machine.specs.Straight.{Spot, live}
use Rattle.word_machine.specs.Traces as trace
use Rattle.word_machine.specs.declared.ending.Ending.TheVariants.{Trapped}
use Rattle.line_code.specs.Areas.{areas_from, free_at_first}
use Rattle.line_code.specs.Sizes.{expr_size}
use Rattle.run_plan.specs.declared.act.Act.{Act}
use Rattle.run_plan.specs.declared.act.Act.TheVariants as act
use Rattle.run_plan.specs.Cells.{State}
use Rattle.run_plan.specs.Deeds.{act_done}
use Rattle.run_plan.specs.Small.{Doing, Done, Way, ahead, first_way, second_way, third_way, does, fails, stuck, core_of, flag_holds}
use Rattle.run_plan.specs.Weights.{weight}
use Rattle.layout_laws.specs.Layouts.{layout_of}
use Rattle.line_laws.specs.Relation.{base_at, room_at}
use Rattle.line_laws.specs.Standing.{Lie}
use Rattle.word_code.specs.ActCode.{act_code, entry}
use Rattle.word_code.specs.Frames.{Frame, site_at, stub_at}
use Rattle.word_code.specs.Sizes.{row_size}
use Rattle.word_code.specs.Tables.{keeps_size}
use Rattle.act_laws.specs.Codes.{Goes}
use Rattle.cell_laws.specs.Standing.{is_home}
use Rattle.act_refines.specs.Between.{AreRelated}
use Rattle.act_refines.specs.Seen.{Seen, behind, steps_seen, trace_seen}

-- ---- where an act stands and where it leads

-- what the code of a task goes by, of what its acts go by and its number
abbrev pub frame_of : Doing → (number : ℕ) → Frame
frame_of d number = record { core = core_of d; areas = areas_from free_at_first (core_of d).arrays; task = d.setting.task; number = number; scheme = d.scheme; firsts = d.firsts }

-- the address of a way
abbrev pub way_to : (first second third next : ℕ) → Way → ℕ
way_to first second third next ahead = next
way_to first second third next first_way = first
way_to first second third next second_way = second
way_to first second third next third_way = third

-- where an act's ways lead: into its lists, to the stub of the next task, or to what comes next
abbrev pub way_at : Frame → Act → (at next : ℕ) → Way → ℕ
way_at f (act.Test' c m yes_row n no_row) at next =
    let yes_at = at + expr_size c + 4 in
    way_to (entry yes_row yes_at next) (entry no_row (yes_at + row_size f yes_row) next) next next
way_at f (act.Choose' k m issue_row n keep_row) at next =
    let issue_at = at + keeps_size (site_at f k) + 3 in
    way_to (entry issue_row issue_at next) (entry keep_row (issue_at + row_size f issue_row) next) next next
way_at f (act.Leave' k m row) at next = way_to (entry row (at + 8) next) next next next
way_at f (act.ByClass' k l single_row m private_row n rest_row) at next =
    let private_at = at + 12 + row_size f single_row in
    way_to (entry single_row (at + 12) next) (entry private_row private_at next) (entry rest_row (private_at + row_size f private_row) next) next
way_at f (act.Commit t) at next = λ way. stub_at (length f.core.tasks) t
way_at f a at next = λ way. next

-- ---- before and behind

-- an attempt has begun at each act but those of a boot and the beginning itself
abbrev pub has_begun : Act → Bool
has_begun (act.Restore r) = false
has_begun (act.Begin t) = false
has_begun a = true

-- behind a commit, memory stands for what any next task's attempt begins with
abbrev pub RelatedBehind : Program → Doing → Act → Spot → State → Type 0
RelatedBehind p d (act.Restore r) m s = AreRelated p d false m s
RelatedBehind p d (act.Commit next) m s = (t : CoreTask) (firsts : List (List ℕ)) → AreRelated p (record d { setting = record d.setting { task = t }; firsts = firsts }) false m s
RelatedBehind p d a m s = AreRelated p d true m s

-- ---- what the machine does

-- in so many steps at most it comes to an address, having shown just this, and is related there
pub record GoesOn (p : Program) (place_of : ℕ → Place) (most : ℕ) (m : Spot) (pc : ℕ) (seen : List Seen) (Related : Spot → Type 0) : Type 0 where
  pub steps : ℕ
  pub few : steps ≤ most
  pub there : Spot
  pub atoms : List trace.Atom
  pub goes : Goes p steps m there atoms
  pub at : there.pc ≡ pc
  pub shown : trace_seen place_of atoms ≡ seen
  pub related : Related there

-- or it traps, having shown just this
pub record Stops (p : Program) (place_of : ℕ → Place) (most : ℕ) (m : Spot) (code : ℕ) (seen : List Seen) : Type 0 where
  pub steps : ℕ
  pub few : steps ≤ most
  pub ended : (exec p steps (live m)).ending ≡ Trapped code
  pub shown : trace_seen place_of (trace.trace p steps (live m)) ≡ seen

-- as the act ends: its small steps are seen in order, and then it goes its way, or to its trap
abbrev pub Ends : Program → (ℕ → Place) → Doing → Act → (most : ℕ) → (to : Way → ℕ) → Spot → State → Done → Type 0
Ends p place_of d a most to m s (does atoms change way) =
    GoesOn p place_of most m (to way) (steps_seen (core_of d) d.scheme atoms s) (λ there. RelatedBehind p d a there (change (behind (core_of d) atoms s)))
Ends p place_of d a most to m s (fails atoms why) = Stops p place_of most m (code_of why) (steps_seen (core_of d) d.scheme atoms s)
Ends p place_of d a most to m s stuck = ⊤

-- An act's code does its act, wherever it stands: at its top, where the machine is related to a state of which this is asked, it
-- shows in at most the act's weight of steps the writes and events of the act's small steps, in order and nothing else, and comes
-- to where the act goes on, related to the state behind them; or to the act's trap.
abbrev pub DoesAct : Program → (ℕ → Place) → Doing → (number : ℕ) → (keeps : Bool) → Act → (Asks : Spot → State → Type 0) → Type 0
DoesAct p place_of d number keeps a Asks =
    (next : ℕ) (m : Spot) (s : State) → IsWellFormed (core_of d) → Lie p m.pc (act_code (frame_of d number) keeps a m.pc next) → AreRelated p d (has_begun a) m s → Asks m s
    → Ends p place_of d a (weight d a s) (way_at (frame_of d number) a m.pc next) m s (act_done d a s)

-- nothing is asked
abbrev pub Nothing : Spot → State → Type 0
Nothing m s = ⊤

-- the next of the plan's looks is the machine's clock
abbrev pub IsDue : Spot → State → Type 0
IsDue m s = next_look s.looks ≡ m.clock % 2 ^ 32

-- a site's record doesn't hold, and it does
abbrev pub IsFree : (site : ℕ) → Spot → State → Type 0
IsFree k m s = s.cells.flag k ≢ s.epoch

abbrev pub Holds : (site : ℕ) → Spot → State → Type 0
Holds k m s = s.cells.flag k ≡ s.epoch

-- the next epoch fits the state word
abbrev pub MayCommit : Spot → State → Type 0
MayCommit m s = s.epoch + 1 < 2 ^ 24

-- the last look's time is no earlier than the stamp of a site's record that holds
abbrev pub IsEarlier : (site : ℕ) → Spot → State → Type 0
IsEarlier k m s = s.cells.flag k ≡ s.epoch → (t : ℕ) → s.frame.time ≡ Some t → s.cells.stamp k ≤ t

-- the record holds exactly where the act is among those that keep
abbrev pub IsAsKept : (keeps : Bool) → (site : ℕ) → Spot → State → Type 0
IsAsKept keeps k m s = flag_holds s k ≡ keeps

-- arrays of nonvolatile words that are written
abbrev pub AreHomes : Core → List ℕ → Type 0
AreHomes c arrays = AllByRecursion (λ a. is_home c a ≡ true) arrays

-- a place that may be written: it is there, and no constant
pub record IsWritable (c : Core) (at : walked.Place) : Type 0 where
  pub inside : at.index < room_at (layout_of c 0) at.array
  pub written : base_at (layout_of c 0) at.array ≢ 0

-- so is the place of a target, where it has one
abbrev pub AimsWell : Core → CoreTarget → Spot → State → Type 0
AimsWell c target m s = (at : walked.Place) → target_place target s.store ≡ Ok at → IsWritable c at

-- so many arguments were noted
abbrev pub IsCalledWith : (count : ℕ) → Spot → State → Type 0
IsCalledWith n m s = (words : List ℕ) → s.frame.args ≡ Some words → length words ≡ n

-- a write that a statement may make: a word to a place that may be written, or a place to a pointer
abbrev pub IsGoodWrite : Core → Write → Type 0
IsGoodWrite c (sets at word) = IsWritable c at × (word < 2 ^ 32)
IsGoodWrite c (points p at) = ⊤

-- a statement takes a step, its pointers point where the task lets them, and it makes only such writes
pub record StatementFits (d : Doing) (x : CoreStmt) (m : Spot) (s : State) : Type 0 where
  pub some : 0 < plain_steps x s.store
  pub within : AllWithin (pointing d.setting.task) s.store
  pub well : AllByRecursion (IsGoodWrite (core_of d)) (plain_writes x s.store)

-- whether a call that was valued has a target
abbrev pub is_aimed : Option walked.Place → Bool
is_aimed None = false
is_aimed (Some at) = true

abbrev pub HasAim : Bool → Spot → State → Type 0
HasAim has m s = (o : Option walked.Place) → s.frame.target ≡ Some o → is_aimed o ≡ has
