-- A plan's run: the small steps of a boot as a list, each with the state after it; a boot of n small steps takes n of
-- them (docs/PLAN.md, "Runs").
use Rattle.std.specs.Prelude.{ℕ, zero, suc, ◌+◌, Bool, true, false, List, [], ◌∷◌, ◌++◌, take, nat_lt, slice_index_or, Option, Some, None}
use Rattle.task_ast.specs.declared.core_form.CoreTask.{CoreTask}
use Rattle.task_ast.specs.declared.core_form.Core.{Core}
use Rattle.region_split.specs.Regions.{regions}
use Rattle.walk_run.specs.declared.walked.State as walked
use Rattle.walk_run.specs.Trap.{code_of}
use Rattle.walk_run.specs.Store.{shown_words}
use Rattle.devices.specs.Journal.{JournalEvent, begins, looks, keeps, drops, issues, seals, copies, commits, traps}
use Rattle.word_isa.specs.declared.parts.Scheme.{Scheme}
use Rattle.word_isa.specs.declared.parts.Scheme.TheVariants.{Undo, Bank}
use Rattle.task_attempts.specs.State.{Rules}
use Rattle.task_attempts.specs.Boots.{task_of}
use Rattle.run_plan.specs.declared.act.Act.{Act, Row_of-Act, end_of-Act, more_of-Act}
use Rattle.run_plan.specs.declared.act.Act.TheVariants as act
use Rattle.run_plan.specs.declared.parts.Plan.{Plan}
use Rattle.run_plan.specs.Cells.{State, failed, first_state}
use Rattle.run_plan.specs.Small.{Doing, Atom, Way, ahead, first_way, second_way, third_way, Done, does, fails, stuck, showing, ending, after_atom, core_of}
use Rattle.run_plan.specs.Deeds.{act_done}
use Rattle.run_plan.specs.Weights.{weight}

-- A small step of a run: the act that does it, what it does, the state after it, and the weights of the boot's acts that
-- have begun so far.
pub record Small : Type 0 where
  pub act : Act
  pub atom : Atom
  pub after : State
  pub weights : ℕ

abbrev pub Smalls : Type 0
Smalls = List Small

-- between two small steps of a boot
pub record At : Type 0 where
  pub state : State
  pub weights : ℕ

-- the small steps from here on
abbrev pub Onward : Type 0
Onward = At → Smalls

abbrev pub with_state : State → At → At
with_state s at = record at { state = s }

-- no small step
abbrev pub nothing : Onward
nothing at = []

-- one small step of an act, and what comes behind it
abbrev pub small : Core → Act → Atom → Onward → Onward
small c a atom go at = let s = after_atom c atom at.state in record { act = a; atom = atom; after = s; weights = at.weights } ∷ go (with_state s at)

-- small steps, one after another
abbrev pub small_steps : Core → Act → List Atom → Onward → Onward
small_steps c a [] go = go
small_steps c a (atom ∷ atoms) go = small c a atom (small_steps c a atoms go)

-- an act's end changes what is volatile, as a small step of its own
abbrev pub act_end : Core → Act → (State → State) → Onward → Onward
act_end c a change go at = small c a ending go (with_state (change at.state) at)

-- the small steps of an act and then the way that it goes; behind a trap, or where it misses something, nothing
abbrev pub deed : Core → Act → Done → (Way → Onward) → Onward
deed c a (does atoms change way) go = small_steps c a atoms (act_end c a change (go way))
deed c a (fails atoms why) go = small_steps c a (atoms ++ showing (traps (code_of why)) ∷ []) nothing
deed c a stuck go = nothing

-- an act begins, and its weight counts
abbrev pub act_steps : Doing → Act → (Way → Onward) → Onward
act_steps d a go at = deed (core_of d) a (act_done d a at.state) go (record at { weights = at.weights + weight d a at.state })

-- what comes behind an act without lists of its own
abbrev pub straight : Onward → Way → Onward
straight go way = go

-- one of an act's own lists, or what comes behind it
abbrev pub by_way : (first second third behind : Onward) → Way → Onward
by_way first second third behind ahead = behind
by_way first second third behind first_way = first
by_way first second third behind second_way = second
by_way first second third behind third_way = third

-- a region that the running task hasn't isn't restored
abbrev pub if_there : Bool → (there absent : Onward) → Onward
if_there true there absent = there
if_there false there absent = absent

abbrev mutual
  -- the small steps of an act, and then those of what comes behind it; a commit goes on with the next attempt
  pub act_run : Doing → (again : Onward) → Act → Onward → Onward
  act_run d again (act.Restore r) go = if_there (nat_lt r (regions d.setting.task)) (act_steps d (act.Restore r) (straight go)) go
  act_run d again (act.Begin t) go = act_steps d (act.Begin t) (straight go)
  act_run d again (act.Save r) go = act_steps d (act.Save r) (straight go)
  act_run d again (act.Lock r) go = act_steps d (act.Lock r) (straight go)
  act_run d again (act.Plain x) go = act_steps d (act.Plain x) (straight go)
  act_run d again (act.Test' c m yes_row n no_row) go =
      act_steps d (act.Test' c m yes_row n no_row) (by_way (row_run d again yes_row go) (row_run d again no_row go) go go)
  act_run d again (act.Value k) go = act_steps d (act.Value k) (straight go)
  act_run d again (act.Look k) go = act_steps d (act.Look k) (straight go)
  act_run d again (act.Choose' k m issue_row n keep_row) go =
      act_steps d (act.Choose' k m issue_row n keep_row) (by_way (row_run d again issue_row go) (row_run d again keep_row go) go go)
  act_run d again (act.Drop k) go = act_steps d (act.Drop k) (straight go)
  act_run d again (act.Issue k) go = act_steps d (act.Issue k) (straight go)
  act_run d again (act.Seal k) go = act_steps d (act.Seal k) (straight go)
  act_run d again (act.Take k) go = act_steps d (act.Take k) (straight go)
  act_run d again (act.Write k) go = act_steps d (act.Write k) (straight go)
  act_run d again (act.Enter k) go = act_steps d (act.Enter k) (straight go)
  act_run d again (act.Leave' k m row) go = act_steps d (act.Leave' k m row) (by_way (row_run d again row go) go go go)
  act_run d again (act.ByClass' k l single_row m private_row n rest_row) go =
      act_steps d (act.ByClass' k l single_row m private_row n rest_row) (by_way (row_run d again single_row go) (row_run d again private_row go) (row_run d again rest_row go) go)
  act_run d again (act.Transfer k leg) go = act_steps d (act.Transfer k leg) (straight go)
  act_run d again (act.KeepWords k) go = act_steps d (act.KeepWords k) (straight go)
  act_run d again (act.PutWords k) go = act_steps d (act.PutWords k) (straight go)
  act_run d again (act.Commit next) go = act_steps d (act.Commit next) (straight again)

  -- those of a row's acts, one after another
  pub row_run : Doing → (again : Onward) → {n : _} → Row_of-Act n → Onward → Onward
  row_run d again end_of-Act go = go
  row_run d again (more_of-Act a rest) go = act_run d again a (row_run d again rest go)

-- those of acts, one after another
abbrev pub acts_run : Doing → (again : Onward) → List Act → Onward → Onward
acts_run d again [] go = go
acts_run d again (a ∷ rest) go = act_run d again a (acts_run d again rest go)

-- what a run goes by
pub record Planned : Type 0 where
  pub rules : Rules
  pub plan : Plan

-- what stands at the number of a task, from 1
abbrev pub at_task : {A : Type 0} → List A → (number : ℕ) → A → A
at_task xs zero default = default
at_task xs (suc n) default = slice_index_or xs n default

-- what the acts of a task go by
abbrev pub doing : Planned → (number : ℕ) → CoreTask → Doing
doing p number t = record { setting = record { rules = p.rules; task = t }; scheme = p.plan.scheme; firsts = at_task p.plan.firsts number [] }

-- an attempt of the running task, where there is one
abbrev pub attempt_if_there : Planned → (again : Onward) → (number : ℕ) → Option CoreTask → Onward
attempt_if_there p again number None = nothing
attempt_if_there p again number (Some t) = acts_run (doing p number t) again (at_task p.plan.tasks number []) nothing

-- at most so many attempts, one after another
abbrev pub attempts : Planned → (attempts : ℕ) → Onward
attempts p zero at = []
attempts p (suc n) at = attempt_if_there p (attempts p n) at.state.task (task_of p.rules.core at.state.task) at

-- what a boot restores of the running task comes before its attempts
abbrev pub restoring_if_there : Planned → (behind : Onward) → (number : ℕ) → Option CoreTask → Onward
restoring_if_there p behind number None = nothing
restoring_if_there p behind number (Some t) = acts_run (doing p number t) nothing p.plan.boot behind

-- where a boot begins, which may take 64 machine steps before its first act
abbrev pub booted : State → At
booted s = record { state = s; weights = 64 }

-- The small steps of a boot while the power lasts. Each attempt has at least one, so as many attempts as small steps are
-- asked for are enough.
unfoldable pub boot_run : Planned → (n : ℕ) → State → Smalls
boot_run p n s = restoring_if_there p (attempts p n) s.task (task_of p.rules.core s.task) (booted s)

-- the state after small steps
abbrev pub after : State → Smalls → State
after s [] = s
after s (x ∷ xs) = after x.after xs

-- the small steps of a boot whose power fails behind so many, and what it leaves
abbrev pub cut_run : Planned → (n : ℕ) → State → Smalls
cut_run p n s = take n (boot_run p n s)

abbrev pub left_by : Planned → (n : ℕ) → State → State
left_by p n s = failed p.rules.core (after s (cut_run p n s))

-- boots of so many small steps each, one after another from a state
unfoldable pub boots_run : Planned → (numbers : List ℕ) → State → List Smalls
boots_run p [] s = []
boots_run p (n ∷ numbers) s = cut_run p n s ∷ boots_run p numbers (left_by p n s)

-- before the first boot
abbrev pub started : Planned → (times : List ℕ) → State
started p times = failed p.rules.core (first_state p.rules.core p.plan.scheme times)

-- the boots of a plan's run with these looks
abbrev pub plan_run : Planned → (numbers times : List ℕ) → List Smalls
plan_run p numbers times = boots_run p numbers (started p times)

-- ---- what a run shows

-- what is made of an event, if there is one, before the rest
abbrev pub at_event : {A : Type 0} → (JournalEvent → Small → A) → Option JournalEvent → Small → List A → List A
at_event f None x rest = rest
at_event f (Some e) x rest = f e x ∷ rest

-- what is made of the events of small steps, in order
abbrev pub at_events : {A : Type 0} → (JournalEvent → Small → A) → Smalls → List A
at_events f [] = []
at_events f (x ∷ xs) = at_event f x.atom.event x (at_events f xs)

-- the events, and the weights begun up to each
abbrev pub shown_events : Smalls → List JournalEvent
shown_events xs = at_events (λ e x. e) xs

abbrev pub event_weights : Smalls → List ℕ
event_weights xs = at_events (λ e x. x.weights) xs

-- the words of the committed homes: under `bank` they are aside
abbrev pub committed_words : Scheme → Core → State → List (List ℕ)
committed_words Undo c s = shown_words c.arrays s.store.words
committed_words Bank c s = shown_words c.arrays s.aside

-- a commit's state before the rest, if it is one
abbrev pub if_commit : Option JournalEvent → walked.State → List walked.State → List walked.State
if_commit None state rest = rest
if_commit (Some (begins task)) state rest = rest
if_commit (Some (looks k t)) state rest = rest
if_commit (Some (keeps k value)) state rest = rest
if_commit (Some (drops k)) state rest = rest
if_commit (Some (issues k p args reading)) state rest = rest
if_commit (Some (seals k)) state rest = rest
if_commit (Some (copies k from to n)) state rest = rest
if_commit (Some (commits next)) state rest = state ∷ rest
if_commit (Some (traps code)) state rest = rest

-- the next task and the committed homes after each commit, as the unbroken run shows them
abbrev pub commit_states : Planned → Smalls → List walked.State
commit_states p [] = []
commit_states p (x ∷ xs) = if_commit x.atom.event (record { next = x.after.task; words = committed_words p.plan.scheme p.rules.core x.after }) (commit_states p xs)
