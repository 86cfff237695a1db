-- What outlives a power failure, as it stands for a state of the plan, and how far a run has come (docs/CODE.md, "Cuts").
use Rattle.std.specs.Prelude.{List, [], ◌∷◌, ◌≡◌, ◌≢◌, ℕ, ◌+◌, ◌-◌, ◌<◌, ◌≤◌, ◌⊎◌, ⊤, drop, false, length, slice_get, Option, Some, None}
use Rattle.devices.specs.Journal.{JournalEvent, begins, looks, keeps, drops, issues, seals, copies, commits, traps}
use Rattle.task_ast.specs.declared.core_form.Core.{Core}
use Rattle.task_ast.specs.declared.core_form.CoreTask.{CoreTask}
use Rattle.task_ast.specs.declared.core_form.Site.{Site}
use Rattle.task_ast.specs.declared.core_form.Site.TheVariants as site
use Rattle.task_attempts.specs.Boots.{task_of}
use Rattle.task_attempts.specs.State.{Rules}
use Rattle.walk_run.specs.declared.place.Place.{Place}
use Rattle.word_isa.specs.declared.parts.Scheme.{Scheme}
use Rattle.word_machine.specs.State as machine
use Rattle.word_machine.specs.State.{Program}
use Rattle.run_plan.specs.Cells.{State}
use Rattle.run_plan.specs.Deeds.{next_bank}
use Rattle.run_plan.specs.Small.{Doing, core_of}
use Rattle.run_plan.specs.Words.{kept_at}
use Rattle.line_laws.specs.Relation.{base_at, room_at}
use Rattle.layout_laws.specs.Layouts.{layout_of}
use Rattle.cell_laws.specs.Standing.{IsSite}
use Rattle.act_refines.specs.Between.{MemoryStands}
use Rattle.act_refines.specs.Seen.{Seen, puts, tells}

-- ---- what lasts

-- a task that may run next: the one that is next, and where none is, any
abbrev pub MayRun : Core → (number : ℕ) → CoreTask → Type 0
MayRun c number t = (task_of c number ≡ Some t) ⊎ (task_of c number ≡ None)

-- what its acts go by, as far as memory stands for it
abbrev pub doing_of : Rules → Scheme → CoreTask → Doing
doing_of rules scheme t = record { setting = record { rules = rules; task = t }; scheme = scheme; firsts = [] }

-- A copy's record that may be followed: its class and its destination are there, and its words have room there and among the kept
-- words; the destination is a place of its array, also where there are no words, and it isn't constant.
pub record CopyHolds (d : Doing) (k : ℕ) (s : State) : Type 0 where
  pub class : s.cells.class k ≢ None
  pub to : Place
  pub there : s.cells.to k ≡ Some to
  pub starts : to.index < room_at (layout_of (core_of d) 0) to.array
  pub inside : to.index + s.cells.length k ≤ room_at (layout_of (core_of d) 0) to.array
  pub written : base_at (layout_of (core_of d) 0) to.array ≢ 0
  pub room : kept_at d k + s.cells.length k ≤ 16384

-- the record of what stands at a site
abbrev pub RecordHolds : Doing → (site : ℕ) → State → Option Site → Type 0
RecordHolds d k s (Some (site.Io ann)) = ⊤
RecordHolds d k s (Some (site.Block ann)) = ⊤
RecordHolds d k s (Some (site.Copy most)) = CopyHolds d k s
RecordHolds d k s None = ⊤

-- Records may be followed where they hold, and none was stamped later than this time.
pub record MayFollow (d : Doing) (now : ℕ) (s : State) : Type 0 where
  pub records : (k : ℕ) → IsSite k → s.cells.flag k ≡ s.epoch → RecordHolds d k s (slice_get d.setting.task.sites (k - 1))
  pub past : (k : ℕ) → s.cells.stamp k ≤ now

-- FRAM and the counts of issues stand for a state, and what is recorded may be followed
pub record LastsFor (p : Program) (d : Doing) (e : machine.State) (s : State) : Type 0 where
  pub memory : MemoryStands p d false e.store e.issued s
  pub follows : MayFollow d e.clock s

-- so it is for whichever task may run next
abbrev pub Lasts : Program → Rules → Scheme → machine.State → State → Type 0
Lasts p rules scheme e s = (t : CoreTask) → MayRun rules.core s.task t → LastsFor p (doing_of rules scheme t) e s

-- ---- how far a run has come

-- the next task and the looks that are left, behind an event
abbrev pub task_by : JournalEvent → ℕ → ℕ
task_by (begins t) task = task
task_by (looks k t) task = task
task_by (keeps k value) task = task
task_by (drops k) task = task
task_by (issues k p args reading) task = task
task_by (seals k) task = task
task_by (copies k from to n) task = task
task_by (commits next) task = next
task_by (traps code) task = task

abbrev pub looks_by : JournalEvent → List ℕ → List ℕ
looks_by (begins t) times = times
looks_by (looks k t) times = drop 1 times
looks_by (keeps k value) times = times
looks_by (drops k) times = times
looks_by (issues k p args reading) times = times
looks_by (seals k) times = times
looks_by (copies k from to n) times = times
looks_by (commits next) times = times
looks_by (traps code) times = times

-- the bank behind an event: a commit goes on in the next
abbrev pub bank_by : Scheme → JournalEvent → ℕ → ℕ
bank_by scheme (begins t) bank = bank
bank_by scheme (looks k t) bank = bank
bank_by scheme (keeps k value) bank = bank
bank_by scheme (drops k) bank = bank
bank_by scheme (issues k p args reading) bank = bank
bank_by scheme (seals k) bank = bank
bank_by scheme (copies k from to n) bank = bank
bank_by scheme (commits next) bank = next_bank scheme bank
bank_by scheme (traps code) bank = bank

-- and behind all that is seen
abbrev pub task_behind : List Seen → ℕ → ℕ
task_behind [] task = task
task_behind (puts at word ∷ seen) task = task_behind seen task
task_behind (tells e ∷ seen) task = task_behind seen (task_by e task)

abbrev pub looks_behind : List Seen → List ℕ → List ℕ
looks_behind [] times = times
looks_behind (puts at word ∷ seen) times = looks_behind seen times
looks_behind (tells e ∷ seen) times = looks_behind seen (looks_by e times)

abbrev pub bank_behind : Scheme → List Seen → ℕ → ℕ
bank_behind scheme [] bank = bank
bank_behind scheme (puts at word ∷ seen) bank = bank_behind scheme seen bank
bank_behind scheme (tells e ∷ seen) bank = bank_behind scheme seen (bank_by scheme e bank)

-- From one state to another in so many machine steps, which show this: each step commits once at most, the next task is the one
-- that the last commit told and one of the program's, the bank changes with each commit, and the looks that were shown are used up.
pub record IsNear (c : Core) (scheme : Scheme) (n : ℕ) (seen : List Seen) (s to : State) : Type 0 where
  pub epoch : to.epoch ≤ s.epoch + n
  pub task : to.task ≡ task_behind seen s.task
  pub bank : to.bank ≡ bank_behind scheme seen s.bank
  pub looks : to.looks ≡ looks_behind seen s.looks
  pub there : s.task ≤ length c.tasks → to.task ≤ length c.tasks
