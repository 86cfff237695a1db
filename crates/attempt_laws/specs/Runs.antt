-- What the commits of whole runs show, and what the unbroken run shows with their readings.
use Rattle.std.specs.Prelude.{◌≡◌, ℕ, suc, ◌+◌, ⊤, List, [], ◌∷◌, ◌++◌, flat_map}
use Rattle.task_ast.specs.declared.core_form.CoreStmt.{CoreStmt, Row_of-CoreStmt, end_of-CoreStmt, more_of-CoreStmt}
use Rattle.task_ast.specs.declared.core_form.CoreStmt.TheVariants as stmt
use Rattle.task_ast.specs.declared.core_form.Site.{Site}
use Rattle.task_ast.specs.declared.core_form.Core.{Core}
use Rattle.walk_run.specs.declared.walked.State.{State}
use Rattle.walk_run.specs.declared.walked.Walked.{Walked}
use Rattle.walk_run.specs.Store.{Store}
use Rattle.walk_run.specs.Walk.{state_of, with_state, unless_stopped}
use Rattle.walk_run.specs.declared.trap.Trap.{Trap}
use Rattle.walk_run.specs.Trap.{code_of}
use Rattle.devices.specs.Journal.{JournalEvent, commits, traps}
use Rattle.task_attempts.specs.Boots.{events_in}
use Rattle.task_attempts.specs.State.{Standing, Log}
use Rattle.task_attempts.specs.Calls.{site_at}
use Rattle.task_attempts.specs.Journals.{if_reading, idle, trapped_in}

-- the state behind a commit: the next task, and the nonvolatile words then
abbrev pub state_in : Core → JournalEvent → Standing → List State
state_in c (commits next) s = state_of c next s.committed ∷ []
state_in c e s = []

-- those of a log
abbrev pub states_in : Core → Log → List State
states_in c [] = []
states_in c (l ∷ log) = state_in c l.event l.after ++ states_in c log

-- those of all boots
abbrev pub all_states : Core → List Log → List State
all_states c boots = flat_map (states_in c) boots

-- a commit counts
abbrev pub counted : JournalEvent → ℕ → ℕ
counted (commits next) n = suc n
counted e n = n

-- the number of commits of a log
abbrev pub commits_in : Log → ℕ
commits_in [] = 0
commits_in (l ∷ log) = counted l.event (commits_in log)

-- that of all boots
abbrev pub all_commits : List Log → ℕ
all_commits [] = 0
all_commits (boot ∷ boots) = commits_in boot + all_commits boots

-- a commit adds its state
abbrev pub course_at : Core → JournalEvent → Standing → Walked → Walked
course_at c (commits next) s rest = with_state (state_of c next s.committed) (unless_stopped next rest)
course_at c e s rest = rest

-- the states that a log's commits show, and behind them what comes from the next task and the committed store there
abbrev pub course : Core → (end : ℕ → Store → Walked) → (next : ℕ) → Store → Log → Walked
course c end next base [] = end next base
course c end next base (l ∷ log) = course_at c l.event l.after (course c end l.after.next l.after.committed log)

-- those of all boots
abbrev pub all_courses : Core → (end : ℕ → Store → Walked) → (next : ℕ) → Store → List Log → Walked
all_courses c end next base [] = end next base
all_courses c end next base (boot ∷ boots) = course c (λ next base. all_courses c end next base boots) next base boot

-- what stands at a site is a call, whose value is a reading; or not
abbrev pub IsCallAt : List Site → (site : ℕ) → Type 0
IsCallAt sites k = (v : ℕ) → if_reading (site_at sites k) v ≡ v ∷ []

abbrev pub IsNoCallAt : List Site → (site : ℕ) → Type 0
IsNoCallAt sites k = (v : ℕ) → if_reading (site_at sites k) v ≡ []

abbrev mutual
  -- the table of sites has each call of a statement as one, and no copy
  pub Tells : List Site → CoreStmt → Type 0
  Tells sites (stmt.Assign target e) = ⊤
  Tells sites (stmt.Point pointer array index) = ⊤
  Tells sites (stmt.If' c m yes_row n no_row) = RowTells sites yes_row × RowTells sites no_row
  Tells sites (stmt.Loop' variable turns m row) = ⊤
  Tells sites (stmt.Io k target peripheral args) = IsCallAt sites k
  Tells sites (stmt.Block' k m row) = RowTells sites row
  Tells sites (stmt.Copy k to from words) = IsNoCallAt sites k

  -- of a row's statements
  pub RowTells : List Site → {n : _} → Row_of-CoreStmt n → Type 0
  RowTells sites end_of-CoreStmt = ⊤
  RowTells sites (more_of-CoreStmt s rest) = Tells sites s × RowTells sites rest

-- of statements
abbrev pub AllTell : List Site → List CoreStmt → Type 0
AllTell sites [] = ⊤
AllTell sites (s ∷ rest) = Tells sites s × AllTell sites rest

-- a log ends by a trap with this code
abbrev pub EndsByTrap : (code : ℕ) → Log → Type 0
EndsByTrap code [] = ⊥
EndsByTrap code (l ∷ []) = l.event ≡ traps code
EndsByTrap code (l ∷ m ∷ log) = EndsByTrap code (m ∷ log)

-- the last boot ends by a trap
abbrev pub LastTraps : Trap → List Log → Type 0
LastTraps why [] = ⊥
LastTraps why (boot ∷ []) = EndsByTrap (code_of why) boot
LastTraps why (boot ∷ next ∷ boots) = LastTraps why (next ∷ boots)

-- the readings of the attempt that traps in the last boot
abbrev pub last_trapped : Core → List Log → List ℕ
last_trapped c [] = []
last_trapped c (boot ∷ []) = trapped_in c idle (events_in boot)
last_trapped c (boot ∷ next ∷ boots) = last_trapped c (next ∷ boots)
