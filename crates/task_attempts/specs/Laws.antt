-- What holds of every log, whatever the program.
use Rattle.std.specs.Prelude.{◌≡◌, ℕ, ◌≤◌, ⊤, List, [], ◌∷◌, ◌++◌, length, map, take, None}
use Rattle.std.specs.List.{AllByRecursion}
use Rattle.walk_run.specs.Store.{Store}
use Rattle.devices.specs.Journal.{JournalEvent, commits, traps}
use Rattle.word_isa.specs.declared.parts.Scheme.{Scheme}
use Rattle.task_attempts.specs.State.{Standing, Logged, Log}

-- the last of some things is such
abbrev pub EndsWith : {A : Type 0} → (A → Type 0) → List A → Type 0
EndsWith P [] = ⊥
EndsWith P (x ∷ []) = P x
EndsWith P (x ∷ y ∷ rest) = EndsWith P (y ∷ rest)

-- under a scheme the steps never fall, and are at least so many
abbrev pub Rises : Scheme → (least : ℕ) → Log → Type 0
Rises scheme least [] = ⊤
Rises scheme least (l ∷ log) = (least ≤ l.steps scheme) × Rises scheme (l.steps scheme) log

-- an event with which an attempt is over
abbrev pub IsOver : JournalEvent → Type 0
IsOver (commits next) = ⊤
IsOver (traps code) = ⊤
IsOver e = ⊥

-- an attempt's log has at least two events and ends by a commit or a trap
pub record IsWhole (log : Log) : Type 0 where
  pub ends : EndsWith (λ l. IsOver l.event) log
  pub events : 2 ≤ length log

-- no site has a record after a commit
abbrev pub IsCleared : JournalEvent → Standing → Type 0
IsCleared (commits next) s = (k : ℕ) → s.account.records k ≡ None
IsCleared e s = ⊤

-- none has after any commit of a log
abbrev pub LeaveNoRecord : Log → Type 0
LeaveNoRecord log = AllByRecursion (λ l. IsCleared l.event l.after) log

-- behind a commit its task is next; behind another event store and next task are as before
abbrev pub Stays : Store → (next : ℕ) → JournalEvent → Standing → Type 0
Stays store next (commits task) s = s.next ≡ task
Stays store next e s = (s.committed ≡ store) × (s.next ≡ next)

-- so it is along a log
abbrev pub AllStay : Store → (next : ℕ) → Log → Type 0
AllStay store next [] = ⊤
AllStay store next (l ∷ log) = Stays store next l.event l.after × AllStay l.after.committed l.after.next log

-- two logs have the same first events, with all that is said of them
pub record AreAlike (n : ℕ) (a b : Log) : Type 0 where
  pub same : take n a ≡ take n b

-- an event and the standing after it, whatever steps it may take
pub record Seen : Type 0 where
  pub event : JournalEvent
  pub after : Standing

-- what is seen of a log
abbrev pub seen : Logged → Seen
seen l = record { event = l.event; after = l.after }

abbrev pub seen_in : Log → List Seen
seen_in log = map seen log

-- a commit
abbrev pub IsCommit : JournalEvent → Type 0
IsCommit (commits next) = ⊤
IsCommit e = ⊥

-- a log ends by a commit
abbrev pub EndsByCommit : Log → Type 0
EndsByCommit log = EndsWith (λ l. IsCommit l.event) log

-- of some lists the first two as one
abbrev pub first_two_as_one : {A : Type 0} → List (List A) → List (List A)
first_two_as_one [] = []
first_two_as_one (x ∷ []) = x ∷ []
first_two_as_one (x ∷ y ∷ rest) = (x ++ y) ∷ rest

-- nothing comes behind a trap
abbrev pub IsLast : JournalEvent → (behind : Log) → Type 0
IsLast (traps code) behind = behind ≡ []
IsLast e behind = ⊤

abbrev pub TrapsAreLast : Log → Type 0
TrapsAreLast [] = ⊤
TrapsAreLast (l ∷ log) = IsLast l.event log × TrapsAreLast log
