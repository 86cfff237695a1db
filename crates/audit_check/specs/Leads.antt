-- How events go along a log that the rules give: which of them are its first, and what stands behind these. A log is told by
-- the looks that are still to come, since a look's time is the journal's own.
use Rattle.std.specs.Prelude.{◌≡◌, ◌≢◌, ⊤, ℕ, zero, suc, List, [], ◌∷◌, ◌++◌, Option, Some, None}
use Rattle.devices.specs.Journal.{JournalEvent}
use Rattle.task_attempts.specs.State.{Standing, Logged, Log}
use Rattle.task_attempts.specs.Journals.{look_time}

-- a log by the looks that are still to come
abbrev pub Awaited : Type 0
Awaited = (looks : List ℕ) → Log

-- the same standing, and the same event, with other looks to come
abbrev pub relooked : List ℕ → Standing → Standing
relooked looks s = record s { account = record s.account { looks = looks } }

abbrev pub told_with : List ℕ → Logged → Logged
told_with looks l = record l { after = relooked looks l.after }

-- An event is the next of a log, whatever comes behind it.
pub record IsNext (e : JournalEvent) (f : Awaited) (l : Logged) (g : Awaited) : Type 0 where
  pub event : l.event ≡ e
  pub goes : (looks : List ℕ) → f (look_time e ++ looks) ≡ told_with looks l ∷ g looks

-- what holds of the events that are left, the standing, and the log that is left
abbrev pub End : Type 1
End = List JournalEvent → Standing → Awaited → Type 0

-- So many events are the next of a log, one after another, and behind them an end is reached.
abbrev pub Leads : (n : ℕ) → List JournalEvent → Standing → Awaited → End → Type 0
Leads zero es s f end = end es s f
Leads (suc n) [] s f end = ⊥
Leads (suc n) (e ∷ es) s f end = (l : Logged) × (g : Awaited) × IsNext e f l g × Leads n es l.after g end

-- so it is with some number of events
abbrev pub Reached : List JournalEvent → Standing → Awaited → End → Type 0
Reached es s f end = (n : ℕ) × Leads n es s f end

-- the first event of a log
abbrev pub first_event : Log → Option JournalEvent
first_event [] = None
first_event (l ∷ log) = Some l.event

-- The next event isn't the log's, whatever looks are to come; or there is none.
abbrev pub Differs : List JournalEvent → Awaited → Type 0
Differs [] f = ⊤
Differs (e ∷ es) f = (looks : List ℕ) → first_event (f (look_time e ++ looks)) ≢ Some e
