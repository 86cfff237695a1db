-- Small steps against the log of the rules: each event is the next of the log, within its steps; behind each small step,
-- with an event or without, the plan stands where the rules do behind the events so far; and the run goes on.
use Rattle.std.specs.Prelude.{◌≡◌, ◌⊎◌, ⊤, ℕ, zero, suc, ◌≤◌, [], ◌∷◌, Option, Some, None}
use Rattle.walk_run.specs.Store.{Store}
use Rattle.devices.specs.Journal.{JournalEvent, commits}
use Rattle.task_attempts.specs.State.{Standing, Logged, Log}
use Rattle.run_plan.specs.Runs.{Small, Smalls, Planned}
use Rattle.run_plan.specs.Sound.{IsTrap}
use Rattle.plan_restore.specs.Kept.{committed_by}
use Rattle.site_events.specs.Records.{view}
use Rattle.site_events.specs.Standing.{StandsAt}

-- a commit leads to the task that it says
abbrev pub LeadsTo : JournalEvent → (task : ℕ) → Type 0
LeadsTo (commits next) task = task ≡ next
LeadsTo e task = ⊤

-- A small step's event is the next of the log, within its steps; and what is committed behind it, and where the plan
-- stands, is as the log says.
pub record Meets (p : Planned) (e : JournalEvent) (now : Store) (x : Small) (l : Logged) : Type 0 where
  pub event : e ≡ l.event
  pub weights : x.weights ≤ l.steps p.plan.scheme
  pub committed : now ≡ l.after.committed
  pub stands : StandsAt p.rules.core (view x.after) l.after
  pub leads : LeadsTo e x.after.task

-- a trap, behind which nothing comes
pub record IsOver (e : JournalEvent) (behind : Smalls) : Type 0 where
  pub trap : IsTrap e
  pub none : behind ≡ []

-- a small step, and what is told of those behind it
abbrev pub TellsAt : Planned → Option JournalEvent → (now : Store) → Standing → Small → Smalls → Log → (Standing → Log → Type 0) → Type 0
TellsAt p None now st x xs log behind = StandsAt p.rules.core (view x.after) st × behind st log
TellsAt p (Some e) now st x xs [] behind = ⊥
TellsAt p (Some e) now st x xs (l ∷ log) behind = Meets p e now x l × (IsOver e xs ⊎ behind l.after log)

-- The first so many small steps tell the first of a log, from a standing on and the store that the acts had left there;
-- fewer are there only where no task is next, or behind a trap.
abbrev pub Tells : Planned → (m : ℕ) → (left : Store) → Standing → Smalls → Log → Type 0
Tells p zero left st xs log = ⊤
Tells p (suc m) left st [] log = st.next ≡ 0
Tells p (suc m) left st (x ∷ xs) log =
    TellsAt p x.atom.event (committed_by x.atom.event left st.committed) st x xs log (λ behind rest. Tells p m x.after.store behind xs rest)
