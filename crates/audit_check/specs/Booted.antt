-- The walk of a journal's boots beside the rules: a boot's attempts one after another, then the boots; and how many of their
-- lines go along.
use Rattle.std.specs.Prelude.{ℕ, zero, suc, ◌+◌, ◌-◌, Bool, true, false, if◌then◌else◌, List, [], ◌∷◌, length, replicate, Option, Some, None, Err, slice_get}
use Rattle.task_ast.specs.declared.core_form.Core.{Core}
use Rattle.io_annot.specs.declared.choice.Mode.TheVariants.{Own}
use Rattle.walk_run.specs.Store.{declared_store}
use Rattle.devices.specs.declared.world.Feed.{Feed}
use Rattle.audit_check.specs.declared.around.Around.{Around}
use Rattle.audit_check.specs.declared.journal.TimedEvent.{TimedEvent}
use Rattle.audit_check.specs.declared.journal.ReportBoot.{ReportBoot}
use Rattle.audit_check.specs.Fitting.{capped}
use Rattle.audit_check.specs.Walking.{Walking, Way, chain, left_by}
use Rattle.audit_check.specs.Walked.{attempt_walked}

-- ---- attempts

-- what a task goes by, by its number from 1; none has the number 0
abbrev pub task_at : List Around → (number : ℕ) → Option Around
task_at tasks zero = None
task_at tasks (suc n) = slice_get tasks n

-- an attempt of a task, where there is a next task; the walk stops where there is none
abbrev pub attempt_if_there : Option Around → Walking → Way (Unit {0})
attempt_if_there None w = Err w
attempt_if_there (Some a) w = attempt_walked a w

-- at most so many attempts, one after another, until the walk stops
abbrev pub attempts_walked : List Around → (attempts : ℕ) → Walking → Way (Unit {0})
attempts_walked tasks zero w = Err w
attempts_walked tasks (suc n) w = chain (attempt_if_there (task_at tasks w.next) w) (λ _ w. attempts_walked tasks n w)

-- ---- boots

-- other events lie ahead
abbrev pub with_rest : List TimedEvent → Walking → Walking
with_rest rest w = record w { rest = rest }

-- A boot: attempts go along its events until the walk stops. Each attempt has at least two events, so as many attempts as
-- events are enough.
unfoldable pub boot_walked : List Around → ReportBoot → Walking → Walking
boot_walked tasks b w = left_by (attempts_walked tasks (length b.events) (with_rest b.events w))

-- whether events are left
abbrev pub are_left : List TimedEvent → Bool
are_left [] = false
are_left (e ∷ es) = true

-- What is known between two boots: the walk, whether a line behind it no more goes along, and how many lines go along so far.
pub record Booted : Type 0 where
  pub walking : Walking
  pub over : Bool
  pub lines : ℕ

-- behind a boot of which the walk left some events: its own line goes along, and its events up to these
abbrev pub behind_boot : (lines : ℕ) → ReportBoot → Walking → Booted
behind_boot lines b w = record { walking = w; over = are_left w.rest; lines = capped (capped (lines + 1) + (length b.events - length w.rest)) }

-- behind a boot: behind a line that doesn't go along none does
abbrev pub booted_by : List Around → Booted → ReportBoot → Booted
booted_by tasks r b = if r.over then r else behind_boot r.lines b (boot_walked tasks b r.walking)

-- behind boots
abbrev pub all_walked : List Around → Booted → List ReportBoot → Booted
all_walked tasks r [] = r
all_walked tasks r (b ∷ bs) = all_walked tasks (booted_by tasks r b) bs

-- before the first boot: the declared words, task 1, no record, and no issue
abbrev pub unwalked : Core → List Feed → Walking
unwalked c feeds = record {
  feeds = feeds;
  rest = [];
  store = declared_store c;
  committed = declared_store c;
  next = 1;
  mode = Own;
  records = replicate 129 None;
  issued = replicate 256 0;
}

abbrev pub unbooted : Core → List Feed → Booted
unbooted c feeds = record { walking = unwalked c feeds; over = false; lines = 0 }

-- the walk behind all boots of a journal, and how many of its first lines go along the rules
abbrev pub journal_walked : List Around → Core → List Feed → List ReportBoot → Booted
journal_walked tasks c feeds boots = all_walked tasks (unbooted c feeds) boots
