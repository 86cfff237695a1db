-- What a walk knows of the standing, and when a step of it goes along what the rules say.
use Rattle.std.specs.Prelude.{◌≡◌, ℕ, ◌<◌, min, List, length, map, Ok, Err}
use Rattle.std.specs.Option.{option_map}
use Rattle.devices.specs.declared.world.Feed.{Feed}
use Rattle.devices.specs.Reading.{values_in}
use Rattle.devices.specs.Journal.{JournalEvent}
use Rattle.task_attempts.specs.State.{Record, of_reading, of_block, of_copy, Standing, Here, Rest}
use Rattle.task_attempts.specs.Changes.{with_looks}
use Rattle.audit_check.specs.declared.journal.TimedEvent.{TimedEvent}
use Rattle.audit_check.specs.declared.walking.Kept.{Kept}
use Rattle.audit_check.specs.declared.walking.Kept.TheVariants as kept
use Rattle.audit_check.specs.Journal.{event_of}
use Rattle.audit_check.specs.Leads.{Awaited, End, Reached, Differs}
use Rattle.audit_check.specs.Walking.{Walking, Way, record_at, count_of}

-- events without their steps
abbrev pub events : List TimedEvent → List JournalEvent
events rest = map (λ e. event_of e.event) rest

-- what is kept of a record: its arguments aren't, nor a copy's source
abbrev pub kept_of : Record → Kept
kept_of (of_reading value stamp args) = kept.Reading value stamp
kept_of (of_block stamp) = kept.Block stamp
kept_of (of_copy class to from words) = kept.Copy class to words

-- A walk over these readings knows a standing: its committed store and next task, the records of its sites, of which there are at
-- most 128, and how often each peripheral was issued, as far as that tells readings.
pub record Knows (feeds : List Feed) (w : Walking) (s : Standing) : Type 0 where
  pub readings : w.feeds ≡ feeds
  pub committed : s.committed ≡ w.committed
  pub next : s.next ≡ w.next
  pub sites : length w.records ≡ 129
  pub records : (k : ℕ) → k < 129 → record_at k w.records ≡ option_map kept_of (s.account.records k)
  pub peripherals : length w.issued ≡ 256
  pub issued : (p : ℕ) → p < 256 → count_of p w ≡ min (s.account.issued p) (length (values_in w.feeds p))

-- It is at a place of an attempt.
pub record IsAt (feeds : List Feed) (w : Walking) (here : Here) : Type 0 where
  pub knows : Knows feeds w here.standing
  pub store : here.store ≡ w.store
  pub mode : here.mode ≡ w.mode

-- a log from a place on, by the looks that are still to come
abbrev pub from_here : Rest → Here → Awaited
from_here go here = λ looks. go (with_looks looks here)

-- a place at which the rules go on
pub record Onward (feeds : List Feed) (w : Walking) (go : Rest) (f : Awaited) : Type 0 where
  pub here : Here
  pub is_at : IsAt feeds w here
  pub log : f ≡ from_here go here

-- Where a step goes on, so do the rules, with its value; where it stops, the next event isn't theirs, or there is none.
abbrev pub Follows : {A : Type 0} → List Feed → Way A → (A → Rest) → End
Follows feeds (Ok m) go es s f = (es ≡ events m.walking.rest) × Knows feeds m.walking s × Onward feeds m.walking (go m.value) f
Follows feeds (Err w) go es s f = (es ≡ events w.rest) × Knows feeds w s × Differs es f

-- A step goes along a part of the rules, whatever comes behind it.
abbrev pub Tracks : {A : Type 0} → List Feed → (part : (A → Rest) → Rest) → (step : Walking → Way A) → Type 0
Tracks {A = A} feeds part step =
    (w : Walking) (here : Here) (s : Standing) (go : A → Rest) → IsAt feeds w here → Knows feeds w s → Reached (events w.rest) s (from_here (part go) here) (Follows feeds (step w) go)
