-- The walk of a boot's events beside the rules: what is known, and what one event does to it. A step gives a value and the walk
-- behind it, or the walk where the rules' log and the events part, or where the events end.
use Rattle.std.specs.Prelude.{◌≡◌, ⊤, ℕ, zero, suc, ◌+◌, ◌==◌, Bool, if◌then◌else◌, List, [], ◌∷◌, ◌++◌, slice_set, slice_index_or, Option, Some, None, Result, Ok, Err}
use Rattle.task_ast.specs.declared.core_form.CoreExpr.{CoreExpr}
use Rattle.task_ast.specs.declared.core_form.CoreTarget.{CoreTarget}
use Rattle.task_ast.specs.declared.core_form.CoreEnd.{CoreEnd}
use Rattle.io_annot.specs.declared.choice.Mode.{Mode}
use Rattle.walk_run.specs.declared.trap.Trap.{Trap}
use Rattle.walk_run.specs.declared.place.Place.{Place}
use Rattle.walk_run.specs.Trap.{code_of}
use Rattle.walk_run.specs.Store.{Store, put_word}
use Rattle.walk_run.specs.Value.{value_of, target_place, end_place, with_room}
use Rattle.devices.specs.declared.world.Feed.{Feed}
use Rattle.devices.specs.Reading.{reading, values_in}
use Rattle.devices.specs.Readings.{one_more}
use Rattle.devices.specs.Journal.{JournalEvent, drops, issues, seals, traps}
use Rattle.audit_check.specs.declared.journal.ReportEvent.{ReportEvent}
use Rattle.audit_check.specs.declared.journal.ReportEvent.TheVariants as event
use Rattle.audit_check.specs.declared.journal.TimedEvent.{TimedEvent}
use Rattle.audit_check.specs.declared.walking.Kept.{Kept}
use Rattle.audit_check.specs.declared.walking.Stop.{Stop}
use Rattle.audit_check.specs.declared.walking.Stop.TheVariants as stop
use Rattle.audit_check.specs.Journal.{event_of}
use Rattle.audit_check.specs.Same.{same}

-- What is known between two events of a boot: the readings, the events that are left, the store, the store as the last commit
-- left it and the next task, the mode, the records by site, and how often each peripheral was issued.
pub record Walking : Type 0 where
  pub feeds : List Feed
  pub rest : List TimedEvent
  pub store : Store
  pub committed : Store
  pub next : ℕ
  pub mode : Mode
  pub records : List (Option Kept)
  pub issued : List ℕ

-- a value, and the walk behind it
pub record Moved (A : Type 0) : Type 0 where
  pub value : A
  pub walking : Walking

-- where a step leads; an Err has the walk where it stops
abbrev pub Way : Type 0 → Type 0
Way A = Result (Moved A) Walking

abbrev pub moved : {A : Type 0} → A → Walking → Way A
moved x w = Ok (record { value = x; walking = w })

-- a step, and then what its value asks for
abbrev pub chain : {A B : Type 0} → Way A → (A → Walking → Way B) → Way B
chain (Ok m) next = next m.value m.walking
chain (Err w) next = Err w

-- where a step is left in either case
abbrev pub left_by : {A : Type 0} → Way A → Walking
left_by (Ok m) = m.walking
left_by (Err w) = w

-- The method did this step, unless memory ran out.
abbrev pub Gives : {A : Type 0} → Way A → Result A Stop → Walking → Type 0
Gives way (Ok x) w = way ≡ moved x w
Gives way (Err stop.Parted) w = way ≡ Err w
Gives way (Err stop.NoMemory) w = ⊤

-- ---- events

-- the next event is this one
abbrev pub taken_of : JournalEvent → Walking → List TimedEvent → Way (Unit {0})
taken_of e w [] = Err w
taken_of e w (x ∷ rest) = if same (event_of x.event) e then moved tt (record w { rest = rest }) else Err w

unfoldable pub taken : JournalEvent → Walking → Way (Unit {0})
taken e w = taken_of e w w.rest

-- the time of a look of a site
abbrev pub looked_of : (site : ℕ) → Walking → List TimedEvent → ReportEvent → Way ℕ
looked_of k w rest (event.Look site time) = if site == k then moved time (record w { rest = rest }) else Err w
looked_of k w rest _ = Err w

-- the next event is a look of this site, which sees a time
abbrev pub looked_in : (site : ℕ) → Walking → List TimedEvent → Way ℕ
looked_in k w [] = Err w
looked_in k w (x ∷ rest) = looked_of k w rest x.event

unfoldable pub looked : (site : ℕ) → Walking → Way ℕ
looked k w = looked_in k w w.rest

-- the record of a site, or none
abbrev pub record_at : (site : ℕ) → List (Option Kept) → Option Kept
record_at k records = slice_index_or records k None

-- with another one
abbrev pub with_kept : (site : ℕ) → Option Kept → Walking → Walking
with_kept k r w = record w { records = slice_set w.records k r }

-- a record is dropped
unfoldable pub dropped : (site : ℕ) → Walking → Way (Unit {0})
dropped k w = chain (taken (drops k) w) (λ _ w. moved tt (with_kept k None w))

-- a record is dropped, where that is asked for
unfoldable pub dropped_if : Bool → (site : ℕ) → Walking → Way (Unit {0})
dropped_if wanted k w = if wanted then dropped k w else moved tt w

-- so many sites from one on drop their records, those of which it is asked for
abbrev pub dropped_from : (ℕ → Bool) → (site left : ℕ) → Walking → Way (Unit {0})
dropped_from wanted k zero w = moved tt w
dropped_from wanted k (suc left) w = chain (dropped_if (wanted k) k w) (λ _ w. dropped_from wanted (k + 1) left w)

-- a record is sealed
unfoldable pub sealed : (site : ℕ) → Kept → Walking → Way (Unit {0})
sealed k r w = chain (taken (seals k) w) (λ _ w. moved tt (with_kept k (Some r) w))

-- how often a peripheral was issued, as far as its readings go
abbrev pub count_of : (peripheral : ℕ) → Walking → ℕ
count_of p w = slice_index_or w.issued p 0

-- the next reading of a peripheral
abbrev pub next_reading : (peripheral : ℕ) → Walking → ℕ
next_reading p w = reading (values_in w.feeds p) (count_of p w + 1)

-- one more issue
abbrev pub with_count : (peripheral : ℕ) → Walking → Walking
with_count p w = record w { issued = slice_set w.issued p (one_more (values_in w.feeds p) (count_of p w)) }

-- a peripheral is issued
unfoldable pub issued_now : (site p : ℕ) → (args : List ℕ) → Walking → Way ℕ
issued_now k p args w = chain (taken (issues k p args (next_reading p w)) w) (λ _ after. moved (next_reading p w) (with_count p after))

-- ---- what is valued

-- a trap is the last event
unfoldable pub trapped_by : Trap → Walking → Walking
trapped_by why w = left_by (taken (traps (code_of why)) w)

-- goes on with what was found, or traps
abbrev pub found : {A : Type 0} → Result A Trap → Walking → Way A
found (Ok x) w = moved x w
found (Err why) w = Err (trapped_by why w)

-- a word is valued
unfoldable pub word : CoreExpr → Walking → Way ℕ
word e w = found (value_of e w.store) w

-- words are valued from left to right, behind those that are
abbrev pub words_behind : List ℕ → List CoreExpr → Walking → Way (List ℕ)
words_behind words [] w = moved words w
words_behind words (e ∷ es) w = chain (word e w) (λ x w. words_behind (words ++ x ∷ []) es w)

-- a target is found, where a call has one
unfoldable pub reading_target : Option CoreTarget → Walking → Way (Option Place)
reading_target None w = moved None w
reading_target (Some t) w = chain (found (target_place t w.store) w) (λ at w. moved (Some at) w)

-- an end of a copy is found
unfoldable pub copy_end : CoreEnd → Walking → Way Place
copy_end e w = found (end_place e w.store) w

-- so many words from a place on are tested to be in its array
unfoldable pub tested : Place → (words : ℕ) → Walking → Way (Unit {0})
tested at n w = chain (found (with_room w.store at n) w) (λ _ w. moved tt w)

-- another store
abbrev pub with_store : Store → Walking → Walking
with_store store w = record w { store = store }

-- a word goes to a place
abbrev pub put_at : Place → (word : ℕ) → Walking → Walking
put_at at word w = with_store (put_word at word w.store) w

-- a reading goes to its target
unfoldable pub put_reading : Option Place → (word : ℕ) → Walking → Walking
put_reading None word w = w
put_reading (Some at) word w = put_at at word w
