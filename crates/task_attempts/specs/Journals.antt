-- What a journal says of its boots: their events, the looks, and the readings that are retained (docs/ATTEMPTS.md,
-- "Reading a journal").
use Rattle.std.specs.Prelude.{ℕ, List, [], ◌∷◌, ◌++◌, length, map, flat_map, Option, Some, None}
use Rattle.task_ast.specs.declared.core_form.Site.{Site}
use Rattle.task_ast.specs.declared.core_form.Site.TheVariants as site
use Rattle.task_ast.specs.declared.core_form.CoreTask.{CoreTask}
use Rattle.task_ast.specs.declared.core_form.Core.{Core}
use Rattle.devices.specs.Journal.{JournalEvent, begins, looks, keeps, issues, commits, traps, Boot, Journal}
use Rattle.task_attempts.specs.Calls.{site_at}
use Rattle.task_attempts.specs.Boots.{task_of}

-- the events of a boot without their steps, and those of each boot
abbrev pub events_of : Boot → List JournalEvent
events_of b = map (λ e. e.1) b.events

abbrev pub all_events : Journal → List (List JournalEvent)
all_events j = map events_of j.boots

-- how many events each boot has
abbrev pub cuts_of : Journal → List ℕ
cuts_of j = map (λ b. length b.events) j.boots

-- the time of a look
abbrev pub look_time : JournalEvent → List ℕ
look_time (looks site time) = time ∷ []
look_time e = []

-- the times of all looks, in order
abbrev pub looks_of : Journal → List ℕ
looks_of j = flat_map (λ b. flat_map look_time (events_of b)) j.boots

-- ---- readings

-- a value at an I/O site is a reading
abbrev pub if_reading : Option Site → (value : ℕ) → List ℕ
if_reading (Some (site.Io ann)) value = value ∷ []
if_reading (Some (site.Block ann)) value = []
if_reading (Some (site.Copy greatest)) value = []
if_reading None value = []

-- the reading that an event shows at a task with these sites, kept or issued
abbrev pub reading_at : List Site → JournalEvent → List ℕ
reading_at sites (keeps k value) = if_reading (site_at sites k) value
reading_at sites (issues k p args value) = if_reading (site_at sites k) value
reading_at sites e = []

-- an attempt that runs: the sites of its task, and its readings so far
pub record Running : Type 0 where
  pub sites : List Site
  pub held : List ℕ

-- no attempt runs
abbrev pub idle : Running
idle = record { sites = []; held = [] }

-- the sites of a task, if it is there
abbrev pub sites_in : Option CoreTask → List Site
sites_in None = []
sites_in (Some t) = t.sites

-- What runs behind an event. An attempt is over with its commit or its trap, and what it held is gone.
abbrev pub run_on : Core → Running → JournalEvent → Running
run_on c r (begins task) = record r { sites = sites_in (task_of c task) }
run_on c r (commits next) = idle
run_on c r (traps code) = idle
run_on c r e = record r { held = r.held ++ reading_at r.sites e }

-- what an event gives for good: a commit all that its attempt held
abbrev pub given : Running → JournalEvent → List ℕ
given r (commits next) = r.held
given r e = []

-- the readings of the attempts that commit
abbrev pub retained_in : Core → Running → List JournalEvent → List ℕ
retained_in c r [] = []
retained_in c r (e ∷ es) = given r e ++ retained_in c (run_on c r e) es

-- those of all boots, in order
abbrev pub retained : Core → List (List JournalEvent) → List ℕ
retained c boots = flat_map (retained_in c idle) boots

-- the readings of the attempt that traps
abbrev pub trapped_in : Core → Running → List JournalEvent → List ℕ
trapped_in c r [] = []
trapped_in c r (traps code ∷ es) = r.held
trapped_in c r (e ∷ es) = trapped_in c (run_on c r e) es

-- that of all boots
abbrev pub trapped : Core → List (List JournalEvent) → List ℕ
trapped c boots = flat_map (trapped_in c idle) boots

-- all readings of a boot, in order, and those of all boots
abbrev pub readings_in : Core → Running → List JournalEvent → List ℕ
readings_in c r [] = []
readings_in c r (e ∷ es) = reading_at r.sites e ++ readings_in c (run_on c r e) es

abbrev pub readings : Core → List (List JournalEvent) → List ℕ
readings c boots = flat_map (readings_in c idle) boots
