-- The events of boots, and when they are those that the rules give from a standing on; and how many lines they have.
use Rattle.std.specs.Prelude.{◌≡◌, ℕ, zero, suc, ◌+◌, ◌-◌, List, [], ◌∷◌, length, take, map}
use Rattle.std.specs.List.{flat_map}
use Rattle.devices.specs.Journal.{JournalEvent, Boot}
use Rattle.task_attempts.specs.State.{Rules, Standing}
use Rattle.task_attempts.specs.Boots.{boots_from, events_in, expect}
use Rattle.task_attempts.specs.Journals.{all_events, cuts_of, look_time, looks_of}
use Rattle.audit_check.specs.Journal.{journal_of}
use Rattle.audit_check.specs.Leads.{relooked}

-- the events of each boot
abbrev pub Events : Type 0
Events = List (List JournalEvent)

-- the times of the looks of a boot, and of boots
abbrev pub times_in : List JournalEvent → List ℕ
times_in es = flat_map look_time es

abbrev pub all_times : Events → List ℕ
all_times boots = flat_map times_in boots

-- They are those of the rules, for as many events in each boot and for these looks.
abbrev pub AreExpected : Rules → Standing → Events → Type 0
AreExpected rules s boots = boots ≡ map events_in (boots_from rules (map length boots) (relooked (all_times boots) s))

-- the lines that they have, a boot's own and its events
abbrev pub lines_in : Events → ℕ
lines_in [] = 0
lines_in (es ∷ boots) = suc (length es) + lines_in boots

-- what so many first lines tell of them
abbrev pub first_lines : ℕ → Events → Events
first_lines zero boots = []
first_lines (suc n) [] = []
first_lines (suc n) (es ∷ boots) = take n es ∷ first_lines (n - length es) boots

-- ---- of a journal

-- Each boot has the events that the rules give for as many events and for the looks of these boots.
abbrev pub IsExpected : Rules → List Boot → Type 0
IsExpected rules boots = let j = journal_of boots in all_events j ≡ expect rules (cuts_of j) (looks_of j)
