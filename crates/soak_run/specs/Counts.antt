-- What a summary counts in the journal of a run (docs/COMMANDS.md, "Soak").
use Rattle.std.specs.Prelude.{ℕ, ◌+◌, List, [], ◌∷◌}
use Rattle.devices.specs.Journal.{JournalEvent, begins, looks, keeps, drops, issues, seals, copies, commits, traps, Boot, Journal}
use Rattle.soak_run.specs.declared.counts.Counts.{Counts}

-- nothing yet
abbrev pub nothing : Counts
nothing = record { boots = 0; commits = 0; issued = 0; kept = 0; copies = 0 }

-- a boot more
abbrev pub with_boot : Counts → Counts
with_boot c = record c { boots = c.boots + 1 }

-- an event more: issues, readings that were kept, copies and commits count
abbrev pub with_event : JournalEvent → Counts → Counts
with_event (begins task) c = c
with_event (looks site time) c = c
with_event (keeps site value) c = record c { kept = c.kept + 1 }
with_event (drops site) c = c
with_event (issues site peripheral arguments reading) c = record c { issued = c.issued + 1 }
with_event (seals site) c = c
with_event (copies site from to words) c = record c { copies = c.copies + 1 }
with_event (commits next) c = record c { commits = c.commits + 1 }
with_event (traps code) c = c

-- the events of a boot
abbrev pub with_events : List (ℕ × JournalEvent) → Counts → Counts
with_events [] c = c
with_events (e ∷ events) c = with_events events (with_event e.1 c)

-- boots with their events
abbrev pub with_boots : List Boot → Counts → Counts
with_boots [] c = c
with_boots (boot ∷ boots) c = with_boots boots (with_events boot.events (with_boot c))

-- the counts of a journal
abbrev pub counts_of : Journal → Counts
counts_of j = with_boots j.boots nothing
