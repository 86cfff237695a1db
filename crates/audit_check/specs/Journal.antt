-- The journal that boots told from outside are.
use Rattle.std.specs.Prelude.{ℕ, List, map}
use Rattle.devices.specs.declared.event.RunEnd.TheVariants.{Power}
use Rattle.devices.specs.Journal as journal
use Rattle.devices.specs.Journal.{JournalEvent, Boot, Journal, cell, keep, address}
use Rattle.audit_check.specs.declared.journal.ReportPlace.{ReportPlace}
use Rattle.audit_check.specs.declared.journal.ReportPlace.TheVariants as place
use Rattle.audit_check.specs.declared.journal.ReportEvent.{ReportEvent}
use Rattle.audit_check.specs.declared.journal.ReportEvent.TheVariants as event
use Rattle.audit_check.specs.declared.journal.TimedEvent.{TimedEvent}
use Rattle.audit_check.specs.declared.journal.ReportBoot.{ReportBoot}

-- an end of a copy
abbrev pub place_of : ReportPlace → journal.Place
place_of (place.Cell array index) = cell array index
place_of place.Keep = keep
place_of (place.Address at) = address at

-- an event
abbrev pub event_of : ReportEvent → JournalEvent
event_of (event.Begin task) = journal.begins task
event_of (event.Look site time) = journal.looks site time
event_of (event.Kept site value) = journal.keeps site value
event_of (event.Drop site) = journal.drops site
event_of (event.Issue site peripheral arguments reading) = journal.issues site peripheral arguments reading
event_of (event.Seal site) = journal.seals site
event_of (event.Copy site from to words) = journal.copies site (place_of from) (place_of to) words
event_of (event.Commit next) = journal.commits next
event_of (event.Trap code) = journal.traps code

-- an event with its step
abbrev pub timed_of : TimedEvent → ℕ × JournalEvent
timed_of e = (e.step, event_of e.event)

-- a boot, and boots
abbrev pub boot_of : ReportBoot → Boot
boot_of b = record { begun_at = b.begun_at; events = map timed_of b.events }

abbrev pub boots_of : List ReportBoot → List Boot
boots_of boots = map boot_of boots

-- the journal of boots; rules on events don't ask how it ends
abbrev pub journal_of : List Boot → Journal
journal_of boots = record { boots = boots; steps = 0; ending = Power }
