-- The events of lines, by the names of a program.
use Rattle.std.specs.Prelude.{◌≡◌, ◌⊎◌, ℕ, ◌≤◌, false, List, [], ◌∷◌, Option, Some, None, length, map, if◌then◌else◌}
use Rattle.std.specs.List.{position}
use Rattle.std.specs.Str.{bytes_eq}
use Rattle.devices.specs.Journal.{Place, cell, keep, address, JournalEvent, begins, looks, keeps, drops, issues, seals, copies, commits, traps, arguments_of}
use Rattle.ease_base.specs.declared.place.Peripheral.{Peripheral}
use Rattle.power_trace.specs.Report.{Style}
use Rattle.report_text.specs.Reading.{◌>>=◌}
use Rattle.report_text.specs.Written.{IsThere}
use Rattle.report_text.specs.declared.event.EventPlace.{EventPlace}
use Rattle.report_text.specs.declared.event.EventPlace.TheVariants as place
use Rattle.report_text.specs.declared.event.ReportEvent.{ReportEvent}
use Rattle.report_text.specs.declared.event.ReportEvent.TheVariants as event
use Rattle.report_text.specs.declared.line.LineText.{LineText}
use Rattle.report_text.specs.declared.line.LineText.TheVariants.{Boot, Begin, Look, Kept, Drop, Issue, Seal, Copy, Commit, Trap, End}
use Rattle.report_text.specs.declared.line.ReportPlace.{ReportPlace}
use Rattle.report_text.specs.declared.line.ReportPlace.TheVariants.{Cell, Keep, Address}
use Rattle.task_ast.specs.declared.core_form.Array.{Array}
use Rattle.task_ast.specs.declared.core_form.Core.{Core}
use Rattle.word_isa.specs.declared.parts.Symbol.{Symbol}

-- a symbol with an array's name
abbrev pub symbol_of : Array → Symbol
symbol_of a = record { name = a.name; kind = a.kind; base = 0; length = length a.first }

-- the style of a full report with the names of a program
abbrev pub style_of : Core → Style
style_of core = record { symbols = map symbol_of core.arrays; peripherals = core.peripherals; brief = false }

-- the number of the first peripheral with a name
abbrev pub peripheral_named : List Peripheral → List ℕ → Option ℕ
peripheral_named [] name = None
peripheral_named (p ∷ peripherals) name = if bytes_eq p.name name then Some p.number else peripheral_named peripherals name

-- the place of the first array with a name
abbrev pub array_named : List Array → List ℕ → Option ℕ
array_named arrays name = position (λ (a : Array). bytes_eq a.name name) arrays

-- an end of a copy with the names of arrays
abbrev pub place_named : List Array → ReportPlace → Option Place
place_named arrays (Cell name i) = array_named arrays name >>= (λ k. Some (cell k i))
place_named arrays Keep = Some keep
place_named arrays (Address at) = Some (address at)

-- the event of a text with the names of a program
abbrev pub event_in : Core → LineText → Option JournalEvent
event_in core (Boot n) = None
event_in core (Begin task) = Some (begins task)
event_in core (Look site time) = Some (looks site time)
event_in core (Kept site value) = Some (keeps site value)
event_in core (Drop site) = Some (drops site)
event_in core (Issue site name args reading) = peripheral_named core.peripherals name >>= (λ n. Some (issues site n (arguments_of args) reading))
event_in core (Seal site) = Some (seals site)
event_in core (Copy site from to words) = place_named core.arrays from >>= (λ f. place_named core.arrays to >>= (λ t. Some (copies site f t words)))
event_in core (Commit next) = Some (commits next)
event_in core (Trap code) = Some (traps code)
event_in core (End ending) = None

-- an end of a copy, and an event, as a journal has them
abbrev pub journal_place : EventPlace → Place
journal_place (place.Cell k i) = cell k i
journal_place place.Keep = keep
journal_place (place.Address at) = address at

abbrev pub journal_event : ReportEvent → JournalEvent
journal_event (event.Begin task) = begins task
journal_event (event.Look site time) = looks site time
journal_event (event.Kept site value) = keeps site value
journal_event (event.Drop site) = drops site
journal_event (event.Issue site p args reading) = issues site p (arguments_of args) reading
journal_event (event.Seal site) = seals site
journal_event (event.Copy site from to words) = copies site (journal_place from) (journal_place to) words
journal_event (event.Commit next) = commits next
journal_event (event.Trap code) = traps code

-- one of the peripherals has the number
abbrev pub HasNumber : List Peripheral → ℕ → Type 0
HasNumber [] n = ⊥
HasNumber (p ∷ peripherals) n = (p.number ≡ n) ⊎ HasNumber peripherals n

-- an event of a program: its peripheral is there, with at most four arguments, and so are its arrays
abbrev pub IsOf : Core → JournalEvent → Type 0
IsOf core (begins task) = Unit {0}
IsOf core (looks site time) = Unit {0}
IsOf core (keeps site value) = Unit {0}
IsOf core (drops site) = Unit {0}
IsOf core (issues site p arguments reading) = HasNumber core.peripherals p × (length arguments ≤ 4)
IsOf core (seals site) = Unit {0}
IsOf core (copies site from to words) = IsThere (style_of core) from × IsThere (style_of core) to
IsOf core (commits next) = Unit {0}
IsOf core (traps code) = Unit {0}
