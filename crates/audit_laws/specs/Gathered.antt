-- How boots and an end are gathered from the lines of a report, line by line.
use Rattle.std.specs.Prelude.{ℕ, suc, ◌+◌, ◌==◌, Bool, true, cond, if◌then◌else◌, Option, Some, None, List, [], ◌∷◌}
use Rattle.task_ast.specs.declared.core_form.Core.{Core}
use Rattle.devices.specs.declared.event.RunEnd.{RunEnd}
use Rattle.devices.specs.Journal.{JournalEvent, Boot}
use Rattle.report_text.specs.declared.line.LineText.{LineText}
use Rattle.report_text.specs.declared.line.LineText.TheVariants.{Boot as boot_line, End as end_line}
use Rattle.report_text.specs.declared.line.ReportLine.{ReportLine}
use Rattle.report_text.specs.Events.{event_in}

-- what a text tells with a program's names: the boot of a number, an event, how the run ended; or nothing
pub data Item : Type 0 where
  a_boot : (number : ℕ) → Item
  an_event : JournalEvent → Item
  an_end : RunEnd → Item
  nothing : Item

abbrev pub event_or_none : Option JournalEvent → Item
event_or_none None = nothing
event_or_none (Some e) = an_event e

abbrev pub item_in : Core → LineText → Item
item_in c (boot_line n) = a_boot n
item_in c (end_line ending) = an_end ending
item_in c t = event_or_none (event_in c t)

-- What lines tell: events of the boot before them, the boots behind these, the end, if it is told; and how many lines tell it.
pub record Gathered : Type 0 where
  pub events : List (ℕ × JournalEvent)
  pub boots : List Boot
  pub ending : Option (ℕ × RunEnd)
  pub lines : ℕ

abbrev pub no_more : Gathered
no_more = record { events = []; boots = []; ending = None; lines = 0 }

-- a line more: an event, a boot, an end
abbrev pub with_event : ℕ × JournalEvent → Gathered → Gathered
with_event e g = record g { events = e ∷ g.events; lines = suc g.lines }

abbrev pub with_boot : (begun : ℕ) → Gathered → Gathered
with_boot begun g = record { events = []; boots = record { begun_at = begun; events = g.events } ∷ g.boots; ending = g.ending; lines = suc g.lines }

abbrev pub with_end : (steps : ℕ) → RunEnd → Gathered
with_end steps ending = record { events = []; boots = []; ending = Some (steps, ending); lines = 1 }

-- By what a line tells: an event stands in a boot, a boot has the next number, and nothing comes behind an end.
abbrev pub gathered_by : (inside : Bool) → (number steps : ℕ) → Item → (rest : Bool → ℕ → Gathered) → Gathered
gathered_by inside k steps (a_boot n) rest = if n == k then with_boot steps (rest true (suc k)) else no_more
gathered_by inside k steps (an_event e) rest = if inside then with_event (steps, e) (rest inside k) else no_more
gathered_by inside k steps (an_end ending) rest = with_end steps ending
gathered_by inside k steps nothing rest = no_more

-- from lines on, inside a boot or not, the next boot being of this number
abbrev pub gathered : Core → (inside : Bool) → (number : ℕ) → List ReportLine → Gathered
gathered c inside k [] = no_more
gathered c inside k (l ∷ lines) = gathered_by inside k l.steps (item_in c l.text) (λ inside k. gathered c inside k lines)

-- how many lines an end has
abbrev pub end_lines : Option (ℕ × RunEnd) → ℕ
end_lines None = 0
end_lines (Some e) = 1

-- ---- the answer

-- an end counts if it fits
abbrev pub ends_well : Option (ℕ × RunEnd) → (fits : ℕ × RunEnd → Bool) → ℕ
ends_well None fits = 0
ends_well (Some e) fits = cond (fits e) 1 0

-- how many first lines are right: those of the boots that are allowed, and that of the end if all of them are and it fits
abbrev pub right_lines : (allowed all : ℕ) → Option (ℕ × RunEnd) → (fits : ℕ × RunEnd → Bool) → ℕ
right_lines allowed all ending fits = if allowed == all then all + ends_well ending fits else allowed
