-- How boots and an end are gathered line by line, from the first line on.
use Rattle.std.specs.Prelude.{ℕ, suc, ◌==◌, Bool, true, false, if◌then◌else◌, Option, Some, None, List, [], ◌∷◌, ◌++◌}
use Rattle.task_ast.specs.declared.core_form.Core.{Core}
use Rattle.devices.specs.declared.event.RunEnd.{RunEnd}
use Rattle.devices.specs.Journal.{JournalEvent, Boot}
use Rattle.report_text.specs.declared.line.ReportLine.{ReportLine}
use Rattle.audit_laws.specs.Gathered.{Item, a_boot, an_event, an_end, nothing, item_in}

-- What the lines so far tell: boots, and whether one is open, which began with so many steps and has these events; the number of the
-- next boot; the end; and whether the lines behind it tell nothing.
pub record Gathering : Type 0 where
  pub boots : List Boot
  pub inside : Bool
  pub begun_at : ℕ
  pub events : List (ℕ × JournalEvent)
  pub number : ℕ
  pub ending : Option (ℕ × RunEnd)
  pub over : Bool

-- the boots, with the open one behind them
abbrev pub boots_so_far : Gathering → List Boot
boots_so_far g = if g.inside then g.boots ++ record { begun_at = g.begun_at; events = g.events } ∷ [] else g.boots

-- nothing behind tells more
abbrev pub stopped : Gathering → Gathering
stopped g = record g { over = true }

-- a boot begins
abbrev pub opened : (steps : ℕ) → Gathering → Gathering
opened steps g = record { boots = boots_so_far g; inside = true; begun_at = steps; events = []; number = suc g.number; ending = g.ending; over = g.over }

-- an event of the open boot
abbrev pub eventful : ℕ × JournalEvent → Gathering → Gathering
eventful e g = record g { events = g.events ++ e ∷ [] }

-- the end
abbrev pub ended : ℕ × RunEnd → Gathering → Gathering
ended e g = record g { ending = Some e; over = true }

-- by what a line tells
abbrev pub with_item : (steps : ℕ) → Item → Gathering → Gathering
with_item steps (a_boot n) g = if n == g.number then opened steps g else stopped g
with_item steps (an_event e) g = if g.inside then eventful (steps, e) g else stopped g
with_item steps (an_end ending) g = ended (steps, ending) g
with_item steps nothing g = stopped g

-- behind a line, and behind lines
abbrev pub with_line : Core → Gathering → ReportLine → Gathering
with_line c g l = if g.over then g else with_item l.steps (item_in c l.text) g

abbrev pub with_lines : Core → Gathering → List ReportLine → Gathering
with_lines c g [] = g
with_lines c g (l ∷ lines) = with_lines c (with_line c g l) lines

-- before the first line
abbrev pub ungathered : Gathering
ungathered = record { boots = []; inside = false; begun_at = 0; events = []; number = 1; ending = None; over = false }
