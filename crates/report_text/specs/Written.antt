-- The lines of a journal's full report, as they are read back.
use Rattle.std.specs.Prelude.{◌≡◌, ℕ, suc, ◌+◌, ◌<◌, ◌^◌, false, IsTrue, All, List, [], ◌∷◌, ◌++◌, length, map}
use Rattle.devices.specs.Journal.{Place, cell, keep, address, JournalEvent, begins, looks, keeps, drops, issues, seals, copies, commits, traps, Boot, Journal}
use Rattle.ease_base.specs.declared.place.Peripheral.{Peripheral}
use Rattle.power_trace.specs.Report.{Style, symbol_name, peripheral_name}
use Rattle.power_trace.specs.Short.{IsWord, IsWordEnd, HasWords}
use Rattle.report_text.specs.Grammar.{args_of}
use Rattle.report_text.specs.declared.line.LineText.{LineText}
use Rattle.report_text.specs.declared.line.LineText.TheVariants as line
use Rattle.report_text.specs.declared.line.ReportLine.{ReportLine}
use Rattle.report_text.specs.declared.line.ReportPlace.{ReportPlace}
use Rattle.report_text.specs.declared.line.ReportPlace.TheVariants.{Cell, Keep, Address}
use Rattle.task_ast.specs.NameToken.{is_name}
use Rattle.word_isa.specs.declared.parts.Symbol.{Symbol}

-- a full report's style, in which names are names
pub record IsFull (style : Style) : Type 0 where
  pub brief : style.brief ≡ false
  pub symbols : All (λ (s : Symbol). IsTrue (is_name s.name)) style.symbols
  pub peripherals : All (λ (p : Peripheral). IsTrue (is_name p.name)) style.peripherals

-- an end of a copy, by its name
abbrev pub place_told : Style → Place → ReportPlace
place_told style (cell k i) = Cell (symbol_name style.symbols k) i
place_told style keep = Keep
place_told style (address at) = Address at

-- an event, by its names
abbrev pub event_told : Style → JournalEvent → LineText
event_told style (begins task) = line.Begin task
event_told style (looks site time) = line.Look site time
event_told style (keeps site value) = line.Kept site value
event_told style (drops site) = line.Drop site
event_told style (issues site p arguments reading) = line.Issue site (peripheral_name style.peripherals p) (args_of arguments) reading
event_told style (seals site) = line.Seal site
event_told style (copies site from to words) = line.Copy site (place_told style from) (place_told style to) words
event_told style (commits next) = line.Commit next
event_told style (traps code) = line.Trap code

-- a line, and those of events
abbrev pub line_told : ℕ → LineText → ReportLine
line_told steps text = record { steps = steps; text = text }

abbrev pub events_told : Style → List (ℕ × JournalEvent) → List ReportLine
events_told style events = map (λ e. line_told e.0 (event_told style e.1)) events

-- the lines of boots from a number on, and of a journal
abbrev pub boots_told : Style → (number : ℕ) → List Boot → List ReportLine
boots_told style k [] = []
boots_told style k (boot ∷ boots) = (line_told boot.begun_at (line.Boot k) ∷ events_told style boot.events) ++ boots_told style (suc k) boots

abbrev pub journal_told : Style → Journal → List ReportLine
journal_told style j = boots_told style 1 j.boots ++ line_told j.steps (line.End j.ending) ∷ []

-- a place whose symbol is there, and an event of such places
abbrev pub IsThere : Style → Place → Type 0
IsThere style (cell k i) = k < length style.symbols
IsThere style keep = Unit {0}
IsThere style (address at) = Unit {0}

abbrev pub AreThere : Style → JournalEvent → Type 0
AreThere style (begins task) = Unit {0}
AreThere style (looks site time) = Unit {0}
AreThere style (keeps site value) = Unit {0}
AreThere style (drops site) = Unit {0}
AreThere style (issues site p arguments reading) = Unit {0}
AreThere style (seals site) = Unit {0}
AreThere style (copies site from to words) = IsThere style from × IsThere style to
AreThere style (commits next) = Unit {0}
AreThere style (traps code) = Unit {0}

-- an event whose numbers are words and whose symbols are there, with the number of its step; and a boot of such events
pub record IsEvent (style : Style) (e : ℕ × JournalEvent) : Type 0 where
  pub step : IsWord e.0
  pub words : HasWords e.1
  pub there : AreThere style e.1

pub record IsBoot (style : Style) (boot : Boot) : Type 0 where
  pub begun : IsWord boot.begun_at
  pub events : All (IsEvent style) boot.events

-- a journal of such boots, which are less than 2^32
pub record IsJournal (style : Style) (j : Journal) : Type 0 where
  pub count : length j.boots + 1 < 2 ^ 32
  pub boots : All (IsBoot style) j.boots
  pub steps : IsWord j.steps
  pub ending : IsWordEnd j.ending
