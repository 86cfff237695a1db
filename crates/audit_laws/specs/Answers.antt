-- What `ease audit` answers on a report: it is legal; or its first line that isn't; or the first line that no report has.
use Rattle.std.specs.Prelude.{◌≡◌, ℕ, suc, ◌<◌, ◌≤◌, false, IfSome, Option, Some, None, List, [], ◌∷◌, ◌++◌, length, take}
use Rattle.std.specs.List.{AllByRecursion}
use Rattle.task_ast.specs.declared.core_form.Core.{Core}
use Rattle.devices.specs.declared.world.World.{World}
use Rattle.devices.specs.declared.event.RunEnd.{RunEnd}
use Rattle.devices.specs.Journal.{JournalEvent, Boot}
use Rattle.report_text.specs.declared.line.LineText.TheVariants.{End}
use Rattle.report_text.specs.declared.line.ReportLine.{ReportLine}
use Rattle.report_text.specs.Events.{style_of, IsOf}
use Rattle.report_text.specs.Grammar.{IsReport, IsRefused}
use Rattle.report_text.specs.Written.{boots_told, line_told}
use Rattle.audit_check.specs.Allowed.{IsAllowed}
use Rattle.audit_check.specs.Ended.{EndFits}

-- the names in events, and in boots, are those of the program's peripherals and arrays
abbrev pub AreNamed : Core → List (ℕ × JournalEvent) → Type 0
AreNamed c events = AllByRecursion (λ e. IsOf c e.1) events

abbrev pub BootsAreNamed : Core → List Boot → Type 0
BootsAreNamed c boots = AllByRecursion (λ b. AreNamed c b.events) boots

-- the line of a journal's end, where it has one
abbrev pub end_told : Option (ℕ × RunEnd) → List ReportLine
end_told None = []
end_told (Some e) = line_told e.0 (End e.1) ∷ []

-- So many first lines of a report are right: they tell boots, with the program's names, and perhaps an end; the rules allow these boots
-- in the world; and so may the run end.
pub record IsFront (c : Core) (world : World) (lines : List ReportLine) (n : ℕ) : Type 0 where
  pub boots : List Boot
  pub ending : Option (ℕ × RunEnd)
  pub tell : take n lines ≡ boots_told (style_of c) 1 boots ++ end_told ending
  pub named : BootsAreNamed c boots
  pub allowed : IsAllowed c world boots
  pub ends : IfSome ending (λ e. EndFits world.power boots e.0 e.1)

-- a line is the first with which the first lines aren't right
pub record IsFirstWrong (c : Core) (world : World) (lines : List ReportLine) (n : ℕ) : Type 0 where
  pub there : n ≤ length lines
  pub wrong : IsFront c world lines n → ⊥
  pub before : (m : ℕ) → m < n → IsFront c world lines m

-- an answer
pub data Answer : Type 0 where
  legal : Answer
  illegal : (line : ℕ) → Answer
  no_report : (line : ℕ) → Answer

-- Legal: all lines are right. Illegal: the first line with which they aren't.
abbrev pub IsAnswerOn : Core → World → List ReportLine → Answer → Type 0
IsAnswerOn c world lines legal = IsFront c world lines (length lines)
IsAnswerOn c world lines (illegal n) = IsFirstWrong c world lines n
IsAnswerOn c world lines (no_report n) = ⊥

-- on the lines of a report; of bytes that are none, the first line that no report has
abbrev pub IsAnswer : Core → World → (bytes : List ℕ) → Answer → Type 0
IsAnswer c world bytes legal = (lines : List ReportLine) × IsReport bytes lines × IsAnswerOn c world lines legal
IsAnswer c world bytes (illegal n) = (lines : List ReportLine) × IsReport bytes lines × IsAnswerOn c world lines (illegal n)
IsAnswer c world bytes (no_report n) = (before : ℕ) × (n ≡ suc before) × IsRefused false bytes before
