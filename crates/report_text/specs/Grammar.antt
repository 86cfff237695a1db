-- The grammar of full reports: what a line is, what a report is, and which line is refused (docs/MACHINE.md, "The report").
use Rattle.std.specs.Prelude.{◌≡◌, ◌≢◌, ◌⊎◌, ℕ, zero, suc, ◌≤◌, Bool, true, false, IsTrue, All, List, [], ◌∷◌, ◌++◌, codes, decimal, length, Result, Ok, Err}
use Rattle.std.specs.List.{flat_map}
use Rattle.devices.specs.Journal.{cell, keep, address, begins, looks, keeps, drops, seals, commits, traps, arguments_of}
use Rattle.devices.specs.declared.event.Args.{Args}
use Rattle.power_trace.specs.Report as written
use Rattle.power_trace.specs.Report.{Style, number, event_text, issue_text, end_text}
use Rattle.power_trace.specs.Short.{IsWord, IsWordEnd}
use Rattle.report_text.specs.declared.line.LineText.{LineText}
use Rattle.report_text.specs.declared.line.LineText.TheVariants.{Boot, Begin, Look, Kept, Drop, Issue, Seal, Copy, Commit, Trap, End}
use Rattle.report_text.specs.declared.line.ReportLine.{ReportLine}
use Rattle.report_text.specs.declared.line.ReportPlace.{ReportPlace}
use Rattle.report_text.specs.declared.line.ReportPlace.TheVariants.{Cell, Keep, Address}
use Rattle.report_text.specs.declared.error.ReportError.{ReportError}
use Rattle.report_text.specs.declared.error.ReportError.TheVariants as fails
use Rattle.task_ast.specs.NameToken.{is_name}
use Rattle.task_ast.specs.declared.tree.Kind.TheVariants.{Nv}

-- the style of a full report, without any names
abbrev pub full : Style
full = record { symbols = []; peripherals = []; brief = false }

-- the end of a copy as its text has it, a name being that of the one symbol
abbrev pub place_text : ReportPlace → List ℕ
place_text (Cell name i) = written.place_text (record { name = name; kind = Nv; base = 0; length = 0 } ∷ []) (cell 0 i)
place_text Keep = written.place_text [] keep
place_text (Address at) = written.place_text [] (address at)

-- the text of a line behind its number, a name being that of the one peripheral
abbrev pub text_of : LineText → List ℕ
text_of (Boot n) = codes "boot" ++ number n
text_of (Begin task) = event_text full (begins task)
text_of (Look site time) = event_text full (looks site time)
text_of (Kept site value) = event_text full (keeps site value)
text_of (Drop site) = event_text full (drops site)
text_of (Issue site name args reading) = issue_text (record { name = name; number = 0 } ∷ []) site 0 (arguments_of args) reading
text_of (Seal site) = event_text full (seals site)
text_of (Copy site from to words) = codes "copy" ++ number site ++ codes " " ++ place_text from ++ codes " " ++ place_text to ++ number words
text_of (Commit next) = event_text full (commits next)
text_of (Trap code) = event_text full (traps code)
text_of (End ending) = end_text ending

-- a line with its line feed
abbrev pub row : ReportLine → List ℕ
row l = written.line full l.steps (text_of l.text)

-- a name in an issue: any name, or `#` and a number
abbrev pub IsIssued : List ℕ → Type 0
IsIssued name = IsTrue (is_name name) ⊎ ((n : ℕ) × IsWord n × (name ≡ codes "#" ++ decimal n))

-- arguments, of which there are so many, and zeros behind them
abbrev pub args_of : List ℕ → Args
args_of [] = record { count = 0; a0 = 0; a1 = 0; a2 = 0; a3 = 0 }
args_of (a ∷ []) = record { count = 1; a0 = a; a1 = 0; a2 = 0; a3 = 0 }
args_of (a ∷ b ∷ []) = record { count = 2; a0 = a; a1 = b; a2 = 0; a3 = 0 }
args_of (a ∷ b ∷ c ∷ []) = record { count = 3; a0 = a; a1 = b; a2 = c; a3 = 0 }
args_of (a ∷ b ∷ c ∷ d ∷ words) = record { count = 4; a0 = a; a1 = b; a2 = c; a3 = d }

-- the arguments are those of at most four words
pub record AreArgs (args : Args) : Type 0 where
  pub values : List ℕ
  pub few : length values ≤ 4
  pub words : All IsWord values
  pub are : args ≡ args_of values

-- a place whose name is a name and whose number is a word
abbrev pub IsPlace : ReportPlace → Type 0
IsPlace (Cell name i) = IsTrue (is_name name) × IsWord i
IsPlace Keep = Unit {0}
IsPlace (Address at) = IsWord at

-- a text whose numbers are words and whose names are names
abbrev pub IsText : LineText → Type 0
IsText (Boot n) = IsWord n
IsText (Begin task) = IsWord task
IsText (Look site time) = IsWord site × IsWord time
IsText (Kept site value) = IsWord site × IsWord value
IsText (Drop site) = IsWord site
IsText (Issue site name args reading) = IsWord site × IsIssued name × AreArgs args × IsWord reading
IsText (Seal site) = IsWord site
IsText (Copy site from to words) = IsWord site × IsPlace from × IsPlace to × IsWord words
IsText (Commit next) = IsWord next
IsText (Trap code) = IsWord code
IsText (End ending) = IsWordEnd ending

-- a line of the grammar
pub record IsLine (l : ReportLine) : Type 0 where
  pub steps : IsWord l.steps
  pub text : IsText l.text

-- the text says how the run ended
abbrev pub is_end : LineText → Bool
is_end (Boot n) = false
is_end (Begin task) = false
is_end (Look site time) = false
is_end (Kept site value) = false
is_end (Drop site) = false
is_end (Issue site name args reading) = false
is_end (Seal site) = false
is_end (Copy site from to words) = false
is_end (Commit next) = false
is_end (Trap code) = false
is_end (End ending) = true

-- lines of the grammar, behind an end or not, of which the last, and only the last, is an end
abbrev pub AreLines : (ended : Bool) → List ReportLine → Type 0
AreLines ended [] = IsTrue ended
AreLines ended (l ∷ lines) = (ended ≡ false) × IsLine l × AreLines (is_end l.text) lines

-- the bytes are the full report of these lines
pub record IsReport (bytes : List ℕ) (lines : List ReportLine) : Type 0 where
  pub are : AreLines false lines
  pub spelled : bytes ≡ flat_map row lines

-- no line of the grammar stands at the front
abbrev pub NoLine : List ℕ → Type 0
NoLine bytes = (l : ReportLine) (behind : List ℕ) → IsLine l → bytes ≡ row l ++ behind → ⊥

-- behind so many lines of the grammar, of which none is an end but the last, there is no line, or something behind an end
abbrev pub IsRefused : (ended : Bool) → List ℕ → (before : ℕ) → Type 0
IsRefused true bytes zero = bytes ≢ []
IsRefused false bytes zero = NoLine bytes
IsRefused ended bytes (suc k) = (l : ReportLine) × (rest : List ℕ) × (ended ≡ false) × IsLine l × (bytes ≡ row l ++ rest) × IsRefused (is_end l.text) rest k

-- a reader answers these lines, unless memory fails
abbrev pub ReadsAs : List ReportLine → Result (List ReportLine) ReportError → Type 0
ReadsAs lines (Ok read) = read ≡ lines
ReadsAs lines (Err (fails.Line n)) = ⊥
ReadsAs lines (Err fails.NoMemory) = Unit {0}

-- a reader tells this line, unless memory fails
abbrev pub TellsLine : ℕ → Result (List ReportLine) ReportError → Type 0
TellsLine n (Ok read) = ⊥
TellsLine n (Err (fails.Line m)) = m ≡ n
TellsLine n (Err fails.NoMemory) = Unit {0}

-- a refusal tells the first line that may not stand; want of memory tells nothing
abbrev pub TellsFirst : List ℕ → ReportError → Type 0
TellsFirst bytes (fails.Line n) = (before : ℕ) × (n ≡ suc before) × IsRefused false bytes before
TellsFirst bytes fails.NoMemory = Unit {0}
