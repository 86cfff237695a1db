-- What the bytes of a file are, after the files before it, and why they are refused.
use Rattle.std.specs.Prelude.{◌≡◌, ℕ, suc, false, List, [], ◌∷◌, Option, Some, None}
use Rattle.devices.specs.declared.world.World.{World}
use Rattle.ease_base.specs.declared.place.Peripheral.{Peripheral}
use Rattle.audit_laws.specs.Answers.{no_report}
use Rattle.audit_verdict.specs.Texts.{answer_text}
use Rattle.ease_cli.specs.Files.{Kind, source_file, image_file, world_file, script_file, report_file}
use Rattle.ease_cli.specs.Lines.{text_line, check_line, image_line, world_line, script_line}
use Rattle.ease_cli.specs.declared.status.Status.{Status}
use Rattle.ease_cli.specs.declared.status.Status.TheVariants.{SourceRefused, ImageRefused, WorldRefused, ScriptRefused, ReportRefused}
use Rattle.ease_debug.specs.Commands.{lines_of, AreCommands, IsFirstRefused}
use Rattle.ease_debug.specs.declared.command.Script.{Script}
use Rattle.ease_debug.specs.declared.error.ScriptError.TheVariants.{Line}
use Rattle.image_file.specs.Bytes.{image_bytes, HasFields}
use Rattle.image_file.specs.Faults.{image_fault}
use Rattle.image_file.specs.declared.error.ImageError.{ImageError}
use Rattle.report_text.specs.Grammar as grammar
use Rattle.report_text.specs.declared.line.ReportLine.{ReportLine}
use Rattle.task_ast.specs.declared.tree.Program.{Program}
use Rattle.task_check.specs.CheckedForm.{core_of}
use Rattle.task_check.specs.Faults.{Accepted, first_fault}
use Rattle.task_check.specs.declared.error.CheckError.{CheckError}
use Rattle.task_text.specs.Reads.{Reads, Refuses}
use Rattle.task_text.specs.declared.error.TextError.{TextError}
use Rattle.word_isa.specs.declared.image.Image.{Image}
use Rattle.world_file.specs.WorldFile.{world_of, world_fault}
use Rattle.world_file.specs.declared.error.WorldError.{WorldError}

-- what an accepted file is
pub data Input : Type 0 where
  tree : Program → Input
  image : Image → Input
  world : World → Input
  script : Script → Input
  report : List ReportLine → Input

-- the peripherals that a world may name: those of the program or the image before it
abbrev pub names_of : List Input → List Peripheral
names_of [] = []
names_of (tree p ∷ rest) = (core_of p).peripherals
names_of (image i ∷ rest) = i.peripherals
names_of (world w ∷ rest) = []
names_of (script s ∷ rest) = []
names_of (report lines ∷ rest) = []

-- a tree reads the source, and it is accepted
abbrev pub IsTree : List ℕ → Program → Type 0
IsTree bytes p = Reads bytes p × Accepted p

-- the bytes are those of the image
abbrev pub IsImage : List ℕ → Image → Type 0
IsImage bytes i = bytes ≡ image_bytes i

-- what is so of the image that is the first of the files
abbrev pub OfImage : List Input → (Image → Type 0) → Type 0
OfImage [] So = ⊥
OfImage (tree p ∷ rest) So = ⊥
OfImage (image i ∷ rest) So = So i
OfImage (world w ∷ rest) So = ⊥
OfImage (script s ∷ rest) So = ⊥
OfImage (report lines ∷ rest) So = ⊥

-- the lines of the bytes give the script's commands for the image before it
abbrev pub IsScript : List Input → List ℕ → Script → Type 0
IsScript before bytes s = OfImage before (λ i. AreCommands i (lines_of bytes) s.lines)

-- what the bytes of a file are, after the files before it
abbrev pub IsInput : Kind → List Input → List ℕ → Input → Type 0
IsInput source_file before bytes (tree p) = IsTree bytes p
IsInput image_file before bytes (image i) = IsImage bytes i
IsInput world_file before bytes (world w) = world_of bytes (names_of before) ≡ Some w
IsInput script_file before bytes (script s) = IsScript before bytes s
IsInput report_file before bytes (report lines) = grammar.IsReport bytes lines
IsInput source_file before bytes (image i) = ⊥
IsInput source_file before bytes (world w) = ⊥
IsInput source_file before bytes (script s) = ⊥
IsInput image_file before bytes (tree p) = ⊥
IsInput image_file before bytes (world w) = ⊥
IsInput image_file before bytes (script s) = ⊥
IsInput world_file before bytes (tree p) = ⊥
IsInput world_file before bytes (image i) = ⊥
IsInput world_file before bytes (script s) = ⊥
IsInput script_file before bytes (tree p) = ⊥
IsInput script_file before bytes (image i) = ⊥
IsInput script_file before bytes (world w) = ⊥
IsInput source_file before bytes (report lines) = ⊥
IsInput image_file before bytes (report lines) = ⊥
IsInput world_file before bytes (report lines) = ⊥
IsInput script_file before bytes (report lines) = ⊥
IsInput report_file before bytes (tree p) = ⊥
IsInput report_file before bytes (image i) = ⊥
IsInput report_file before bytes (world w) = ⊥
IsInput report_file before bytes (script s) = ⊥

-- The text is the line of the source's fault: no tree reads it, or its tree isn't accepted.
pub data IsSourceLine (bytes text : List ℕ) : Type 0 where
  unread : (fault : TextError) → Refuses bytes fault → text ≡ text_line fault → IsSourceLine bytes text
  unaccepted : (program : Program) (fault : CheckError) → Reads bytes program → first_fault program ≡ Some fault → text ≡ check_line fault → IsSourceLine bytes text

-- the tree isn't accepted, and the text is the line of its first fault
pub record IsUnaccepted (p : Program) (status : Status) (text : List ℕ) : Type 0 where
  pub status_is : status ≡ SourceRefused
  pub fault : CheckError
  pub first : first_fault p ≡ Some fault
  pub line : text ≡ check_line fault

-- the text is the line of the first line of a script that may not stand, for the image before it
abbrev pub IsScriptLine : List Input → List ℕ → List ℕ → Type 0
IsScriptLine before bytes text = OfImage before (λ i. (n : ℕ) × IsFirstRefused i (lines_of bytes) n × (text ≡ script_line (Line n)))

-- the text tells the first line that no report has there
abbrev pub IsReportLine : List ℕ → List ℕ → Type 0
IsReportLine bytes text = (n : ℕ) × grammar.IsRefused false bytes n × (text ≡ answer_text (no_report (suc n)))

-- the text is the line of the first fault of the file
abbrev pub IsLineOf : Kind → List Input → List ℕ → List ℕ → Type 0
IsLineOf source_file before bytes text = IsSourceLine bytes text
IsLineOf image_file before bytes text = (fault : ImageError) × (image_fault bytes ≡ Some fault) × (text ≡ image_line fault)
IsLineOf world_file before bytes text = (fault : WorldError) × (world_fault bytes (names_of before) ≡ Some fault) × (text ≡ world_line fault)
IsLineOf script_file before bytes text = IsScriptLine before bytes text
IsLineOf report_file before bytes text = IsReportLine bytes text

abbrev pub refused_status : Kind → Status
refused_status source_file = SourceRefused
refused_status image_file = ImageRefused
refused_status world_file = WorldRefused
refused_status script_file = ScriptRefused
refused_status report_file = ReportRefused

-- nothing that could be accepted stands in the file
abbrev pub IsNoInput : Kind → List Input → List ℕ → Type 0
IsNoInput source_file before bytes = (p : Program) → IsTree bytes p → ⊥
IsNoInput image_file before bytes = (i : Image) → HasFields i → IsImage bytes i → ⊥
IsNoInput world_file before bytes = (w : World) → world_of bytes (names_of before) ≡ Some w → ⊥
IsNoInput script_file before bytes = (s : Script) → IsScript before bytes s → ⊥
IsNoInput report_file before bytes = (lines : List ReportLine) → grammar.IsReport bytes lines → ⊥

-- The file is refused, with the status and the line of its first fault; nothing that could be accepted stands in it.
pub record IsRefused (kind : Kind) (before : List Input) (bytes : List ℕ) (status : Status) (text : List ℕ) : Type 0 where
  pub status_is : status ≡ refused_status kind
  pub line : IsLineOf kind before bytes text
  pub none : IsNoInput kind before bytes
