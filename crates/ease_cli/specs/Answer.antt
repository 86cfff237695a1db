-- What a command line says, once for every command: a status, and the bytes that are written with it.
use Rattle.std.specs.Prelude.{◌≡◌, ℕ, ◌<◌, List, [], ◌∷◌, ◌++◌, Option, Some, None, Result, Ok, Err}
use Rattle.command_line.specs.Form.{Form}
use Rattle.ease_base.specs.Sink.{extended, TookFront}
use Rattle.ease_cli.specs.Files.{Wanted, wanted, limit_of, Files, IsQuiet, IsBrought, IsUnbrought}
use Rattle.ease_cli.specs.Inputs.{Input, IsInput, IsRefused}
use Rattle.ease_cli.specs.Lines.{usage}
use Rattle.ease_cli.specs.Output.{IsOutput}
use Rattle.ease_cli.specs.declared.refusal.Refusal.{Refusal}
use Rattle.ease_cli.specs.declared.refusal.Refusal.TheVariants as refusal
use Rattle.ease_cli.specs.declared.status.Status.{Status}
use Rattle.ease_cli.specs.declared.status.Status.TheVariants as ends

-- the file was brought, and is this input
pub record IsRead (f : Files) (at : Wanted) (before : List Input) (input : Input) : Type 0 where
  pub bytes : List ℕ
  pub brought : IsBrought f at.name (limit_of at.kind) bytes
  pub is : IsInput at.kind before bytes input

-- each of the files, in their order, was brought and is its input
abbrev pub AreRead : Files → List Input → List Wanted → List Input → Type 0
AreRead f before [] [] = Unit {0}
AreRead f before (at ∷ rest) (input ∷ inputs) = IsRead f at before input × AreRead f (before ++ input ∷ []) rest inputs
AreRead f before [] (input ∷ inputs) = ⊥
AreRead f before (at ∷ rest) [] = ⊥

-- the file was brought, and is refused
pub record IsReadInVain (f : Files) (at : Wanted) (before : List Input) (status : Status) (text : List ℕ) : Type 0 where
  pub bytes : List ℕ
  pub brought : IsBrought f at.name (limit_of at.kind) bytes
  pub refused : IsRefused at.kind before bytes status text

-- Why a file ends a command, with the status and the line: it wasn't brought, or it is refused.
pub data Stops (f : Files) (at : Wanted) (before : List Input) (status : Status) (text : List ℕ) : Type 0 where
  unbrought : IsUnbrought f at.name (limit_of at.kind) status text → Stops f at before status text
  refused : IsQuiet f → IsReadInVain f at before status text → Stops f at before status text

-- this file comes next, and those before it are these inputs
pub record Reaches (f : Files) (c : Form) (at : Wanted) (before : List Input) : Type 0 where
  pub front : List Wanted
  pub back : List Wanted
  pub order : wanted c ≡ front ++ at ∷ back
  pub passed : AreRead f [] front before

-- What a command says: the line of the first of its files that ends it, or its output over all of them.
pub data Says (c : Form) (f : Files) (status : Status) (text : List ℕ) : Type 0 where
  stopped : (at : Wanted) (before : List Input) → Reaches f c at before → Stops f at before status text → Says c f status text
  done : (inputs : List Input) → IsQuiet f → AreRead f [] (wanted c) inputs → IsOutput c inputs status text → Says c f status text

-- what the words say: the same of their command, or `usage` where they are none
pub record IsUsage (f : Files) (status : Status) (text : List ℕ) : Type 0 where
  pub status_is : status ≡ ends.Usage
  pub line : text ≡ usage
  pub quiet : IsQuiet f

abbrev pub LineSays : Option Form → Files → Status → List ℕ → Type 0
LineSays None f status text = IsUsage f status text
LineSays (Some c) f status text = Says c f status text

-- What is written is what is said, and nothing else; after a write fault a front of something that is
-- said, and after want of memory nothing.
abbrev pub Writes : (Status → List ℕ → Type 0) → Status → Option (List ℕ) → Option (List ℕ) → Type 0
Writes says ends.WriteFault before after = (status : Status) × (text : List ℕ) × says status text × TookFront before after text
Writes says ends.NoMemory before after = after ≡ before
Writes says status before after = (text : List ℕ) × says status text × (after ≡ extended before text)

-- what a refusal tells, whose line isn't written yet; want of memory tells nothing
abbrev pub Tells : (Status → List ℕ → Type 0) → Refusal → Type 0
Tells says (refusal.Refused status line) = says status line
Tells says refusal.WriteFault = ⊥
Tells says refusal.NoMemory = Unit {0}

-- what a command answers, and has written by then
abbrev pub Answers : (Status → List ℕ → Type 0) → Result Status Refusal → Option (List ℕ) → Option (List ℕ) → Type 0
Answers says (Ok status) before after = (text : List ℕ) × says status text × (after ≡ extended before text)
Answers says (Err (refusal.Refused status line)) before after = says status line × (after ≡ before)
Answers says (Err refusal.WriteFault) before after = (status : Status) × (text : List ℕ) × says status text × TookFront before after text
Answers says (Err refusal.NoMemory) before after = after ≡ before

-- the statuses that a fault of the cabinet leaves: it is told, unless its line can't be written or memory ran out
abbrev pub TellsFetchFault : Status → Type 0
TellsFetchFault ends.ReadFault = Unit {0}
TellsFetchFault ends.WriteFault = Unit {0}
TellsFetchFault ends.NoMemory = Unit {0}
TellsFetchFault ends.Ok = ⊥
TellsFetchFault ends.Usage = ⊥
TellsFetchFault ends.SourceRefused = ⊥
TellsFetchFault ends.WorldRefused = ⊥
TellsFetchFault ends.ImageRefused = ⊥
TellsFetchFault ends.TooLong = ⊥
TellsFetchFault ends.Trapped = ⊥
TellsFetchFault ends.PowerEnded = ⊥
TellsFetchFault ends.ScriptRefused = ⊥
TellsFetchFault ends.ReportRefused = ⊥
TellsFetchFault ends.Illegal = ⊥
