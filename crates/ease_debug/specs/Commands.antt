-- The commands of a script, and the lines that give them (docs/COMMANDS.md, "The debugger").
use Rattle.std.specs.Prelude.{◌≡◌, ◌⊎◌, ℕ, ◌-◌, ◌<◌, ◌≤◌, ◌==◌, Bool, true, false, ◌&&◌, IsTrue, List, [], ◌∷◌, codes, decimal, length, nat_le, nat_lt, slice_get, Some, Result, Ok, Err}
use Rattle.std.specs.List.{list_any, slice_split}
use Rattle.ease_debug.specs.declared.command.Command.{Command}
use Rattle.ease_debug.specs.declared.command.Command.TheVariants.{Step, Fail, To, At, Show, Regs, Why}
use Rattle.ease_debug.specs.declared.command.Script.{Script}
use Rattle.ease_debug.specs.declared.error.ScriptError.{ScriptError}
use Rattle.ease_debug.specs.declared.error.ScriptError.TheVariants as fails
use Rattle.power_trace.specs.Report.{symbol_name}
use Rattle.word_isa.specs.declared.image.Image.{Image}
use Rattle.word_isa.specs.declared.mark.Mark.{Mark}
use Rattle.word_isa.specs.declared.mark.MarkKind.{MarkKind}
use Rattle.word_isa.specs.declared.mark.MarkKind.TheVariants as mark

-- a mark of an I/O site, a block or a copy, and not of a begin or a commit
abbrev pub is_of_site : MarkKind → Bool
is_of_site mark.Begin = false
is_of_site mark.Look = true
is_of_site mark.Kept = true
is_of_site mark.Drop = true
is_of_site mark.Issue = true
is_of_site mark.Seal = true
is_of_site mark.Copy = true
is_of_site mark.Commit = false

-- the mark is one of the site; and the same in a task
abbrev pub names : (site : ℕ) → Mark → Bool
names site m = is_of_site m.kind && m.site == site

abbrev pub names_of : (task site : ℕ) → Mark → Bool
names_of task site m = is_of_site m.kind && m.task == task && m.site == site

-- the site stands in a mark of the image; and the same in one of this task
abbrev pub has_site : Image → (site : ℕ) → Bool
has_site image site = list_any (names site) image.marks

abbrev pub has_site_of : Image → (task site : ℕ) → Bool
has_site_of image task site = list_any (names_of task site) image.marks

-- a number from one to another
abbrev pub is_from_to : (least most n : ℕ) → Bool
is_from_to least most n = nat_le least n && nat_le n most

-- the command may be given for the image
abbrev pub accepts : Image → Command → Bool
accepts image (Step n) = is_from_to 1 4194304 n
accepts image (Fail off fill) = nat_le off 4294967295 && nat_le fill 4294967295
accepts image (To site) = is_from_to 1 255 site && has_site image site
accepts image (At task site) = is_from_to 1 64 task && is_from_to 1 255 site && has_site_of image task site
accepts image (Show k) = nat_lt k (length image.symbols)
accepts image Regs = true
accepts image (Why site) = is_from_to 1 255 site && has_site image site

-- the words of the line that gives a command
abbrev pub spelled : Image → Command → List (List ℕ)
spelled image (Step n) = codes "step" ∷ decimal n ∷ []
spelled image (Fail off fill) = codes "fail" ∷ decimal off ∷ decimal fill ∷ []
spelled image (To site) = codes "to" ∷ decimal site ∷ []
spelled image (At task site) = codes "at" ∷ decimal task ∷ decimal site ∷ []
spelled image (Show k) = codes "show" ∷ symbol_name image.symbols k ∷ []
spelled image Regs = codes "regs" ∷ []
spelled image (Why site) = codes "why" ∷ decimal site ∷ []

-- the words of a line, parted at each space, and the lines of a text, parted at each line feed
abbrev pub words_of : List ℕ → List (List ℕ)
words_of line = slice_split (λ b. b == 32) line

abbrev pub lines_of : List ℕ → List (List ℕ)
lines_of text = slice_split (λ b. b == 10) text

-- the line gives the command, which may be given
pub record IsLine (image : Image) (line : List ℕ) (c : Command) : Type 0 where
  pub words : words_of line ≡ spelled image c
  pub accepted : IsTrue (accepts image c)

-- the lines give these commands in order, and each of them but the empty ones gives one
abbrev pub AreCommands : Image → List (List ℕ) → List Command → Type 0
AreCommands image [] commands = commands ≡ []
AreCommands image ([] ∷ lines) commands = AreCommands image lines commands
AreCommands image ((b ∷ line) ∷ lines) commands =
    (c : Command) × (rest : List Command) × (commands ≡ c ∷ rest) × IsLine image (b ∷ line) c × AreCommands image lines rest

-- the line may stand in a script
abbrev pub MayStand : Image → List ℕ → Type 0
MayStand image line = (line ≡ []) ⊎ ((c : Command) × IsLine image line c)

-- the n-th of these lines, from 1, is the first that may not stand
pub record IsFirstRefused (image : Image) (lines : List (List ℕ)) (n : ℕ) : Type 0 where
  pub line : List ℕ
  pub counted : 1 ≤ n
  pub at : slice_get lines (n - 1) ≡ Some line
  pub refused : MayStand image line → ⊥
  pub earlier : (k : ℕ) (before : List ℕ) → k < n - 1 → slice_get lines k ≡ Some before → MayStand image before

-- a reader answers these commands, unless memory fails
abbrev pub ReadsAs : List Command → Result Script ScriptError → Type 0
ReadsAs commands (Ok script) = script.lines ≡ commands
ReadsAs commands (Err (fails.Line n)) = ⊥
ReadsAs commands (Err fails.NoMemory) = Unit {0}

-- a refusal tells the first line that may not stand; want of memory tells nothing
abbrev pub TellsFirst : Image → List (List ℕ) → ScriptError → Type 0
TellsFirst image lines (fails.Line n) = IsFirstRefused image lines n
TellsFirst image lines fails.NoMemory = Unit {0}
