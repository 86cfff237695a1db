-- The lines of refusals.
use Rattle.std.specs.Prelude.{ℕ, List, [], ◌∷◌, ◌++◌, codes, decimal}
use Rattle.ease_base.specs.Lines.{line}
use Rattle.ease_base.specs.declared.place.Pos.{Pos}
use Rattle.ease_debug.specs.declared.error.ScriptError.{ScriptError}
use Rattle.ease_debug.specs.declared.error.ScriptError.TheVariants as script
use Rattle.image_file.specs.declared.error.ImageError.{ImageError}
use Rattle.image_file.specs.declared.error.ImageError.TheVariants as image
use Rattle.task_text.specs.declared.error.TextError.{TextError}
use Rattle.task_text.specs.declared.error.TextError.TheVariants as text
use Rattle.task_check.specs.declared.error.CheckError.{CheckError}
use Rattle.task_check.specs.declared.error.CheckError.TheVariants as check
use Rattle.task_check.specs.declared.error.Limit.{Limit}
use Rattle.world_file.specs.declared.error.WorldError.{WorldError}
use Rattle.world_file.specs.declared.error.WorldError.TheVariants as world
use Rattle.task_check.specs.declared.error.Limit.TheVariants.{Tasks, Names, NvWords, VolWords, Length, NameBytes, PeripheralNumber, Turns, Loops, Sites, KeptWords, Nodes}

-- line and column, with a colon between them
abbrev pub place : Pos → List ℕ
place at = decimal at.line ++ (58 ∷ decimal at.column)

abbrev pub usage : List ℕ
usage = line (codes "usage")

abbrev pub read_fault : List ℕ
read_fault = line (codes "read fault")

abbrev pub too_long : List ℕ
too_long = line (codes "too long")

-- where the text can't be divided or has no tree
abbrev pub syntax : Pos → List ℕ
syntax at = line (codes "source syntax at " ++ place at)

-- the place, and the name of what is wrong there
abbrev pub source : Pos → List ℕ → List ℕ
source at name = line (codes "source " ++ place at ++ 32 ∷ name)

-- the name of a limit
abbrev pub limit_name : Limit → List ℕ
limit_name Tasks = codes "tasks"
limit_name Names = codes "names"
limit_name NvWords = codes "nv-words"
limit_name VolWords = codes "vol-words"
limit_name Length = codes "length"
limit_name NameBytes = codes "name-bytes"
limit_name PeripheralNumber = codes "peripheral"
limit_name Turns = codes "turns"
limit_name Loops = codes "loops"
limit_name Sites = codes "sites"
limit_name KeptWords = codes "kept-words"
limit_name Nodes = codes "nodes"

-- the place of a limit that is passed, its name and the count
abbrev pub source_limit : Pos → Limit → ℕ → List ℕ
source_limit at limit count = source at (codes "limit " ++ limit_name limit ++ 32 ∷ decimal count)

-- the line of a text that is refused; want of memory has none
abbrev pub text_line : TextError → List ℕ
text_line (text.Syntax at) = syntax at
text_line (text.NumberTooWide at) = source at (codes "number-too-wide")
text_line text.NoMemory = []

-- the line of a tree that is refused; want of memory has none
abbrev pub check_line : CheckError → List ℕ
check_line (check.UnknownName at) = source at (codes "unknown-name")
check_line (check.TwiceNamed at) = source at (codes "twice-named")
check_line (check.WrongKind at) = source at (codes "wrong-kind")
check_line (check.ConstWritten at) = source at (codes "const-written")
check_line (check.DmaUnderIf at) = source at (codes "dma-under-if")
check_line (check.TooMany at) = source at (codes "too-many")
check_line (check.LimitReached at limit count) = source_limit at limit count
check_line check.NoMemory = []

-- what is wrong with a file, with a number behind it
abbrev pub numbered : List ℕ → ℕ → List ℕ
numbered name n = line (name ++ 32 ∷ decimal n)

-- the line of bytes that are no world; want of memory has none
abbrev pub world_line : WorldError → List ℕ
world_line world.NotToml = line (codes "world not-toml")
world_line world.BadKey = line (codes "world bad-key")
world_line world.BadValue = line (codes "world bad-value")
world_line world.UnknownPeripheral = line (codes "world unknown-peripheral")
world_line (world.TooManySteps sum) = numbered (codes "world too-many-steps") sum
world_line (world.TooManyTicks sum) = numbered (codes "world too-many-ticks") sum
world_line world.NoMemory = []

-- the line of bytes that are no image; want of memory has none
abbrev pub image_line : ImageError → List ℕ
image_line image.BadMagic = line (codes "image bad-magic")
image_line (image.BadVersion n) = numbered (codes "image bad-version") n
image_line (image.BadScheme n) = numbered (codes "image bad-scheme") n
image_line image.Short = line (codes "image short")
image_line (image.TooLarge n) = numbered (codes "image too-large") n
image_line (image.BadWord n) = numbered (codes "image bad-word") n
image_line (image.BadSymbol n) = numbered (codes "image bad-symbol") n
image_line (image.BadMark n) = numbered (codes "image bad-mark") n
image_line image.Trailing = line (codes "image trailing")
image_line image.NoMemory = []

-- the line of bytes that are no script; want of memory has none
abbrev pub script_line : ScriptError → List ℕ
script_line (script.Line n) = numbered (codes "script line") n
script_line script.NoMemory = []
