-- The lines that show words, registers and reasons (docs/COMMANDS.md, "The debugger").
use Rattle.std.specs.Prelude.{ℕ, ◌+◌, List, [], ◌++◌, codes, Option, Some, None, slice_get}
use Rattle.std.specs.List.{flat_map}
use Rattle.ease_debug.specs.declared.end.DebugEnd.{DebugEnd}
use Rattle.ease_debug.specs.declared.end.DebugEnd.TheVariants as ended
use Rattle.ease_debug.specs.declared.why.Why.{Why}
use Rattle.ease_debug.specs.declared.why.Why.TheVariants.{NotReached, Kept, Looked, First, Dropped, Repeated}
use Rattle.power_trace.specs.Report.{number}
use Rattle.task_ast.specs.declared.tree.Kind.{Kind}
use Rattle.task_ast.specs.declared.tree.Kind.TheVariants.{Nv, Const, Vol}
use Rattle.word_isa.specs.declared.image.Image.{Image}
use Rattle.word_isa.specs.declared.parts.Symbol.{Symbol}
use Rattle.word_machine.specs.Places.{bank_offset, words_from}

-- how far the words in use of a symbol lie above its base: only nonvolatile ones have a second bank
abbrev pub offset_in_use : Kind → (state stride : ℕ) → (ℕ → ℕ) → ℕ
offset_in_use Nv state stride store = bank_offset state stride store
offset_in_use Const state stride store = 0
offset_in_use Vol state stride store = 0

-- the words of a symbol, in the bank in use
abbrev pub words_in_use : Image → Symbol → (ℕ → ℕ) → List ℕ
words_in_use image s store = words_from s.length (s.base + offset_in_use s.kind image.state image.stride store) store

-- a symbol's words behind its name
abbrev pub words_line : Image → Symbol → (ℕ → ℕ) → List ℕ
words_line image s store = s.name ++ codes " =" ++ flat_map number (words_in_use image s store) ++ codes "\n"

abbrev pub words_line_if : Image → Option Symbol → (ℕ → ℕ) → List ℕ
words_line_if image None store = []
words_line_if image (Some s) store = words_line image s store

-- the symbol at a place of the image
abbrev pub show_line : Image → (k : ℕ) → (ℕ → ℕ) → List ℕ
show_line image k store = words_line_if image (slice_get image.symbols k) store

-- the counter and the sixteen registers
abbrev pub regs_line : (pc : ℕ) → (regs : ℕ → ℕ) → List ℕ
regs_line pc regs = codes "regs" ++ number pc ++ flat_map number (words_from 16 0 regs) ++ codes "\n"

abbrev pub why_word : Why → List ℕ
why_word NotReached = codes "not-reached"
why_word Kept = codes "kept"
why_word Looked = codes "looked"
why_word First = codes "first"
why_word Dropped = codes "dropped"
why_word Repeated = codes "repeated"

-- a site and why it was last decided as it was
abbrev pub why_line : (site : ℕ) → Why → List ℕ
why_line site reason = codes "why" ++ number site ++ codes " " ++ why_word reason ++ codes "\n"

-- the last line
abbrev pub last_line : DebugEnd → List ℕ
last_line ended.Script = codes "end script\n"
last_line ended.Halted = codes "end halted\n"
last_line (ended.Trapped code) = codes "end trapped" ++ number code ++ codes "\n"
last_line ended.Power = codes "end power\n"
