-- Memory at the end of a run, and the word of a nonvolatile variable there (docs/COMMANDS.md, "Soak").
use Rattle.std.specs.Prelude.{ℕ, ◌+◌, Bool, true, false, ◌&&◌, List, [], ◌∷◌, Option, Some, None, if◌then◌else◌}
use Rattle.std.specs.Str.{bytes_eq}
use Rattle.devices.specs.Reading.{values_in}
use Rattle.devices.specs.declared.world.PowerRow.{PowerRow}
use Rattle.devices.specs.declared.world.World.{World}
use Rattle.power_trace.specs.Run.{program_in}
use Rattle.task_ast.specs.declared.tree.Kind.{Kind}
use Rattle.task_ast.specs.declared.tree.Kind.TheVariants.{Nv, Const, Vol}
use Rattle.word_isa.specs.declared.image.Image.{Image}
use Rattle.word_isa.specs.declared.parts.Symbol.{Symbol}
use Rattle.word_machine.specs.Places.{bank_offset}
use Rattle.word_machine.specs.Runs.{fail_behind}
use Rattle.word_machine.specs.State.{Program, State, start}
use Rattle.word_machine.specs.Step.{exec}

-- the state behind all power rows, as the journal's end is that of the machine behind all of them
unfoldable pub last_state : Program → List PowerRow → State → State
last_state p [] s = s
last_state p (row ∷ rows) s = last_state p rows (fail_behind row (exec p row.on s))

-- the state of an image's machine at the end of its run on a world
abbrev pub end_on : Image → World → State
end_on image world = last_state (program_in image (values_in world.feeds)) world.power (start image.fram)

abbrev pub is_nonvolatile : Kind → Bool
is_nonvolatile Nv = true
is_nonvolatile Const = false
is_nonvolatile Vol = false

-- where the first nonvolatile symbol of a name begins, in the first bank
unfoldable pub base_of : (name : List ℕ) → List Symbol → Option ℕ
base_of name [] = None
base_of name (s ∷ symbols) = if is_nonvolatile s.kind && bytes_eq s.name name then Some s.base else base_of name symbols

-- the word there, so far above it; 0 where there is none
abbrev pub word_above : Option ℕ → (offset : ℕ) → (ℕ → ℕ) → ℕ
word_above None offset store = 0
word_above (Some base) offset store = store (base + offset)

-- the first word of a nonvolatile variable, in the bank in use
abbrev pub word_named : (name : List ℕ) → Image → (ℕ → ℕ) → ℕ
word_named name image store = word_above (base_of name image.symbols) (bank_offset image.state image.stride store) store
