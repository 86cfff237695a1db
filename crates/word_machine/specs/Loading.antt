-- The code of an image as the machine holds it (docs/MACHINE.md, "The state").
use Rattle.std.specs.Prelude.{◌≡◌, ℕ, List, Some, None, length, slice_index_or, slice_set}
use Rattle.std.specs.Option.{unwrap_or, option_map}
use Rattle.word_isa.specs.Decoding.{decoded}
use Rattle.word_isa.specs.Marks.{mark_at}
use Rattle.word_isa.specs.declared.instr.Instr.TheVariants.{Halt}
use Rattle.word_isa.specs.declared.mark.Mark.{Mark}
use Rattle.word_machine.specs.Held.{instr_in, sign_in}
use Rattle.word_machine.specs.State.{sign_of}
use Rattle.word_machine.specs.declared.cell.Cell.{Cell}

-- the instruction of a word, without a sign
abbrev pub bare_cell : ℕ → Cell
bare_cell word = record { instr = unwrap_or (decoded word) Halt; sign = None }

-- what the mark says, put at its address
abbrev pub signed : Mark → List Cell → List Cell
signed m cells = slice_set cells m.at (record { instr = (slice_index_or cells m.at (bare_cell 0)).instr; sign = Some (sign_of m) })

-- the cells have their instructions as before, and what these marks say where no cell had a sign
pub record AreSigned (marks : List Mark) (before after : List Cell) : Type 0 where
  pub instrs : (at : ℕ) → instr_in after at ≡ instr_in before at
  pub count : length after ≡ length before
  pub signs : ((at : ℕ) → sign_in before at ≡ None) → (at : ℕ) → sign_in after at ≡ option_map sign_of (mark_at marks at)
