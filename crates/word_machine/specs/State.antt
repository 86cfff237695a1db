-- The machine's state, and what no step changes (docs/MACHINE.md, "The state").
use Rattle.std.specs.Prelude.{ℕ, List, Option, nat_lt, slice_get, slice_index, if◌then◌else◌}
use Rattle.std.specs.Option.{option_map, option_and_then}
use Rattle.fram_ram.specs.Engine.{Transfer, idle}
use Rattle.word_isa.specs.Decoding.{decoded}
use Rattle.word_isa.specs.Marks.{mark_at}
use Rattle.word_isa.specs.declared.instr.Instr.{Instr}
use Rattle.word_isa.specs.declared.mark.Mark.{Mark}
use Rattle.word_machine.specs.declared.cell.Sign.{Sign}
use Rattle.word_machine.specs.declared.ending.Ending.{Ending}
use Rattle.word_machine.specs.declared.ending.Ending.TheVariants.{Running}

-- the instruction and the mark at each code address, and the readings of each peripheral
pub record Program : Type 0 where
  pub instr : ℕ → Option Instr
  pub mark : ℕ → Option Sign
  pub values : ℕ → List ℕ

-- registers and memory as functions from their numbers and addresses to words; `issued` has the counts of issues
pub record State : Type 0 where
  pub pc : ℕ
  pub regs : ℕ → ℕ
  pub store : ℕ → ℕ
  pub engine : Transfer
  pub clock : ℕ
  pub issued : ℕ → ℕ
  pub ending : Ending

-- what a mark says of the instruction at its address
abbrev pub sign_of : Mark → Sign
sign_of m = record { kind = m.kind; site = m.site }

-- the program of these code words and marks, with these readings
abbrev pub program_of : (code : List ℕ) → List Mark → (values : ℕ → List ℕ) → Program
program_of code marks values = record {
  instr = λ at. option_and_then decoded (slice_get code at);
  mark = λ at. option_map sign_of (mark_at marks at);
  values = values;
}

-- the sixteen registers, all with the same word
abbrev pub all_registers : (word : ℕ) → ℕ → ℕ
all_registers word = λ r. if nat_lt r 16 then word else 0

-- the state at the first boot: FRAM begins with these words, and everything else is 0
abbrev pub start : (fram : List ℕ) → State
start fram = record { pc = 0; regs = λ _. 0; store = slice_index fram; engine = idle; clock = 0; issued = λ _. 0; ending = Running }
