-- What a machine holds, and the state that this is (docs/MACHINE.md, "The state").
use Rattle.std.specs.Prelude.{ℕ, List, Option, slice_get, slice_index}
use Rattle.std.specs.Option.{option_map, option_and_then}
use Rattle.devices.specs.Readings.{values_of, issued_of}
use Rattle.devices.specs.declared.outside.Outside.{Outside}
use Rattle.fram_ram.specs.Engine.{Transfer, idle}
use Rattle.fram_ram.specs.Memories.{Contents, words}
use Rattle.word_isa.specs.declared.instr.Instr.{Instr}
use Rattle.word_machine.specs.State.{Program, State}
use Rattle.word_machine.specs.declared.cell.Cell.{Cell}
use Rattle.word_machine.specs.declared.cell.Sign.{Sign}
use Rattle.word_machine.specs.declared.ending.Ending.{Ending}
use Rattle.word_machine.specs.declared.ending.Ending.TheVariants.{Running}

-- the parts that a step changes, with registers and memories as lists
pub record Held : Type 0 where
  pub pc : ℕ
  pub registers : List ℕ
  pub memories : Contents
  pub engine : Transfer
  pub ending : Ending

-- these parts and the code
pub record Loaded : Type 0 where
  pub code : List Cell
  pub held : Held

-- these parts with registers and memories as functions
pub record Core : Type 0 where
  pub pc : ℕ
  pub regs : ℕ → ℕ
  pub store : ℕ → ℕ
  pub engine : Transfer
  pub ending : Ending

unfoldable pub core_of : Held → Core
core_of h = record { pc = h.pc; regs = slice_index h.registers; store = words h.memories; engine = h.engine; ending = h.ending }

-- at the first boot: FRAM begins with these words
abbrev pub first_core : (fram : List ℕ) → Core
first_core fram = record { pc = 0; regs = λ _. 0; store = slice_index fram; engine = idle; ending = Running }

-- with a clock and counts of issues they are a state
abbrev pub state_with : Core → (clock : ℕ) → (issued : ℕ → ℕ) → State
state_with c clock issued = record { pc = c.pc; regs = c.regs; store = c.store; engine = c.engine; clock = clock; issued = issued; ending = c.ending }

-- the state of these parts beside what is outside
abbrev pub state_in : Held → Outside → State
state_in h w = state_with (core_of h) w.clock (issued_of w.readings)

-- the instruction and the sign at an address of this code
abbrev pub instr_in : List Cell → ℕ → Option Instr
instr_in code at = option_map (λ c. c.instr) (slice_get code at)

abbrev pub sign_in : List Cell → ℕ → Option Sign
sign_in code at = option_and_then (λ c. c.sign) (slice_get code at)

-- the program that this code is, with these readings
abbrev pub program_with : List Cell → (values : ℕ → List ℕ) → Program
program_with code values = record { instr = instr_in code; mark = sign_in code; values = values }

-- the program of a machine beside what is outside
abbrev pub program_in : Loaded → Outside → Program
program_in m w = program_with m.code (values_of w.readings)
