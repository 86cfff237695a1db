-- Lines of instructions: which stand from an address on, and where they lead (docs/MACHINE.md, "Straight lines").
use Rattle.std.specs.Prelude.{◌≡◌, ℕ, ◌+◌, Bool, true, false, List, [], ◌∷◌, ◌++◌, Some, None}
use Rattle.fram_ram.specs.Engine.{idle}
use Rattle.word_isa.specs.declared.instr.Instr.{Instr}
use Rattle.word_isa.specs.declared.instr.Instr.TheVariants.{Halt, Ldi, Lui, Mov, Add, Sub, Mul, Div, Rem, And, Or, Xor, Shl, Shr, Eq, Ltu, Adi, Ld, St, Jmp, Jz, Io, Time, Dma, Trap}
use Rattle.word_machine.specs.Instructions.{fault, act}
use Rattle.word_machine.specs.State.{Program, State}
use Rattle.word_machine.specs.Traces.{Atom, writes}
use Rattle.word_machine.specs.declared.ending.Ending.TheVariants.{Running}

-- this instruction stands at an address, without a mark
pub record Stand (p : Program) (at : ℕ) (i : Instr) : Type 0 where
  pub instr : p.instr at ≡ Some i
  pub mark : p.mark at ≡ None

-- these instructions stand from an address on
abbrev pub Stands : Program → ℕ → List Instr → Type 0
Stands p at [] = Unit {0}
Stands p at (i ∷ is) = Stand p at i × Stands p (at + 1) is

-- a machine that goes on, between two instructions
pub record Spot : Type 0 where
  pub pc : ℕ
  pub regs : ℕ → ℕ
  pub store : ℕ → ℕ
  pub clock : ℕ
  pub issued : ℕ → ℕ

-- its state
abbrev pub live : Spot → State
live s = record { pc = s.pc; regs = s.regs; store = s.store; engine = idle; clock = s.clock; issued = s.issued; ending = Running }

-- the instructions that neither jump nor end, and show no event without a mark
abbrev pub is_plain : Instr → Bool
is_plain Halt = false
is_plain (Ldi a m) = true
is_plain (Lui a m) = true
is_plain (Mov a b) = true
is_plain (Add a b) = true
is_plain (Sub a b) = true
is_plain (Mul a b) = true
is_plain (Div a b) = true
is_plain (Rem a b) = true
is_plain (And a b) = true
is_plain (Or a b) = true
is_plain (Xor a b) = true
is_plain (Shl a b) = true
is_plain (Shr a b) = true
is_plain (Eq a b) = true
is_plain (Ltu a b) = true
is_plain (Adi a m) = true
is_plain (Ld a b m) = true
is_plain (St a b m) = true
is_plain (Jmp t) = false
is_plain (Jz a m) = false
is_plain (Io a b m) = false
is_plain (Time a) = false
is_plain (Dma a b m) = false
is_plain (Trap m) = false

-- where the machine is after an instruction that neither jumps nor traps
abbrev pub after : Program → Instr → Spot → Spot
after p i s = spot (act p.values i (record (live s) { pc = s.pc + 1 }))
  where
    spot : State → Spot
    spot t = record { pc = s.pc + 1; regs = t.regs; store = t.store; clock = s.clock + 1; issued = s.issued }

-- where it is after a line of them
abbrev pub line : Program → List Instr → Spot → Spot
line p [] s = s
line p (i ∷ is) s = line p is (after p i s)

-- a line of plain instructions, none of which traps
abbrev pub Straight : Program → List Instr → Spot → Type 0
Straight p [] s = Unit {0}
Straight p (i ∷ is) s = (is_plain i ≡ true) × (fault i (live s) ≡ None) × Straight p is (after p i s)

-- what a line writes in FRAM
abbrev pub line_writes : Program → List Instr → Spot → List Atom
line_writes p [] s = []
line_writes p (i ∷ is) s = writes i (live s) ++ line_writes p is (after p i s)
