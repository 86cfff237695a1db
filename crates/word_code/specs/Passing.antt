-- Lines of code whose words and marks pass the tests of an image.
use Rattle.std.specs.Prelude.{ℕ, ◌+◌, ◌/◌, ◌<◌, ◌≤◌, Bool, ◌&&◌, nat_lt, List, Option, Some, None, IsTrue, ⊤}
use Rattle.std.specs.List.{AllByRecursion}
use Rattle.word_isa.specs.declared.instr.Instr.{Instr}
use Rattle.word_isa.specs.declared.instr.Instr.TheVariants.{Halt, Ldi, Lui, Mov, Add, Sub, Mul, Div, Rem, And, Or, Xor, Shl, Shr, Eq, Ltu, Adi, Ld, St, Jmp, Jz, Io, Time, Dma, Trap}
use Rattle.word_isa.specs.Instructions.{FitsFields}
use Rattle.word_isa.specs.Marks.{may_stand, site_passes, task_passes}
use Rattle.line_code.specs.declared.line.Line.{Line}
use Rattle.line_code.specs.declared.line.Sign.{Sign}

-- the number of a register
abbrev pub is_register : ℕ → Bool
is_register a = nat_lt a 16

abbrev pub are_registers : (a b : ℕ) → Bool
are_registers a b = is_register a && is_register b

-- An instruction's registers are there, it goes to a place of 24 bits, and a call has at most four arguments, in registers.
-- Its other operand is 16 bits wide by its type.
abbrev pub HasRegisters : Instr → Type 0
HasRegisters Halt = ⊤
HasRegisters (Ldi a m) = IsTrue (is_register a)
HasRegisters (Lui a m) = IsTrue (is_register a)
HasRegisters (Mov a b) = IsTrue (are_registers a b)
HasRegisters (Add a b) = IsTrue (are_registers a b)
HasRegisters (Sub a b) = IsTrue (are_registers a b)
HasRegisters (Mul a b) = IsTrue (are_registers a b)
HasRegisters (Div a b) = IsTrue (are_registers a b)
HasRegisters (Rem a b) = IsTrue (are_registers a b)
HasRegisters (And a b) = IsTrue (are_registers a b)
HasRegisters (Or a b) = IsTrue (are_registers a b)
HasRegisters (Xor a b) = IsTrue (are_registers a b)
HasRegisters (Shl a b) = IsTrue (are_registers a b)
HasRegisters (Shr a b) = IsTrue (are_registers a b)
HasRegisters (Eq a b) = IsTrue (are_registers a b)
HasRegisters (Ltu a b) = IsTrue (are_registers a b)
HasRegisters (Adi a m) = IsTrue (is_register a)
HasRegisters (Ld a b m) = IsTrue (are_registers a b)
HasRegisters (St a b m) = IsTrue (are_registers a b)
HasRegisters (Jmp t) = t < 16777216
HasRegisters (Jz a m) = IsTrue (is_register a)
HasRegisters (Io a b m) = IsTrue (are_registers a b) × (m / 256 ≤ 4) × (b + m / 256 ≤ 16)
HasRegisters (Time a) = IsTrue (is_register a)
HasRegisters (Dma a b m) = IsTrue (are_registers a b && is_register m)
HasRegisters (Trap m) = ⊤

-- what a line stands for may stand at its instruction, at that site and in that task
abbrev pub is_placed : Sign → Instr → Bool
is_placed s i = may_stand s.kind i && site_passes s.kind s.site && task_passes 2 s.kind s.site s.task

abbrev pub MayStand : Option Sign → Instr → Type 0
MayStand None i = ⊤
MayStand (Some s) i = IsTrue (is_placed s i)

-- a line passes
abbrev pub Passes : Line → Type 0
Passes l = HasRegisters l.instr × MayStand l.sign l.instr

-- so does each of these lines
abbrev pub AllPass : List Line → Type 0
AllPass lines = AllByRecursion Passes lines

-- the operands of each of these lines fit their fields
abbrev pub Fits : Line → Type 0
Fits l = FitsFields l.instr

abbrev pub AllFit : List Line → Type 0
AllFit lines = AllByRecursion Fits lines
