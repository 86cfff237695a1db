-- What each instruction does (docs/MACHINE.md, "An instruction's word").
use Rattle.std.specs.Prelude.{ℕ, ◌+◌, ◌-◌, ◌*◌, ◌/◌, ◌%◌, ◌^◌, ◌==◌, nat_lt, List, Option, Some, None, if◌then◌else◌, bit_and, bit_or, bit_xor}
use Rattle.fram_ram.specs.Memories.{has_word, put}
use Rattle.fram_ram.specs.Engine.{begun}
use Rattle.devices.specs.Reading.{reading}
use Rattle.devices.specs.Readings.{issued_after}
use Rattle.word_isa.specs.declared.instr.Instr.{Instr}
use Rattle.word_isa.specs.declared.instr.Instr.TheVariants.{Halt, Ldi, Lui, Mov, Add, Sub, Mul, Div, Rem, And, Or, Xor, Shl, Shr, Eq, Ltu, Adi, Ld, St, Jmp, Jz, Io, Time, Dma, Trap}
use Rattle.word_machine.specs.State.{State}
use Rattle.word_machine.specs.declared.ending.Ending.TheVariants.{Halted}

-- a register with another word; only sums, differences, products and shifts up can wrap
abbrev pub set : ℕ → ℕ → State → State
set a word s = record s { regs = put s.regs a word }

-- the address that LD and ST take; it wraps
abbrev pub address : State → ℕ → ℕ → ℕ
address s b m = (s.regs b + m) % 2 ^ 32

-- the next reading of the peripheral that an IO names
abbrev pub next_reading : (values : ℕ → List ℕ) → ℕ → State → ℕ
next_reading values m s = reading (values (m % 256)) (s.issued (m % 256) + 1)

-- the trap of an instruction at a state, if it has one
abbrev pub fault : Instr → State → Option ℕ
fault Halt s = None
fault (Ldi a m) s = None
fault (Lui a m) s = None
fault (Mov a b) s = None
fault (Add a b) s = None
fault (Sub a b) s = None
fault (Mul a b) s = None
fault (Div a b) s = if s.regs b == 0 then Some 2 else None
fault (Rem a b) s = if s.regs b == 0 then Some 2 else None
fault (And a b) s = None
fault (Or a b) s = None
fault (Xor a b) s = None
fault (Shl a b) s = None
fault (Shr a b) s = None
fault (Eq a b) s = None
fault (Ltu a b) s = None
fault (Adi a m) s = None
fault (Ld a b m) s = if has_word (address s b m) then None else Some 16
fault (St a b m) s = if has_word (address s b m) then None else Some 16
fault (Jmp t) s = None
fault (Jz a m) s = None
fault (Io a b m) s = None
fault (Time a) s = None
fault (Dma a b m) s = None
fault (Trap m) s = Some m

-- an instruction's effect where it doesn't trap; the counter already stands behind it, and `values` has the readings
abbrev pub act : (values : ℕ → List ℕ) → Instr → State → State
act values Halt s = record s { ending = Halted }
act values (Ldi a m) s = set a m s
act values (Lui a m) s = set a (m * 65536 + s.regs a % 65536) s
act values (Mov a b) s = set a (s.regs b) s
act values (Add a b) s = set a ((s.regs a + s.regs b) % 2 ^ 32) s
act values (Sub a b) s = set a ((s.regs a + (2 ^ 32 - s.regs b)) % 2 ^ 32) s
act values (Mul a b) s = set a (s.regs a * s.regs b % 2 ^ 32) s
act values (Div a b) s = set a (s.regs a / s.regs b) s
act values (Rem a b) s = set a (s.regs a % s.regs b) s
act values (And a b) s = set a (bit_and (s.regs a) (s.regs b)) s
act values (Or a b) s = set a (bit_or (s.regs a) (s.regs b)) s
act values (Xor a b) s = set a (bit_xor (s.regs a) (s.regs b)) s
act values (Shl a b) s = set a (if nat_lt (s.regs b) 32 then s.regs a * 2 ^ s.regs b % 2 ^ 32 else 0) s
act values (Shr a b) s = set a (if nat_lt (s.regs b) 32 then s.regs a / 2 ^ s.regs b else 0) s
act values (Eq a b) s = set a (if s.regs a == s.regs b then 1 else 0) s
act values (Ltu a b) s = set a (if nat_lt (s.regs a) (s.regs b) then 1 else 0) s
act values (Adi a m) s = set a ((s.regs a + m) % 2 ^ 32) s
act values (Ld a b m) s = set a (s.store (address s b m)) s
act values (St a b m) s = record s { store = put s.store (address s b m) (s.regs a) }
act values (Jmp t) s = record s { pc = t }
act values (Jz a m) s = record s { pc = if s.regs a == 0 then s.pc + m else s.pc }
act values (Io a b m) s = record (set a (next_reading values m s) s) { issued = issued_after values s.issued (m % 256) }
act values (Time a) s = set a (s.clock % 2 ^ 32) s
act values (Dma a b m) s = record s { engine = begun (s.regs a) (s.regs b) (s.regs m) }
act values (Trap m) s = s
