-- What code does where nothing jumps, and where an act ends.
use Rattle.std.specs.Prelude.{◌≡◌, ℕ, ◌+◌, ◌%◌, ◌^◌, ◌≤◌, Bool, true, false, ◌==◌, ◌&&◌, List, [], ◌∷◌, ◌++◌, Option, Some, None, if◌then◌else◌}
use Rattle.fram_ram.specs.Memories.{has_word, is_fram, is_ram}
use Rattle.word_isa.specs.declared.instr.Instr.{Instr}
use Rattle.word_isa.specs.declared.instr.Instr.TheVariants.{Halt, Ldi, Lui, Mov, Add, Sub, Mul, Div, Rem, And, Or, Xor, Shl, Shr, Eq, Ltu, Adi, Ld, St, Jmp, Jz, Io, Time, Dma, Trap}
use Rattle.line_code.specs.declared.line.Line.{Line}
use Rattle.line_code.specs.declared.line.Sign as line
use Rattle.word_machine.specs.declared.cell.Sign as cell
use Rattle.word_machine.specs.Events.{event}
use Rattle.word_machine.specs.Instructions.{fault, act}
use Rattle.word_machine.specs.State.{Program, State}
use Rattle.word_machine.specs.Step.{exec}
use Rattle.word_machine.specs.Straight.{Spot, live}
use Rattle.word_machine.specs.Traces.{Atom, writes, shows, trace}

-- the mark that a line has in a program
abbrev pub mark_of : Option line.Sign → Option cell.Sign
mark_of None = None
mark_of (Some sign) = Some (record { kind = sign.kind; site = sign.site })

-- the instructions behind which the machine goes on with the next one
abbrev pub flows : Instr → Bool
flows Halt = false
flows (Ldi a m) = true
flows (Lui a m) = true
flows (Mov a b) = true
flows (Add a b) = true
flows (Sub a b) = true
flows (Mul a b) = true
flows (Div a b) = true
flows (Rem a b) = true
flows (And a b) = true
flows (Or a b) = true
flows (Xor a b) = true
flows (Shl a b) = true
flows (Shr a b) = true
flows (Eq a b) = true
flows (Ltu a b) = true
flows (Adi a m) = true
flows (Ld a b m) = true
flows (St a b m) = true
flows (Jmp t) = false
flows (Jz a m) = false
flows (Io a b m) = true
flows (Time a) = true
flows (Dma a b m) = false
flows (Trap m) = false

-- where the machine is behind such an instruction
abbrev pub behind : Program → Instr → Spot → Spot
behind p i s = spot (act p.values i (record (live s) { pc = s.pc + 1 }))
  where
    spot : State → Spot
    spot t = record { pc = s.pc + 1; regs = t.regs; store = t.store; clock = s.clock + 1; issued = t.issued }

abbrev pub after_code : Program → List Line → Spot → Spot
after_code p [] s = s
after_code p (w ∷ code) s = after_code p code (behind p w.instr s)

abbrev pub is_safe : Option ℕ → Bool
is_safe None = true
is_safe (Some code) = false

-- no instruction of a line jumps or traps
abbrev pub ready : Program → List Line → Spot → Bool
ready p [] s = true
ready p (w ∷ code) s = flows w.instr && is_safe (fault w.instr (live s)) && ready p code (behind p w.instr s)

-- what a line shows
abbrev pub code_atoms : Program → List Line → Spot → List Atom
code_atoms p [] s = []
code_atoms p (w ∷ code) s = (writes w.instr (live s) ++ shows (event p.values (mark_of w.sign) w.instr (live s))) ++ code_atoms p code (behind p w.instr s)

-- so many steps lead from one place to another, and show this
pub record Goes (p : Program) (n : ℕ) (s t : Spot) (atoms : List Atom) : Type 0 where
  pub runs : exec p n (live s) ≡ live t
  pub seen : trace p n (live s) ≡ atoms

-- the words of the fixed registers but 0 and 15
pub record Fixed : Type 0 where
  pub committed : ℕ
  pub epoch : ℕ
  pub working : ℕ

-- registers of which the fixed ones are right
abbrev pub shaped : Fixed → (ℕ → ℕ) → ℕ → ℕ
shaped x regs r =
    if r == 0 then 0 else if r == 12 then x.committed else if r == 13 then x.epoch else if r == 14 then x.working else if r == 15 then 1048576 else regs r

abbrev pub HasFixed : Fixed → Spot → Type 0
HasFixed x s = (s.regs 0 ≡ 0) × (s.regs 12 ≡ x.committed) × (s.regs 13 ≡ x.epoch) × (s.regs 14 ≡ x.working) × (s.regs 15 ≡ 1048576)

abbrev pub top : Fixed → Spot → Spot
top x s = record s { regs = shaped x s.regs }

-- how an act ends: where, with which store and counts of issues, and what was seen
pub record End : Type 0 where
  pub pc : ℕ
  pub store : ℕ → ℕ
  pub issued : ℕ → ℕ
  pub atoms : List Atom

-- within so many steps the machine comes to an end, and the fixed registers are right
pub record Acts (p : Program) (x : Fixed) (most : ℕ) (s : Spot) (e : End) : Type 0 where
  pub steps : ℕ
  pub few : steps ≤ most
  pub there : Spot
  pub goes : Goes p steps s there e.atoms
  pub at : there.pc ≡ e.pc
  pub fixed : HasFixed x there
  pub stored : there.store ≡ e.store
  pub counts : there.issued ≡ e.issued

-- an address of FRAM, as the machine finds it from register 0
pub record FramCell (a : ℕ) : Type 0 where
  pub fram : is_fram a ≡ true
  pub there : has_word a ≡ true
  pub wraps : (0 + a) % 2 ^ 32 ≡ a

-- an address of RAM, as the machine finds it from register 15
pub record RamCell (m : ℕ) : Type 0 where
  pub apart : is_fram (1048576 + m) ≡ false
  pub ram : is_ram (1048576 + m) ≡ true
  pub wraps : (1048576 + m) % 2 ^ 32 ≡ 1048576 + m
