-- What steps show to whoever watches FRAM and the events: a list of atoms (docs/MACHINE.md, "Traces").
use Rattle.std.specs.Prelude.{ℕ, zero, suc, ◌==◌, List, [], ◌∷◌, ◌++◌, Option, Some, None, if◌then◌else◌}
use Rattle.devices.specs.declared.event.Event.{Event}
use Rattle.fram_ram.specs.Memories.{is_fram, put}
use Rattle.fram_ram.specs.Engine.{next_source, next_destination}
use Rattle.word_isa.specs.declared.instr.Instr.{Instr}
use Rattle.word_isa.specs.declared.instr.Instr.TheVariants.{Halt, Ldi, Lui, Mov, Add, Sub, Mul, Div, Rem, And, Or, Xor, Shl, Shr, Eq, Ltu, Adi, Ld, St, Jmp, Jz, Io, Time, Dma, Trap}
use Rattle.word_machine.specs.Events.{event_next}
use Rattle.word_machine.specs.Instructions.{address, fault}
use Rattle.word_machine.specs.State.{Program, State}
use Rattle.word_machine.specs.Step.{can_move, step}
use Rattle.word_machine.specs.declared.ending.Ending.{Ending}
use Rattle.word_machine.specs.declared.ending.Ending.TheVariants.{Running, Halted, Trapped}

-- a word that was written in FRAM, or an event
pub data Atom : Type 0 where
  wrote : (at word : ℕ) → Atom
  showed : Event → Atom

-- a write, where it is one of FRAM
abbrev pub noted : (at word : ℕ) → List Atom
noted at word = if is_fram at then wrote at word ∷ [] else []

-- what an instruction that doesn't trap writes in FRAM
abbrev pub writes : Instr → State → List Atom
writes Halt s = []
writes (Ldi a m) s = []
writes (Lui a m) s = []
writes (Mov a b) s = []
writes (Add a b) s = []
writes (Sub a b) s = []
writes (Mul a b) s = []
writes (Div a b) s = []
writes (Rem a b) s = []
writes (And a b) s = []
writes (Or a b) s = []
writes (Xor a b) s = []
writes (Shl a b) s = []
writes (Shr a b) s = []
writes (Eq a b) s = []
writes (Ltu a b) s = []
writes (Adi a m) s = []
writes (Ld a b m) s = []
writes (St a b m) s = noted (address s b m) (s.regs a)
writes (Jmp t) s = []
writes (Jz a m) s = []
writes (Io a b m) s = []
writes (Time a) s = []
writes (Dma a b m) s = []
writes (Trap m) s = []

-- an event as atoms
abbrev pub shows : Option Event → List Atom
shows None = []
shows (Some e) = showed e ∷ []

-- nothing where an instruction traps
abbrev pub unless_trap : Option ℕ → List Atom → List Atom
unless_trap None atoms = atoms
unless_trap (Some code) atoms = []

-- what the instruction at the counter writes
abbrev pub fetched_writes : Option Instr → State → List Atom
fetched_writes None s = []
fetched_writes (Some i) s = unless_trap (fault i s) (writes i s)

-- what the engine's next word writes
abbrev pub moved_writes : State → List Atom
moved_writes s = if can_move s then noted (next_destination s.engine) (s.store (next_source s.engine)) else []

-- what a step writes
abbrev pub writes_at : Program → Ending → State → List Atom
writes_at p Running s = if s.engine.left == 0 then fetched_writes (p.instr s.pc) s else moved_writes s
writes_at p Halted s = []
writes_at p (Trapped code) s = []

unfoldable pub writes_next : Program → State → List Atom
writes_next p s = writes_at p s.ending s

-- what a step shows: its write and its event
abbrev pub seen : Program → State → List Atom
seen p s = writes_next p s ++ shows (event_next p s)

-- what so many steps show
unfoldable pub trace : Program → ℕ → State → List Atom
trace p zero s = []
trace p (suc n) s = seen p s ++ trace p n (step p s)

-- a store after the writes of a trace
abbrev pub applied : List Atom → (ℕ → ℕ) → ℕ → ℕ
applied [] store = store
applied (wrote at word ∷ atoms) store = applied atoms (put store at word)
applied (showed e ∷ atoms) store = applied atoms store
