-- The event of a step, and what the step answers (docs/MACHINE.md, "Events").
use Rattle.std.specs.Prelude.{ℕ, ◌+◌, ◌-◌, ◌/◌, ◌%◌, ◌^◌, ◌==◌, nat_lt, List, Option, Some, None, if◌then◌else◌}
use Rattle.devices.specs.declared.event.Args.{Args}
use Rattle.devices.specs.declared.event.Event.{Event}
use Rattle.devices.specs.declared.event.Event.TheVariants as the
use Rattle.fram_ram.specs.Engine.{length_of}
use Rattle.word_isa.specs.declared.instr.Instr.{Instr}
use Rattle.word_isa.specs.declared.instr.Instr.TheVariants.{Halt, Ldi, Lui, Mov, Add, Sub, Mul, Div, Rem, And, Or, Xor, Shl, Shr, Eq, Ltu, Adi, Ld, St, Jmp, Jz, Io, Time, Dma, Trap}
use Rattle.word_isa.specs.declared.mark.MarkKind.{MarkKind}
use Rattle.word_isa.specs.declared.mark.MarkKind.TheVariants as mark
use Rattle.word_machine.specs.Instructions.{fault, next_reading}
use Rattle.word_machine.specs.State.{Program, State}
use Rattle.word_machine.specs.Step.{can_move, step}
use Rattle.word_machine.specs.declared.cell.Sign.{Sign}
use Rattle.word_machine.specs.declared.ending.Ending.{Ending}
use Rattle.word_machine.specs.declared.ending.Ending.TheVariants.{Running, Halted, Trapped}
use Rattle.word_machine.specs.declared.stepped.Stepped.{Stepped}
use Rattle.word_machine.specs.declared.stepped.Stepped.TheVariants as stepped

-- the site of an event that comes also without a mark
abbrev pub site_of : Option Sign → ℕ
site_of None = 0
site_of (Some m) = m.site

-- the event that a mark gives to an instruction without one of its own; looks, issues and copies only get their sites from it
abbrev pub event_of : MarkKind → (site word : ℕ) → Option Event
event_of mark.Begin site word = Some (the.Begin site)
event_of mark.Look site word = None
event_of mark.Kept site word = Some (the.Kept site word)
event_of mark.Drop site word = Some (the.Dropped site)
event_of mark.Issue site word = None
event_of mark.Seal site word = Some (the.Sealed site)
event_of mark.Copy site word = None
event_of mark.Commit site word = Some (the.Commit site)

-- the event of an instruction that has one with a mark alone
abbrev pub marked : Option Sign → (word : ℕ) → Option Event
marked None word = None
marked (Some m) word = event_of m.kind m.site word

-- the k-th of so many arguments, in the registers from one on; those behind the last are 0
abbrev pub argument : (n from k : ℕ) → (ℕ → ℕ) → ℕ
argument n from k regs = if nat_lt k n then regs (from + k) else 0

-- the arguments of an issue
abbrev pub args_of : (n from : ℕ) → (ℕ → ℕ) → Args
args_of n from regs = record { count = n; a0 = argument n from 0 regs; a1 = argument n from 1 regs; a2 = argument n from 2 regs; a3 = argument n from 3 regs }

-- the event of an instruction that doesn't trap; a copy of words has its event with the last of them
abbrev pub event : (values : ℕ → List ℕ) → Option Sign → Instr → State → Option Event
event values m Halt s = marked m 0
event values m (Ldi a n) s = marked m 0
event values m (Lui a n) s = marked m 0
event values m (Mov a b) s = marked m (s.regs b)
event values m (Add a b) s = marked m 0
event values m (Sub a b) s = marked m 0
event values m (Mul a b) s = marked m 0
event values m (Div a b) s = marked m 0
event values m (Rem a b) s = marked m 0
event values m (And a b) s = marked m 0
event values m (Or a b) s = marked m 0
event values m (Xor a b) s = marked m 0
event values m (Shl a b) s = marked m 0
event values m (Shr a b) s = marked m 0
event values m (Eq a b) s = marked m 0
event values m (Ltu a b) s = marked m 0
event values m (Adi a n) s = marked m 0
event values m (Ld a b n) s = marked m 0
event values m (St a b n) s = marked m 0
event values m (Jmp t) s = marked m 0
event values m (Jz a n) s = marked m 0
event values m (Io a b n) s = Some (the.Issued (site_of m) (n % 256) (args_of (n / 256) b s.regs) (next_reading values n s))
event values m (Time a) s = Some (the.Look (site_of m) (s.clock % 2 ^ 32))
event values m (Dma a b n) s = if s.regs n == 0 then Some (the.Copied (site_of m) (s.regs b) (s.regs a) 0) else None
event values m (Trap n) s = marked m 0

-- or nothing, where it traps
abbrev pub unless_fault : Option ℕ → Option Event → Option Event
unless_fault None e = e
unless_fault (Some code) e = None

-- the event of the instruction at the counter
abbrev pub fetched_event : Program → Option Instr → State → Option Event
fetched_event p None s = None
fetched_event p (Some i) s = unless_fault (fault i s) (event p.values (p.mark s.pc) i s)

-- the event of a copy, with the engine's last word; its DMA stands before the counter
abbrev pub copied_event : Program → State → Option Event
copied_event p s =
    if s.engine.left == 1
    then Some (the.Copied (site_of (p.mark (s.pc - 1))) s.engine.from s.engine.to (length_of s.engine))
    else None

-- the event of the engine's next word
abbrev pub moved_event : Program → State → Option Event
moved_event p s = if can_move s then copied_event p s else None

-- the event of what a machine that goes on does
abbrev pub worked_event : Program → State → Option Event
worked_event p s = if s.engine.left == 0 then fetched_event p (p.instr s.pc) s else moved_event p s

-- the event of a step
abbrev pub event_at : Program → Ending → State → Option Event
event_at p Running s = worked_event p s
event_at p Halted s = None
event_at p (Trapped code) s = None

unfoldable pub event_next : Program → State → Option Event
event_next p s = event_at p s.ending s

-- what a step answers, by the ending behind it
abbrev pub told : Ending → Option Event → Stepped
told Running e = stepped.Ran e
told Halted e = stepped.Halted
told (Trapped code) e = stepped.Trapped code

unfoldable pub stepped_next : Program → State → Stepped
stepped_next p s = told (step p s).ending (event_next p s)
