-- When all that a machine holds are words of 32 bits, and when all that it reads of its program are.
use Rattle.std.specs.Prelude.{◌+◌, ℕ, List, Option, Some, None}
use Rattle.std.specs.List.{AllByRecursion}
use Rattle.devices.specs.Reading.{reading}
use Rattle.devices.specs.declared.event.Args.{Args}
use Rattle.devices.specs.declared.event.Event.{Event}
use Rattle.devices.specs.declared.event.Event.TheVariants as the
use Rattle.power_trace.specs.Short.{IsWord}
use Rattle.word_isa.specs.Instructions.{FitsFields}
use Rattle.word_isa.specs.declared.instr.Instr.{Instr}
use Rattle.word_isa.specs.declared.mark.Mark.{Mark}
use Rattle.word_machine.specs.State.{Program, State}
use Rattle.word_machine.specs.declared.cell.Sign.{Sign}
use Rattle.word_machine.specs.declared.ending.Ending.{Ending}
use Rattle.word_machine.specs.declared.ending.Ending.TheVariants.{Running, Halted, Trapped}

-- a number that may be there is a word
abbrev pub IsWordOr : Option ℕ → Type 0
IsWordOr None = Unit {0}
IsWordOr (Some n) = IsWord n

-- an ending whose code is a word
abbrev pub EndsByWord : Ending → Type 0
EndsByWord Running = Unit {0}
EndsByWord Halted = Unit {0}
EndsByWord (Trapped code) = IsWord code

-- what a sign says is a word
abbrev pub SignsWord : Option Sign → Type 0
SignsWord None = Unit {0}
SignsWord (Some m) = IsWord m.site

-- and what each of some marks says
abbrev pub HaveWordSites : List Mark → Type 0
HaveWordSites marks = AllByRecursion (λ (m : Mark). IsWord m.site) marks

-- the operands of an instruction that may be there fit their fields
abbrev pub FitsOr : Option Instr → Type 0
FitsOr None = Unit {0}
FitsOr (Some i) = FitsFields i

-- of a program: its operands fit, its sites and readings are words
pub record ReadsWords (p : Program) : Type 0 where
  pub instrs : (at : ℕ) → FitsOr (p.instr at)
  pub signs : (at : ℕ) → SignsWord (p.mark at)
  pub values : (q n : ℕ) → IsWord (reading (p.values q) n)

-- of a machine: its registers, memories, the engine's addresses and length, and the code of its trap
pub record HoldsWords (s : State) : Type 0 where
  pub regs : (r : ℕ) → IsWord (s.regs r)
  pub store : (at : ℕ) → IsWord (s.store at)
  pub to : IsWord s.engine.to
  pub from : IsWord s.engine.from
  pub length : IsWord (s.engine.moved + s.engine.left)
  pub ending : EndsByWord s.ending

-- arguments
pub record AreWordArgs (args : Args) : Type 0 where
  pub first : IsWord args.a0
  pub second : IsWord args.a1
  pub third : IsWord args.a2
  pub fourth : IsWord args.a3

-- an event of a step
abbrev pub ShowsWords : Event → Type 0
ShowsWords (the.Begin task) = IsWord task
ShowsWords (the.Look site time) = IsWord site × IsWord time
ShowsWords (the.Kept site value) = IsWord site × IsWord value
ShowsWords (the.Dropped site) = IsWord site
ShowsWords (the.Issued site p args reading) = IsWord site × IsWord p × AreWordArgs args × IsWord reading
ShowsWords (the.Sealed site) = IsWord site
ShowsWords (the.Copied site from to words) = IsWord site × IsWord from × IsWord to × IsWord words
ShowsWords (the.Commit next) = IsWord next

-- or none
abbrev pub ShowsWordsOr : Option Event → Type 0
ShowsWordsOr None = Unit {0}
ShowsWordsOr (Some e) = ShowsWords e
