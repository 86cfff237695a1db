-- One step of the machine, many steps, and a power failure (docs/MACHINE.md, "One step").
use Rattle.std.specs.Prelude.{ℕ, zero, suc, ◌+◌, Bool, ◌==◌, ◌&&◌, List, Option, Some, None, if◌then◌else◌}
use Rattle.fram_ram.specs.Memories.{has_word, failed}
use Rattle.fram_ram.specs.Engine.{idle, advanced, next_source, next_destination, moved_word}
use Rattle.word_isa.specs.declared.instr.Instr.{Instr}
use Rattle.word_machine.specs.Instructions.{fault, act}
use Rattle.word_machine.specs.State.{Program, State, all_registers}
use Rattle.word_machine.specs.declared.ending.Ending.{Ending}
use Rattle.word_machine.specs.declared.ending.Ending.TheVariants.{Running, Halted, Trapped}

-- a trap ends the machine
abbrev pub trap : ℕ → State → State
trap code s = record s { ending = Trapped code }

-- an instruction, or its trap
abbrev pub done : (values : ℕ → List ℕ) → Instr → Option ℕ → State → State
done values i None s = act values i s
done values i (Some code) s = trap code s

-- the instruction at the counter, which then stands behind it; where there is none, trap 17
abbrev pub fetched : Program → Option Instr → State → State
fetched p None s = trap 17 s
fetched p (Some i) s = done p.values i (fault i s) (record s { pc = s.pc + 1 })

-- both addresses of the engine's next word have a word
abbrev pub can_move : State → Bool
can_move s = has_word (next_source s.engine) && has_word (next_destination s.engine)

-- the engine's next word, or trap 16, which ends the transfer
abbrev pub moved : State → State
moved s =
    if can_move s
    then record s { store = moved_word s.engine s.store; engine = advanced s.engine }
    else record s { ending = Trapped 16; engine = idle }

-- the engine goes before the instruction
abbrev pub worked : Program → State → State
worked p s = if s.engine.left == 0 then fetched p (p.instr s.pc) s else moved s

-- the clock ticks in each step of a machine that goes on; an ended one stays as it is
abbrev pub step_at : Program → Ending → State → State
step_at p Running s = record (worked p s) { clock = s.clock + 1 }
step_at p Halted s = s
step_at p (Trapped code) s = s

-- one step
unfoldable pub step : Program → State → State
step p s = step_at p s.ending s

-- so many steps
unfoldable pub exec : Program → ℕ → State → State
exec p zero s = s
exec p (suc n) s = exec p n (step p s)

-- a power failure: registers and RAM become the fill word, the engine is idle, and the counter is 0; an ended machine stays
abbrev pub fail_at : Ending → (fill : ℕ) → State → State
fail_at Running fill s = record s { pc = 0; regs = all_registers fill; store = failed s.store fill; engine = idle }
fail_at Halted fill s = s
fail_at (Trapped code) fill s = s

unfoldable pub fail : (fill : ℕ) → State → State
fail fill s = fail_at s.ending fill s
