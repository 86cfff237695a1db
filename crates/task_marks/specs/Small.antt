-- Two small programs whose marks name a wrong task.
use Rattle.std.specs.Prelude.{ℕ, List, [], ◌∷◌}
use Rattle.devices.specs.declared.world.PowerRow.{PowerRow}
use Rattle.word_isa.specs.declared.mark.Mark.{Mark}
use Rattle.word_isa.specs.declared.mark.MarkKind.{MarkKind}
use Rattle.word_isa.specs.declared.mark.MarkKind.TheVariants as mark
use Rattle.word_machine.specs.State.{program_of, start}
use Rattle.task_marks.specs.Told.{marks_on}

-- LDI r1 1, TIME r2, HALT
abbrev pub looking : List ℕ
looking = 0x0210_0001 ∷ 0x1720_0000 ∷ 0x0100_0000 ∷ []

-- LDI r1 1, LDI r3 1, DMA r1 r2 r3, HALT: a copy of one word from address 0 to address 1
abbrev pub copying : List ℕ
copying = 0x0210_0001 ∷ 0x0230_0001 ∷ 0x1812_0003 ∷ 0x0100_0000 ∷ []

-- the first instruction begins task 1, and another is marked as task 2's
abbrev pub begin_of_one : Mark
begin_of_one = record { at = 0; kind = mark.Begin; site = 1; task = 1 }

abbrev pub of_two : MarkKind → (at : ℕ) → Mark
of_two kind at = record { at = at; kind = kind; site = 1; task = 2 }

-- the power fails behind the first step, and then lasts for so many
abbrev pub failing : (on : ℕ) → List PowerRow
failing on = record { on = 1; off = 0; fill = 0 } ∷ record { on = on; off = 0; fill = 0 } ∷ []

-- the marks of such a run
abbrev pub small_run : (code : List ℕ) → List Mark → (values : ℕ → List ℕ) → (fram : List ℕ) → (on : ℕ) → List Mark
small_run code marks values fram on = marks_on marks (program_of code marks values) (failing on) (start fram)
