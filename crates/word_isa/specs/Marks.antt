-- The tests of an image's marks (docs/MACHINE.md, "The image's tests").
use Rattle.std.specs.Prelude.{ℕ, ◌-◌, Bool, true, false, not, ◌&&◌, ◌==◌, nat_le, nat_lt, List, [], ◌∷◌, Option, Some, None, length, slice_get, if◌then◌else◌}
use Rattle.word_isa.specs.Decoding.{decoded}
use Rattle.word_isa.specs.FirstFailing.{first_failing}
use Rattle.word_isa.specs.declared.instr.Instr.{Instr}
use Rattle.word_isa.specs.Instructions.{row_of}
use Rattle.word_isa.specs.declared.mark.Mark.{Mark}
use Rattle.word_isa.specs.declared.mark.MarkKind.{MarkKind}
use Rattle.word_isa.specs.declared.mark.MarkKind.TheVariants.{Begin, Look, Kept, Drop, Issue, Seal, Copy, Commit}

-- the code of the instruction at which a kind of mark stands: LDI, TIME, MOV, ST, IO or DMA
abbrev pub code_at : MarkKind → ℕ
code_at Begin = 2
code_at Look = 23
code_at Kept = 4
code_at Drop = 19
code_at Issue = 22
code_at Seal = 19
code_at Copy = 24
code_at Commit = 19

-- a mark of the kind may stand at the instruction
abbrev pub may_stand : MarkKind → Instr → Bool
may_stand kind i = (row_of i).code == code_at kind

-- and at what a word is
abbrev pub may_stand_at : MarkKind → Option Instr → Bool
may_stand_at kind None = false
may_stand_at kind (Some i) = may_stand kind i

-- and at the word of a place, if there is one
abbrev pub stands_at : MarkKind → Option ℕ → Bool
stands_at kind None = false
stands_at kind (Some word) = may_stand_at kind (decoded word)

-- the mark lies above the one before it
abbrev pub is_above : Option Mark → Mark → Bool
is_above None m = true
is_above (Some before) m = nat_lt before.at m.at

-- only a commit has site 0
abbrev pub site_passes : MarkKind → (site : ℕ) → Bool
site_passes Begin site = not (site == 0)
site_passes Look site = not (site == 0)
site_passes Kept site = not (site == 0)
site_passes Drop site = not (site == 0)
site_passes Issue site = not (site == 0)
site_passes Seal site = not (site == 0)
site_passes Copy site = not (site == 0)
site_passes Commit site = true

-- in version 2 a begin is that of its own task, and other sites are those of a task
abbrev pub site_fits : MarkKind → (site task : ℕ) → Bool
site_fits Begin site task = site == task
site_fits Look site task = nat_le site 128
site_fits Kept site task = nat_le site 128
site_fits Drop site task = nat_le site 128
site_fits Issue site task = nat_le site 128
site_fits Seal site task = nat_le site 128
site_fits Copy site task = nat_le site 128
site_fits Commit site task = true

-- version 1 names no tasks, version 2 one of the tasks 1 to 64
abbrev pub task_passes : (version : ℕ) → MarkKind → (site task : ℕ) → Bool
task_passes version kind site task =
    if version == 2 then nat_le 1 task && nat_le task 64 && site_fits kind site task else task == 0

-- a mark behind these earlier ones is good
unfoldable pub mark_passes : (version : ℕ) → List ℕ → List Mark → Mark → Bool
mark_passes version code earlier m =
    stands_at m.kind (slice_get code m.at) && is_above (slice_get earlier (length earlier - 1)) m && site_passes m.kind m.site && task_passes version m.kind m.site m.task

-- the first bad mark, from 0
abbrev pub first_bad_mark : (version : ℕ) → List ℕ → List Mark → Option ℕ
first_bad_mark version code marks = first_failing (mark_passes version code) [] marks

-- the mark at an address, if there is one
unfoldable pub mark_at : List Mark → ℕ → Option Mark
mark_at [] at = None
mark_at (m ∷ marks) at = if m.at == at then Some m else mark_at marks at
