-- What the code of a task's acts goes by, and the cells of its sites (docs/CODE.md, "Memory").
use Rattle.std.specs.Prelude.{ℕ, ◌+◌, ◌*◌, ◌-◌, ◌==◌, cond, List, take, sum_by, slice_get, Option, Some, None}
use Rattle.ease_base.specs.declared.place.Peripheral.{Peripheral}
use Rattle.task_ast.specs.declared.core_form.CoreTask.{CoreTask}
use Rattle.task_ast.specs.declared.core_form.Core.{Core}
use Rattle.task_ast.specs.declared.core_form.Site.{Site}
use Rattle.task_ast.specs.WellFormed.{site_words}
use Rattle.word_isa.specs.declared.mark.MarkKind.{MarkKind}
use Rattle.word_isa.specs.declared.parts.Scheme.{Scheme}
use Rattle.word_isa.specs.declared.parts.Scheme.TheVariants.{Undo, Bank}
use Rattle.line_code.specs.declared.areas.Placed.{Placed}
use Rattle.line_code.specs.declared.line.Sign.{Sign}

-- the program and where its arrays lie, a task with its number, the scheme, and what each region of the task may write first
pub record Frame : Type 0 where
  pub core : Core
  pub areas : List Placed
  pub task : CoreTask
  pub number : ℕ
  pub scheme : Scheme
  pub firsts : List (List ℕ)

-- the cells of a site in FRAM: the flag and the stamp of its record, and its value, or a copy's class
abbrev pub flag_at : (site : ℕ) → ℕ
flag_at k = 6273 + k

abbrev pub stamp_at : (site : ℕ) → ℕ
stamp_at k = 6401 + k

abbrev pub value_at : (site : ℕ) → ℕ
value_at k = 6529 + k

-- the first of the three cells of a copy's record: destination, source and length
abbrev pub ends_at : (site : ℕ) → ℕ
ends_at k = 6655 + 3 * k

-- the cell of a region's lock
abbrev pub lock_at : (region : ℕ) → ℕ
lock_at r = 6145 + r

-- the cells of a block in RAM: the mode around it, and the time of its beginning
abbrev pub outer_at : (site : ℕ) → ℕ
outer_at k = 63 + k

abbrev pub begun_at : (site : ℕ) → ℕ
begun_at k = 191 + k

-- what stands at a site
abbrev pub site_at : Frame → (site : ℕ) → Option Site
site_at f k = slice_get f.task.sites (k - 1)

-- the first of a copy's kept words, behind those of the task's earlier copies
abbrev pub kept_at : Frame → (site : ℕ) → ℕ
kept_at f k = 7042 + sum_by site_words (take (k - 1) f.task.sites)

-- the mark of a site of the task
abbrev pub sign : Frame → MarkKind → (site : ℕ) → Sign
sign f kind site = record { kind = kind; site = site; task = f.number }

-- how far the second bank lies above the first
abbrev pub stride : Scheme → ℕ
stride Undo = 0
stride Bank = 2048

-- the number of a peripheral; 0 where there is none
abbrev pub number_of : Option Peripheral → ℕ
number_of (Some p) = p.number
number_of None = 0

abbrev pub peripheral_number : Core → (peripheral : ℕ) → ℕ
peripheral_number c p = number_of (slice_get c.peripherals p)

-- where the head goes where the program has stopped, and where a commit goes
abbrev pub halt_at : (tasks : ℕ) → ℕ
halt_at tasks = 20 + 5 * tasks

abbrev pub stub_at : (tasks next : ℕ) → ℕ
stub_at tasks next = cond (next == 0) (halt_at tasks) (20 + 6 * tasks + next)
