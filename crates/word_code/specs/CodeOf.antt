-- The code of a plan, and its image (docs/CODE.md).
use Rattle.std.specs.Prelude.{ℕ, ◌+◌, ◌*◌, ◌-◌, ◌==◌, cond, max, List, [], ◌∷◌, ◌++◌, map, length, replicate, sum_by, slice_index_or, Some, None, Option, false}
use Rattle.task_ast.specs.declared.tree.Kind.{Kind}
use Rattle.task_ast.specs.declared.tree.Kind.TheVariants.{Nv, Const, Vol}
use Rattle.task_ast.specs.declared.core_form.Array.{Array}
use Rattle.task_ast.specs.declared.core_form.CoreTask.{CoreTask}
use Rattle.task_ast.specs.declared.core_form.Core.{Core}
use Rattle.task_ast.specs.WellFormed.{site_words}
use Rattle.word_isa.specs.declared.instr.Instr.TheVariants.{Halt}
use Rattle.word_isa.specs.declared.mark.Mark.{Mark}
use Rattle.word_isa.specs.declared.parts.Symbol.{Symbol}
use Rattle.word_isa.specs.Instructions.{encoded}
use Rattle.line_code.specs.declared.areas.Placed.{Placed}
use Rattle.line_code.specs.declared.line.Line.{Line}
use Rattle.line_code.specs.declared.line.Sign.{Sign}
use Rattle.line_code.specs.Areas.{area_at, areas_from, free_at_first}
use Rattle.line_code.specs.Lines.{bares}
use Rattle.run_plan.specs.declared.act.Act.{Act}
use Rattle.run_plan.specs.declared.parts.Plan.{Plan}
use Rattle.word_code.specs.ActCode.{acts_code}
use Rattle.word_code.specs.Acts.{jump}
use Rattle.word_code.specs.Beginnings.{home_words}
use Rattle.word_code.specs.Frames.{Frame, stride}
use Rattle.word_code.specs.Heads.{head_code}
use Rattle.word_code.specs.Sizes.{acts_size}

-- what the code of a task's acts goes by, and the acts
abbrev pub frame_at : Plan → Core → (number : ℕ) → CoreTask → Frame
frame_at p c number t = record { core = c; areas = areas_from free_at_first c.arrays; task = t; number = number + 1; scheme = p.scheme; firsts = slice_index_or p.firsts number [] }

pub record Job : Type 0 where
  pub frame : Frame
  pub acts : List Act

abbrev pub job : Plan → Core → (number : ℕ) → CoreTask → Job
job p c number t = record { frame = frame_at p c number t; acts = slice_index_or p.tasks number [] }

-- those of tasks, from a number on
abbrev pub jobs_from : Plan → Core → (number : ℕ) → List CoreTask → List Job
jobs_from p c number [] = []
jobs_from p c number (t ∷ rest) = job p c number t ∷ jobs_from p c (number + 1) rest

-- the lines of what a boot restores for a task, and of all that a task has
abbrev pub boot_lines : Plan → Frame → ℕ
boot_lines p f = acts_size f p.boot

abbrev pub boot_size : Plan → Job → ℕ
boot_size p j = boot_lines p j.frame

abbrev pub job_size : Plan → Job → ℕ
job_size p j = boot_size p j + acts_size j.frame j.acts

abbrev pub jobs_size : Plan → List Job → ℕ
jobs_size p [] = 0
jobs_size p (j ∷ rest) = job_size p j + jobs_size p rest

-- a task's code: what a boot restores, and its acts
abbrev pub job_code : Plan → Job → (at : ℕ) → List Line
job_code p j at = acts_code j.frame false p.boot at (at + boot_size p j) ++ acts_code j.frame false j.acts (at + boot_size p j) 0

abbrev pub jobs_code : Plan → List Job → (at : ℕ) → List Line
jobs_code p [] at = []
jobs_code p (j ∷ rest) at = job_code p j at ++ jobs_code p rest (at + job_size p j)

-- a stub for each task, where a boot enters it and where a commit does
abbrev pub boot_stubs : Plan → List Job → (at : ℕ) → List Line
boot_stubs p [] at = []
boot_stubs p (j ∷ rest) at = jump at ++ boot_stubs p rest (at + job_size p j)

abbrev pub task_stubs : Plan → List Job → (at : ℕ) → List Line
task_stubs p [] at = []
task_stubs p (j ∷ rest) at = jump (at + boot_size p j) ++ task_stubs p rest (at + job_size p j)

-- all tasks
abbrev pub jobs_of : Plan → Core → List Job
jobs_of p c = jobs_from p c 0 c.tasks

-- where the first task's code begins
abbrev pub first_at : Core → ℕ
first_at c = 21 + 7 * length c.tasks

-- the head, the halt, the stubs, and each task's code
abbrev pub code_of : Plan → Core → List Line
code_of p c =
    head_code (stride p.scheme) (length c.tasks)
    ++ (bares (Halt ∷ []) ++ (boot_stubs p (jobs_of p c) (first_at c) ++ (task_stubs p (jobs_of p c) (first_at c) ++ jobs_code p (jobs_of p c) (first_at c))))

-- the words of lines, and their marks from an address on
abbrev pub words_of : List Line → List ℕ
words_of lines = map (λ l. encoded l.instr) lines

abbrev pub mark_of : (at : ℕ) → Option Sign → List Mark
mark_of at None = []
mark_of at (Some s) = record { at = at; kind = s.kind; site = s.site; task = s.task } ∷ []

abbrev pub marks_of : (at : ℕ) → List Line → List Mark
marks_of at [] = []
marks_of at (l ∷ lines) = mark_of at l.sign ++ marks_of (at + 1) lines

-- the declared words of constants, and of nonvolatile arrays that are written
abbrev pub constant_words : Kind → List ℕ → List ℕ
constant_words Nv words = []
constant_words Const words = words
constant_words Vol words = []

abbrev pub homes_of : List Array → List ℕ
homes_of [] = []
homes_of (a ∷ rest) = home_words a.kind a.first ++ homes_of rest

abbrev pub constants_of : List Array → List ℕ
constants_of [] = []
constants_of (a ∷ rest) = constant_words a.kind a.first ++ constants_of rest

-- the state word of epoch 1, task 1 and bank 0, the homes, and the constants at their addresses, if there are any
abbrev pub fram_with : (homes constants : List ℕ) → List ℕ
fram_with homes [] = 258 ∷ homes
fram_with homes (w ∷ words) = 258 ∷ homes ++ replicate (4096 - length homes) 0 ++ w ∷ words

abbrev pub fram_of : List Array → List ℕ
fram_of arrays = fram_with (homes_of arrays) (constants_of arrays)

-- the address of an array's first word, in the first bank
abbrev pub base_of : Placed → ℕ
base_of p = cond (p.base == 15) (1048576 + p.offset) p.offset

-- an array's symbol
abbrev pub symbol : Array → Placed → Symbol
symbol a p = record { name = a.name; kind = a.kind; base = base_of p; length = p.room }

-- those of arrays, from a number on
abbrev pub symbols_from : List Placed → (number : ℕ) → List Array → List Symbol
symbols_from areas number [] = []
symbols_from areas number (a ∷ rest) = symbol a (area_at areas number) ∷ symbols_from areas (number + 1) rest

-- the kept words of a task, and those of the task that has the most
abbrev pub kept_words : CoreTask → ℕ
kept_words t = sum_by site_words t.sites

abbrev pub most_kept : List CoreTask → ℕ
most_kept [] = 0
most_kept (t ∷ rest) = max (kept_words t) (most_kept rest)
