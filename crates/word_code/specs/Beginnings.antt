-- The code of an attempt's beginning, and of saving and restoring (docs/CODE.md, "Acts").
use Rattle.std.specs.List.{AllByRecursion}
use Rattle.std.specs.Prelude.{ℕ, ◌+◌, ◌≤◌, ◌*◌, ◌/◌, ◌%◌, List, [], ◌∷◌, ◌++◌, length, sum_by, slice_index_or}
use Rattle.task_ast.specs.declared.tree.Kind.{Kind}
use Rattle.task_ast.specs.declared.tree.Kind.TheVariants.{Nv, Const, Vol}
use Rattle.task_ast.specs.declared.core_form.Array.{Array}
use Rattle.word_isa.specs.declared.instr.Instr.{Instr}
use Rattle.word_isa.specs.declared.instr.Instr.TheVariants.{Ldi, Lui, Eq, Ld, St, Jmp, Jz}
use Rattle.word_isa.specs.declared.mark.MarkKind.TheVariants as mark
use Rattle.word_isa.specs.declared.parts.Scheme.{Scheme}
use Rattle.word_isa.specs.declared.parts.Scheme.TheVariants.{Undo, Bank}
use Rattle.line_code.specs.declared.areas.Placed.{Placed}
use Rattle.line_code.specs.declared.line.Line.{Line}
use Rattle.line_code.specs.Areas.{area_at, pointer_at}
use Rattle.line_code.specs.Lines.{bares, marked}
use Rattle.word_code.specs.Acts.{jump}
use Rattle.word_code.specs.Frames.{Frame, lock_at, sign}
use Rattle.word_code.specs.Repeats.{each}

-- the arrays that a region of the task may write first
abbrev pub first_of : Frame → (region : ℕ) → List ℕ
first_of f r = slice_index_or f.firsts r []

-- arrays that lie low enough for a copy above them
abbrev pub AreLow : List Placed → Type 0
AreLow areas = AllByRecursion (λ (p : Placed). p.offset + p.room ≤ 9026) areas

-- a word goes from one address to another
abbrev pub moved_code : (from to word : ℕ) → List Instr
moved_code from to i = Ld 1 0 (from + i) ∷ St 1 0 (to + i) ∷ []

-- the words of arrays go from so far above their homes to so far above them
abbrev pub homes_code : List Placed → (from to : ℕ) → (arrays : List ℕ) → List Line
homes_code areas from to [] = []
homes_code areas from to (a ∷ rest) = bares (each (moved_code ((area_at areas a).offset + from) ((area_at areas a).offset + to)) 0 (area_at areas a).room) ++ homes_code areas from to rest

abbrev pub homes_size : List Placed → (arrays : List ℕ) → ℕ
homes_size areas [] = 0
homes_size areas (a ∷ rest) = 2 * (area_at areas a).room + homes_size areas rest

-- where the region's lock holds, the copies go home
abbrev pub restore_code : Frame → (region next : ℕ) → List Line
restore_code f r next = bares (Ld 1 0 (lock_at r) ∷ Eq 1 13 ∷ Eq 1 0 ∷ Jz 1 1 ∷ Jmp next ∷ []) ++ (homes_code f.areas 2048 0 (first_of f r) ++ jump next)

-- unless it holds, the homes are copied
abbrev pub save_code : Frame → (region next : ℕ) → List Line
save_code f r next = bares (Ld 1 0 (lock_at r) ∷ Eq 1 13 ∷ Jz 1 1 ∷ Jmp next ∷ []) ++ (homes_code f.areas 0 2048 (first_of f r) ++ jump next)

-- a pointer points to nothing
abbrev pub unset_code : (pointer : ℕ) → List Instr
unset_code p = St 0 15 (pointer_at p) ∷ St 0 15 (pointer_at p + 1) ∷ []

-- words of RAM, from an offset on
abbrev pub words_code : (at : ℕ) → List ℕ → List Instr
words_code at [] = []
words_code at (w ∷ words) = Ldi 1 (w % 65536) ∷ Lui 1 (w / 65536) ∷ St 1 15 at ∷ words_code (at + 1) words

-- the words of an array of a kind that is volatile, and of one that is written and nonvolatile
abbrev pub volatile_words : Kind → List ℕ → List ℕ
volatile_words Nv words = []
volatile_words Const words = []
volatile_words Vol words = words

abbrev pub home_words : Kind → List ℕ → List ℕ
home_words Nv words = words
home_words Const words = []
home_words Vol words = []

-- volatile arrays have their declared words, in order
abbrev pub volatile_code : (at : ℕ) → List Array → List Line
volatile_code at [] = []
volatile_code at (a ∷ arrays) = bares (words_code at (volatile_words a.kind a.first)) ++ volatile_code (at + length (volatile_words a.kind a.first)) arrays

abbrev pub volatile_count : List Array → ℕ
volatile_count arrays = sum_by (λ a. length (volatile_words a.kind a.first)) arrays

abbrev pub home_count : List Array → ℕ
home_count arrays = sum_by (λ a. length (home_words a.kind a.first)) arrays

-- a home of the working bank is brought level
abbrev pub level_code : (word : ℕ) → List Instr
level_code i = Ld 1 12 (1 + i) ∷ St 1 14 (1 + i) ∷ []

abbrev pub level_count : Scheme → List Array → ℕ
level_count Undo arrays = 0
level_count Bank arrays = home_count arrays

-- an attempt begins: the mode, pointers, volatile words, and under `bank` the working bank
abbrev pub begin_code : Frame → (task : ℕ) → List Line
begin_code f t =
    marked (sign f mark.Begin t) (Ldi 1 t) ∷ bares (St 0 15 39 ∷ []) ++ (bares (each unset_code 0 (length f.core.pointers)) ++ (volatile_code 832 f.core.arrays ++ bares (each level_code 0 (level_count f.scheme f.core.arrays))))

abbrev pub begin_size : Frame → ℕ
begin_size f = 2 + 2 * length f.core.pointers + 3 * volatile_count f.core.arrays + 2 * level_count f.scheme f.core.arrays
