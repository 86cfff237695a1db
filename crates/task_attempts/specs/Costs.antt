-- How many machine steps the parts of boots and attempts may take (docs/ATTEMPTS.md, "How soon"). What expressions and
-- statements without sites may take stands in PlainSteps.antt of walk_run.
use Rattle.std.specs.Prelude.{ℕ, ◌+◌, ◌*◌, min, Bool, true, false, length, filter, sum_by, slice_get}
use Rattle.std.specs.List.{range_with_len}
use Rattle.task_ast.specs.declared.tree.Kind.{Kind}
use Rattle.task_ast.specs.declared.tree.Kind.TheVariants.{Nv, Const, Vol}
use Rattle.task_ast.specs.declared.core_form.CoreTask.{CoreTask}
use Rattle.task_ast.specs.declared.core_form.Core.{Core}
use Rattle.task_ast.specs.CoreSites.{room}
use Rattle.io_depend.specs.Depend.{dependents}
use Rattle.region_split.specs.Regions.{is_nonvolatile, first, region_of, regions}
use Rattle.word_isa.specs.declared.parts.Scheme.TheVariants.{Undo, Bank}
use Rattle.task_attempts.specs.State.{Steps}

-- whether the words of an array are volatile
abbrev pub is_volatile : Kind → Bool
is_volatile Nv = false
is_volatile Const = false
is_volatile Vol = true

-- the words of all arrays whose kind counts
abbrev pub words_where : (counts : Kind → Bool) → Core → ℕ
words_where counts c = sum_by (λ a. length a.first) (filter (λ a. counts a.kind) c.arrays)

-- the words of the arrays that a region may write first
abbrev pub first_words : Core → CoreTask → (region : ℕ) → ℕ
first_words c t r = sum_by (λ a. room (slice_get c.arrays a)) (first c t r)

-- saving a region: under `undo` 12 for each word that it may write first
abbrev pub saving_steps : Core → CoreTask → (region : ℕ) → Steps
saving_steps c t r Undo = 12 * first_words c t r
saving_steps c t r Bank = 0

-- making the nonvolatile words safe when an attempt begins: region 0 is saved, or all words are brought level with the committed bank
abbrev pub safety_steps : Core → CoreTask → Steps
safety_steps c t Undo = saving_steps c t 0 Undo
safety_steps c t Bank = 12 * words_where is_nonvolatile c

-- an attempt's beginning: 64, 12 for each volatile word and each pointer, and what makes the nonvolatile words safe
abbrev pub beginning_steps : Core → CoreTask → Steps
beginning_steps c t scheme = 64 + 12 * (words_where is_volatile c + length c.pointers) + safety_steps c t scheme

-- a call, beside its expressions: 96, and 12 for each site that depends on it
abbrev pub call_steps : CoreTask → (site : ℕ) → ℕ
call_steps t k = 96 + 12 * length (dependents t k)

-- a block's beginning, and its end, kept or not
abbrev pub block_steps : ℕ
block_steps = 64

-- a copy, beside its expressions and words: 96, and what saves the region that it begins
abbrev pub copy_steps : Core → CoreTask → (site : ℕ) → Steps
copy_steps c t k scheme = 96 + saving_steps c t (region_of t k) scheme

-- so many words of a copy, each counted once however often it goes
abbrev pub moving_steps : (words : ℕ) → ℕ
moving_steps words = 28 * words

-- a commit
abbrev pub commit_steps : ℕ
commit_steps = 32

-- Restoring at a boot under `undo`: 16 for each region of the task, and 12 for each word of First of the regions up to
-- the one behind the furthest whose copy gave an event.
abbrev pub restoring_steps : Core → CoreTask → (furthest : ℕ) → Steps
restoring_steps c t furthest Undo = 16 * regions t + 12 * sum_by (first_words c t) (range_with_len 0 (min (furthest + 2) (regions t)))
restoring_steps c t furthest Bank = 0
