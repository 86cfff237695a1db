-- How many words of code, marks and FRAM places the plan of a program may need, at most (docs/PLAN.md, "Sizes").
use Rattle.std.specs.Prelude.{ℕ, ◌+◌, ◌*◌, ◌≤◌, max, Bool, true, false, List, [], ◌∷◌, length, sum_by}
use Rattle.std.specs.List.{range_with_len}
use Rattle.task_ast.specs.declared.tree.Kind.{Kind}
use Rattle.task_ast.specs.declared.tree.Kind.TheVariants.{Nv, Const, Vol}
use Rattle.task_ast.specs.declared.core_form.CoreTask.{CoreTask}
use Rattle.task_ast.specs.declared.core_form.Core.{Core}
use Rattle.task_ast.specs.CoreNodes.{task_nodes}
use Rattle.task_ast.specs.WellFormed.{site_words}
use Rattle.io_depend.specs.Depend.{dependents}
use Rattle.region_split.specs.Regions.{is_nonvolatile, regions}
use Rattle.word_isa.specs.declared.parts.Scheme.{Scheme}
use Rattle.word_isa.specs.declared.parts.Scheme.TheVariants.{Undo, Bank}
use Rattle.task_attempts.specs.Costs.{is_volatile, words_where, first_words}
use Rattle.run_plan.specs.PlanOf.{most_regions}

-- the drops of dependents in a task's acts
abbrev pub drops_of : CoreTask → ℕ
drops_of t = sum_by (λ k. length (dependents t k)) (range_with_len 1 (length t.sites))

-- the words that a task's regions write first
abbrev pub all_first_words : Core → CoreTask → ℕ
all_first_words c t = sum_by (first_words c t) (range_with_len 0 (regions t))

-- What makes nonvolatile words safe: under `undo` 13 words of code for each region, which is saved, locked and restored, and
-- 4 for each word that it writes first; under `bank` 2 for each nonvolatile word, which a beginning copies.
abbrev pub safety_words : Scheme → Core → CoreTask → ℕ
safety_words Undo c t = 13 * regions t + 4 * all_first_words c t
safety_words Bank c t = 2 * words_where is_nonvolatile c

-- a task's code: its jumps, its beginning, 25 words for each node, 131 for each site and 2 for each drop of a dependent
abbrev pub task_words : Scheme → Core → CoreTask → ℕ
task_words scheme c t =
    25 * task_nodes t + 131 * length t.sites + 2 * drops_of t + (10 + 2 * length c.pointers + 3 * words_where is_volatile c + safety_words scheme c t)

-- the code of all tasks, and what finds the running one
abbrev pub code_words : Scheme → Core → ℕ
code_words scheme c = 21 + sum_by (task_words scheme c) c.tasks

-- a task's marks: its beginning, a commit at most for each node, 8 for each site and one for each drop of a dependent
abbrev pub task_marks : CoreTask → ℕ
task_marks t = 1 + task_nodes t + 8 * length t.sites + drops_of t

abbrev pub code_marks : Core → ℕ
code_marks c = sum_by task_marks c.tasks

-- the words that a task's copies keep
abbrev pub kept_in : CoreTask → ℕ
kept_in t = sum_by site_words t.sites

-- the greatest of what tasks have
abbrev pub most : (CoreTask → ℕ) → List CoreTask → ℕ
most f [] = 0
most f (t ∷ ts) = max (f t) (most f ts)

-- whether the words of an array are constant
abbrev pub is_constant : Kind → Bool
is_constant Nv = false
is_constant Const = true
is_constant Vol = false

-- The FRAM places of a plan's cells: the state word; homes, and as many aside; constants; a lock for each region; a flag, a
-- stamp, a value and three words of ends for each site; and kept words.
abbrev pub fram_words : Core → ℕ
fram_words c =
    1 + 2 * words_where is_nonvolatile c + words_where is_constant c + most_regions c.tasks
    + 6 * most (λ t. length t.sites) c.tasks + most kept_in c.tasks

-- what code, marks and places must be within: 24 bits of jumps leave room for as many words, and places are 16 bits wide
pub record AreWithin (scheme : Scheme) (c : Core) : Type 0 where
  pub code : code_words scheme c ≤ 4194304
  pub marks : code_marks c ≤ 2097152
  pub fram : fram_words c ≤ 65536
