-- What is told of a task: which sites depend on an I/O site, and to which arrays each pointer may point.
use Rattle.std.specs.Prelude.{◌≡◌, ℕ, ◌<◌, ◌≤◌, Bool, not, ◌&&◌, ◌==◌, ltb, List, length, map, slice_index, bit_and}
use Rattle.std.specs.List.{range_with_len}
use Rattle.task_ast.specs.declared.core_form.CoreTask.{CoreTask}
use Rattle.task_ast.specs.declared.core_form.Core.{Core}
use Rattle.io_depend.specs.Depend.{depends, points}
use Rattle.io_depend.specs.Rows.{own_bit}

-- a row of bits for each site by its number, and a list of arrays for each pointer
pub record Told : Type 0 where
  pub sites : List ℕ
  pub points : List (List ℕ)

-- whether a site is told to depend on an I/O site before it
abbrev pub tells_later : Told → (site k : ℕ) → Bool
tells_later d site k = ltb site k && not (bit_and (slice_index d.sites k) (own_bit site) == 0)

-- a number is a site's
abbrev pub IsSiteOf : CoreTask → (k : ℕ) → Type 0
IsSiteOf t k = (0 < k) × (k ≤ length t.sites)

-- It is told of this task of this program.
pub record Tells (c : Core) (t : CoreTask) (d : Told) : Type 0 where
  pub later : (site k : ℕ) → IsSiteOf t site → IsSiteOf t k → tells_later d site k ≡ depends t site k
  pub points : d.points ≡ map (points c t) (range_with_len 0 (length c.pointers))
