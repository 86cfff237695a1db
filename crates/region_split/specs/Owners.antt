-- Which region of a task writes each array first, worked out touch by touch.
use Rattle.std.specs.Prelude.{ℕ, ◌+◌, min, Bool, true, false, ◌&&◌, ◌==◌, List, [], ◌∷◌, length, map, filter, replicate, Option, Some, None, slice_get, slice_set, slice_index_or}
use Rattle.std.specs.List.{range_with_len}
use Rattle.task_ast.specs.declared.core_form.Array.{Array}
use Rattle.task_ast.specs.declared.core_form.CoreStmt.{CoreStmt}
use Rattle.task_ast.specs.declared.core_form.CoreTask.{CoreTask}
use Rattle.task_ast.specs.declared.core_form.Core.{Core}
use Rattle.task_ast.specs.Pointing.{Pointing}
use Rattle.region_split.specs.Regions.{Touch, may_write, next_region, touches, keeps_words, first, regions}

-- the region that a task is in, and for each array the region that may write it first, if one was met
pub record Owners : Type 0 where
  pub region : ℕ
  pub first : List (Option ℕ)

-- no array is written yet
abbrev pub unowned : (arrays : ℕ) → Owners
unowned arrays = record { region = 0; first = replicate arrays None }

-- the region that wrote an array before, or else this one
abbrev pub owner_or : Option ℕ → (region : ℕ) → Option ℕ
owner_or None region = Some region
owner_or (Some before) region = Some before

-- whether this region wrote an array first
abbrev pub owner_is : Option ℕ → (region : ℕ) → Bool
owner_is None region = false
owner_is (Some before) region = before == region

-- the region that writes an array first
abbrev pub owner_of : Owners → (array : ℕ) → Option ℕ
owner_of o array = slice_index_or o.first array None

-- after a touch; the number of a region stays at the greatest word
abbrev pub touched_by : Touch → Owners → Owners
touched_by (may_write a) o = record o { first = slice_set o.first a (owner_or (owner_of o a) o.region) }
touched_by next_region o = record o { region = min (o.region + 1) 4294967295 }

-- after touches
abbrev pub touched : List Touch → Owners → Owners
touched [] o = o
touched (t ∷ ts) o = touched ts (touched_by t o)

-- after statements
abbrev pub all_touched : Pointing → List CoreStmt → Owners → Owners
all_touched points [] o = o
all_touched points (s ∷ rest) o = all_touched points rest (touched (touches points s) o)

-- whether an array is nonvolatile and this region writes it first
abbrev pub is_first : List Array → Owners → (region array : ℕ) → Bool
is_first arrays o region array = keeps_words (slice_get arrays array) && owner_is (owner_of o array) region

-- those arrays, ascending
abbrev pub first_arrays : List Array → Owners → (region : ℕ) → List ℕ
first_arrays arrays o region = filter (is_first arrays o region) (range_with_len 0 (length arrays))

-- what each region of a task may write first
abbrev pub all_first : Core → CoreTask → List (List ℕ)
all_first c t = map (first c t) (range_with_len 0 (regions t))
