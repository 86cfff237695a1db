-- The nonvolatile arrays that each region of a task may write first (docs/LANGUAGE.md, "Regions").
use Rattle.std.specs.Prelude.{ℕ, zero, suc, ◌+◌, Bool, true, false, not, ◌&&◌, ◌||◌, ◌==◌, List, [], ◌∷◌, ◌++◌, length, map, filter, take, Option, Some, None, slice_get}
use Rattle.std.specs.List.{range_with_len}
use Rattle.task_ast.specs.declared.tree.Kind.{Kind}
use Rattle.task_ast.specs.declared.tree.Kind.TheVariants.{Nv, Const, Vol}
use Rattle.task_ast.specs.declared.core_form.Array.{Array}
use Rattle.task_ast.specs.declared.core_form.Site.{Site}
use Rattle.task_ast.specs.declared.core_form.Site.TheVariants as site
use Rattle.task_ast.specs.declared.core_form.CoreStmt.{CoreStmt, Row_of-CoreStmt, end_of-CoreStmt, more_of-CoreStmt}
use Rattle.task_ast.specs.declared.core_form.CoreStmt.TheVariants as stmt
use Rattle.task_ast.specs.declared.core_form.CoreTask.{CoreTask}
use Rattle.task_ast.specs.declared.core_form.Core.{Core}
use Rattle.task_ast.specs.Pointing.{Pointing, pointing, target_arrays, reading_arrays, end_arrays}

-- what a task does to words, in text order: it may write an array, and it goes on into its next region
pub data Touch : Type 0 where
  may_write : (array : ℕ) → Touch
  next_region : Touch

abbrev mutual
  -- the touches of a statement
  pub touches : Pointing → CoreStmt → List Touch
  touches points (stmt.Assign x e) = map may_write (target_arrays points x)
  touches points (stmt.Point p array i) = []
  touches points (stmt.If' c m yes_row n no_row) = row_touches points yes_row ++ row_touches points no_row
  touches points (stmt.Loop' i turns m row) = may_write i ∷ row_touches points row
  touches points (stmt.Io k x p args) = map may_write (reading_arrays points x)
  touches points (stmt.Block' k m row) = row_touches points row
  touches points (stmt.Copy k to from n) = next_region ∷ map may_write (end_arrays points to)

  -- those of a row's statements
  pub row_touches : Pointing → {n : _} → Row_of-CoreStmt n → List Touch
  row_touches points end_of-CoreStmt = []
  row_touches points (more_of-CoreStmt s rest) = touches points s ++ row_touches points rest

-- those of statements, one after another
abbrev pub all_touches : Pointing → List CoreStmt → List Touch
all_touches points [] = []
all_touches points (s ∷ rest) = touches points s ++ all_touches points rest

-- whether the region of this number may write an array
abbrev pub writes_in : List Touch → (region array : ℕ) → Bool
writes_in [] r array = false
writes_in (may_write a ∷ ts) zero array = (a == array) || writes_in ts zero array
writes_in (next_region ∷ ts) zero array = false
writes_in (may_write a ∷ ts) (suc r) array = writes_in ts (suc r) array
writes_in (next_region ∷ ts) (suc r) array = writes_in ts r array

-- whether a region of a lower number may
abbrev pub writes_before : List Touch → (region array : ℕ) → Bool
writes_before ts zero array = false
writes_before ts (suc r) array = writes_before ts r array || writes_in ts r array

-- whether the words of an array are nonvolatile and not constant
abbrev pub is_nonvolatile : Kind → Bool
is_nonvolatile Nv = true
is_nonvolatile Const = false
is_nonvolatile Vol = false

-- whether this array is there, and its words are nonvolatile
abbrev pub keeps_words : Option Array → Bool
keeps_words None = false
keeps_words (Some a) = is_nonvolatile a.kind

-- the nonvolatile arrays that a region may write and no earlier one may, ascending
abbrev pub first : Core → CoreTask → (region : ℕ) → List ℕ
first c t r =
    let ts = all_touches (pointing t) t.body in
    filter (λ a. keeps_words (slice_get c.arrays a) && (writes_in ts r a && not (writes_before ts r a))) (range_with_len 0 (length c.arrays))

-- whether a copy stands at a site
abbrev pub is_copy : Site → Bool
is_copy (site.Io ann) = false
is_copy (site.Block ann) = false
is_copy (site.Copy greatest) = true

-- how many copies are among the sites
abbrev pub copies : List Site → ℕ
copies sites = length (filter is_copy sites)

-- the region that the copy at a site begins
abbrev pub region_of : CoreTask → (site : ℕ) → ℕ
region_of t k = copies (take k t.sites)

-- a task's regions: one more than its copies
abbrev pub regions : CoreTask → ℕ
regions t = copies t.sites + 1
