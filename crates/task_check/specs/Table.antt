-- What the tables of a check hold.
use Rattle.std.specs.Prelude.{◌≡◌, ℕ, length, sum_by, Bool, ◌||◌, ◌&&◌, ◌==◌, List, [], Option, None, Some, bytes_eq, slice_index_or}
use Rattle.indexmap.specs.IndexMap.{get_by}
use Rattle.task_ast.specs.declared.core_form.Array.{Array}
use Rattle.task_ast.specs.declared.core_form.CoreStmt.{CoreStmt}
use Rattle.task_ast.specs.Pointing.{all_addresses}
use Rattle.task_ast.specs.declared.tree.Place.{Place}
use Rattle.task_ast.specs.declared.core_form.Site.{Site}
use Rattle.task_ast.specs.WellFormed.{is_turning, site_words}
use Rattle.task_check.specs.declared.names.Names.{Names}
use Rattle.task_check.specs.declared.site_counts.SiteCounts.{SiteCounts}
use Rattle.task_check.specs.declared.around.Surroundings.{Surroundings}
use Rattle.task_check.specs.Around.{Around}
use Rattle.task_check.specs.Capped.{capped}
use Rattle.task_check.specs.CheckedForm.{words_between}
use Rattle.task_check.specs.Names.{Meanings}
use Rattle.task_check.specs.Reach.{Reach, reach_of}

-- what each text stands for by the table
abbrev pub meanings : Names → Meanings
meanings names text = get_by (λ k. bytes_eq text k.now) names.map

-- the arrays of a pointer by the table of pointers; none where the table has no row for it
abbrev pub row : List (List ℕ) → ℕ → List ℕ
row rows pointer = slice_index_or rows pointer []

-- whether an array is among those of a pointer
abbrev pub Held : Type 0
Held = (pointer array : ℕ) → Bool

-- by the table
abbrev pub held : List (List ℕ) → Held
held rows pointer array = is_turning (row rows pointer) array

-- with one more address that is given
abbrev pub with_address : Held → (pointer array : ℕ) → Held
with_address h p a pointer array = h pointer array || ((p == pointer) && (a == array))

-- with one that is given where there are a pointer and an array
abbrev pub with_given : Held → Option ℕ → Option ℕ → Held
with_given h None to = h
with_given h (Some pointer) None = h
with_given h (Some pointer) (Some array) = with_address h pointer array

-- with the addresses that checked statements give
abbrev pub with_addresses : Held → List CoreStmt → Held
with_addresses h body pointer array = h pointer array || is_turning (all_addresses pointer body) array

-- what pointers reach by the table
abbrev pub reached : List (List ℕ) → List Array → ℕ → Reach
reached rows arrays pointer = reach_of arrays (row rows pointer)

-- what surrounds a statement
abbrev pub around_of : Surroundings → Around
around_of s = record {
  names = meanings s.names.now;
  reach = reached s.points.now s.arrays.now;
  barred = s.barred.now;
  level = s.level;
  branched = s.branched;
}

-- the greatest length of a copy between two places there
abbrev pub copied : Surroundings → (to from : Place) → ℕ
copied s to from = words_between (meanings s.names.now) s.arrays.now (reached s.points.now s.arrays.now) to from

-- so many sites and kept words, as far as they can be counted, are those of this list of sites
abbrev pub Counts : SiteCounts → List Site → Type 0
Counts c sites = (c.sites ≡ capped (length sites)) × (c.kept ≡ capped (sum_by site_words sites))
