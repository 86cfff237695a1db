-- What a boot finds: the word that each nonvolatile place will have once the boot has restored what is to be restored
-- (docs/PLAN.md, "What a boot finds").
use Rattle.std.specs.Prelude.{◌≡◌, ◌<◌, ℕ, zero, suc, Bool, true, false, ◌||◌, ◌&&◌, cond, List, [], length, slice_index_or, slice_get}
use Rattle.task_ast.specs.declared.core_form.Core.{Core}
use Rattle.task_ast.specs.CoreSites.{room}
use Rattle.io_depend.specs.Sets.{has}
use Rattle.region_split.specs.Regions.{keeps_words}
use Rattle.walk_run.specs.declared.place.Place.{Place}
use Rattle.walk_run.specs.Store.{word_at}
use Rattle.word_isa.specs.declared.parts.Scheme.{Scheme}
use Rattle.word_isa.specs.declared.parts.Scheme.TheVariants.{Undo, Bank}
use Rattle.run_plan.specs.Cells.{State, aside_at}
use Rattle.run_plan.specs.Small.{lock_holds}
use Rattle.run_plan.specs.Runs.{Planned, at_task}

-- a place of a nonvolatile array
pub record IsHome (c : Core) (at : Place) : Type 0 where
  pub kept : keeps_words (slice_get c.arrays at.array) ≡ true
  pub inside : at.index < room (slice_get c.arrays at.array)

-- whether the lock holds of one of so many regions that writes this array first
abbrev pub is_saved : (firsts : List (List ℕ)) → (held : ℕ → Bool) → (regions array : ℕ) → Bool
is_saved firsts held zero array = false
is_saved firsts held (suc r) array = is_saved firsts held r array || (held r && has (slice_index_or firsts r []) array)

-- Under `undo` the copy of what is saved counts, and the home of all else; under `bank` the committed bank, which lies
-- aside.
abbrev pub found_by : Scheme → (saved : Bool) → (aside home : ℕ) → ℕ
found_by Undo saved aside home = cond saved aside home
found_by Bank saved aside home = aside

-- the word that a boot finds at a place, by the arrays that the running task's regions write first
abbrev pub found_at : Scheme → (firsts : List (List ℕ)) → State → Place → ℕ
found_at scheme firsts s at = found_by scheme (is_saved firsts (lock_holds s) (length firsts) at.array) (aside_at s at) (word_at s.store at)

-- the word that a boot finds at a place
abbrev pub found : Planned → State → Place → ℕ
found p s at = found_at p.plan.scheme (at_task p.plan.firsts s.task []) s at
