-- Between two small steps a plan stands where the rules do: the same next task, looks and issues, and the same records.
use Rattle.std.specs.Prelude.{◌≡◌, ⊤, ℕ, ◌+◌, ◌≤◌, List, [], length, slice_get, Option, Some, None}
use Rattle.task_ast.specs.declared.tree.Kind.TheVariants.{Const}
use Rattle.task_ast.specs.declared.core_form.Array.{Array}
use Rattle.task_ast.specs.declared.core_form.Site.{Site}
use Rattle.task_ast.specs.declared.core_form.CoreTask.{CoreTask}
use Rattle.task_ast.specs.declared.core_form.Core.{Core}
use Rattle.task_ast.specs.CoreSites.{room}
use Rattle.region_split.specs.declared.class.DmaClass.{DmaClass}
use Rattle.region_split.specs.declared.class.DmaClass.TheVariants as class
use Rattle.walk_run.specs.declared.place.Place.{Place}
use Rattle.walk_run.specs.Store.{Store, words_of}
use Rattle.task_attempts.specs.State.{of_copy, Standing}
use Rattle.task_attempts.specs.Boots.{task_of}
use Rattle.site_events.specs.Records.{View, AreRecords}

-- the sites of the task of a number, if there is one
abbrev pub sites_in : Option CoreTask → List Site
sites_in None = []
sites_in (Some t) = t.sites

abbrev pub sites_of : Core → (task : ℕ) → List Site
sites_of c n = sites_in (task_of c n)

-- no flag and no lock is of a later epoch, and none is of epoch 0
pub record IsNumbered (v : View) : Type 0 where
  pub flags : (k : ℕ) → v.flag k ≤ v.epoch
  pub locks : (r : ℕ) → v.lock r ≤ v.epoch
  pub some : 1 ≤ v.epoch

-- each array of a store has as many words as are declared
abbrev pub FitsIn : Core → Store → Type 0
FitsIn c store = (a : ℕ) → length (words_of store a) ≡ room (slice_get c.arrays a)

-- an array isn't constant
abbrev pub IsNoConstant : Core → (array : ℕ) → Type 0
IsNoConstant c n = (a : Array) → slice_get c.arrays n ≡ Some a → a.kind ≡ Const → ⊥

-- the copies that leave a record
abbrev pub LeavesRecord : DmaClass → Type 0
LeavesRecord class.Single = ⊤
LeavesRecord class.Private = ⊤
LeavesRecord class.Exclude = ⊥
LeavesRecord class.Always = ⊥

-- What is so of every standing of the rules: the committed store fits, and each copy's record is of a class that leaves one,
-- and goes to an array that isn't constant.
pub record IsGood (c : Core) (st : Standing) : Type 0 where
  pub fits : FitsIn c st.committed
  pub copies : (k : ℕ) (sort : DmaClass) (to from : Place) (words : List ℕ) → st.account.records k ≡ Some (of_copy sort to from words) → LeavesRecord sort × IsNoConstant c to.array

-- A plan's state stands where the rules do. The regions whose locks hold are up to the one behind the furthest whose copy
-- gave an event.
pub record StandsAt (c : Core) (v : View) (st : Standing) : Type 0 where
  pub next : v.task ≡ st.next
  pub there : v.task ≤ length c.tasks
  pub looks : v.looks ≡ st.account.looks
  pub issued : v.issued ≡ st.account.issued
  pub records : AreRecords (sites_of c v.task) v st.account.records
  pub locked : (r : ℕ) → v.lock r ≡ v.epoch → r ≤ st.account.furthest + 1
  pub numbered : IsNumbered v
  pub good : IsGood c st
