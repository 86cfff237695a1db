-- A plan's records against those of the rules: where a site's flag holds the rules have its record, with what the cells hold,
-- and where it doesn't they have none.
use Rattle.std.specs.Prelude.{◌≡◌, ℕ, ◌-◌, ◌≤◌, Bool, true, false, ◌==◌, List, length, take, sum_by, Option, Some, None}
use Rattle.task_ast.specs.declared.core_form.Site.{Site}
use Rattle.task_ast.specs.declared.core_form.Site.TheVariants as site
use Rattle.task_ast.specs.WellFormed.{site_words}
use Rattle.region_split.specs.declared.class.DmaClass.{DmaClass}
use Rattle.walk_run.specs.declared.place.Place.{Place}
use Rattle.task_attempts.specs.State.{Record, of_reading, of_block, of_copy}
use Rattle.task_attempts.specs.Calls.{site_at}
use Rattle.run_plan.specs.Cells.{State}
use Rattle.run_plan.specs.Words.{kept_words}

-- What outlives a power failure of a plan's state, the words of homes and of those aside left out: locks, the cells of
-- records, the epoch and the next task; and the looks and the issues of its world.
pub record View : Type 0 where
  pub lock : ℕ → ℕ
  pub flag : ℕ → ℕ
  pub value : ℕ → ℕ
  pub stamp : ℕ → ℕ
  pub class : ℕ → Option DmaClass
  pub to : ℕ → Option Place
  pub from : ℕ → Option Place
  pub length : ℕ → ℕ
  pub kept : ℕ → ℕ
  pub epoch : ℕ
  pub task : ℕ
  pub looks : List ℕ
  pub issued : ℕ → ℕ

abbrev pub view : State → View
view s = record {
  lock = s.cells.lock;
  flag = s.cells.flag;
  value = s.cells.value;
  stamp = s.cells.stamp;
  class = s.cells.class;
  to = s.cells.to;
  from = s.cells.from;
  length = s.cells.length;
  kept = s.cells.kept;
  epoch = s.epoch;
  task = s.task;
  looks = s.looks;
  issued = s.issued;
}

-- a site's flag holds
abbrev pub holds : View → (site : ℕ) → Bool
holds v k = v.flag k == v.epoch

-- what the cells of a call's record hold
pub record HasReading (v : View) (k word time : ℕ) : Type 0 where
  pub value : v.value k ≡ word
  pub stamp : v.stamp k ≡ time

-- what those of a copy's record hold: as many kept words as the copy may have, from some word on
pub record HasCopy (v : View) (start most k : ℕ) (sort : DmaClass) (onto out_of : Place) (words : List ℕ) : Type 0 where
  pub class : v.class k ≡ Some sort
  pub to : v.to k ≡ Some onto
  pub from : v.from k ≡ Some out_of
  pub count : v.length k ≡ length words
  pub kept : kept_words v.kept start (length words) ≡ words
  pub room : length words ≤ most

-- the cells have what a record of the rules says, by what stands at the site
abbrev pub Says : View → (start k : ℕ) → Record → Option Site → Type 0
Says v start k (of_reading word time args) (Some (site.Io ann)) = HasReading v k word time
Says v start k (of_block time) (Some (site.Block ann)) = v.stamp k ≡ time
Says v start k (of_copy sort onto out_of words) (Some (site.Copy most)) = HasCopy v start most k sort onto out_of words
Says v start k r o = ⊥

-- a site's flag holds where the rules have a record, and the cells say the same
abbrev pub IsRecord : View → (start k : ℕ) → Option Record → Option Site → Type 0
IsRecord v start k None o = holds v k ≡ false
IsRecord v start k (Some r) o = (holds v k ≡ true) × Says v start k r o

-- where a copy's kept words begin: behind those of the earlier sites
abbrev pub kept_from : List Site → (site : ℕ) → ℕ
kept_from sites k = sum_by site_words (take (k - 1) sites)

-- so it is of every site of a task
abbrev pub AreRecords : List Site → View → (ℕ → Option Record) → Type 0
AreRecords sites v records = (k : ℕ) → IsRecord v (kept_from sites k) k (records k) (site_at sites k)
