-- Each write of a record's cells keeps the records: behind a drop and before the flag of a seal the rules have none, and
-- behind the flag they have the new one.
use Rattle.std.proofs.Common.{◌≡◌, ◌∙◌, ℕ, ◌+◌, ◌≤◌, Bool, true, false, ◌==◌, cond, List, refl, sym, ap, subst, arith, eqb-true}
use Rattle.std.specs.Prelude.{Option, Some, None}
use Rattle.std.proofs.lemmas.Bool.{ne_eqb}
use Rattle.task_ast.specs.declared.core_form.Site.{Site}
use Rattle.task_ast.specs.declared.core_form.Site.TheVariants as site
use Rattle.region_split.specs.declared.class.DmaClass.{DmaClass}
use Rattle.walk_run.specs.declared.place.Place.{Place}
use Rattle.task_attempts.specs.State.{Record, of_reading, of_block, of_copy}
use Rattle.task_attempts.specs.Changes.{put}
use Rattle.task_attempts.specs.Calls.{site_at}
use Rattle.run_plan.specs.Words.{kept_words}
use Rattle.plan_restore.proofs.Lists.{is_itself}
use Rattle.site_events.specs.Records.{View, holds, Says, IsRecord, kept_from, AreRecords}

-- ---- functions with another value at one number

pub put_here : {A : Type 0} (k : ℕ) (x : A) (f : ℕ → A) → put k x f k ≡ x
put_here k x f = ap (λ b. cond b x (f k)) (is_itself k)

pub put_other : {A : Type 0} (k j : ℕ) (x : A) (f : ℕ → A) → (k == j) ≡ false → put k x f j ≡ f j
put_other k j x f apart = ap (λ b. cond b x (f j)) apart

-- what holds of the value at the number and of the others holds of each
pub put_all : {A : Type 0} (P : ℕ → A → Type 0) (k : ℕ) (x : A) (f : ℕ → A) → P k x → ((j : ℕ) → (k == j) ≡ false → P j (f j)) → (j : ℕ) → P j (put k x f j)
put_all P k x f here others j = by_test (k == j) refl
  where
    by_test : (b : Bool) → (k == j) ≡ b → P j (put k x f j)
    by_test true is = subst (λ i. P i (put k x f i)) (eqb-true k j is) (subst (P k) (sym (put_here k x f)) here)
    by_test false is = subst (P j) (sym (put_other k j x f is)) (others j is)

-- ---- cells that say the same

-- two views have the same in the cells of a site
pub record SameCells (v w : View) (k : ℕ) : Type 0 where
  pub value : w.value k ≡ v.value k
  pub stamp : w.stamp k ≡ v.stamp k
  pub class : w.class k ≡ v.class k
  pub to : w.to k ≡ v.to k
  pub from : w.from k ≡ v.from k
  pub count : w.length k ≡ v.length k

-- the kept words of a site are the same
abbrev pub SameKept : (v w : View) (start : ℕ) → Option Site → Type 0
SameKept v w start o = (most : ℕ) → o ≡ Some (site.Copy most) → (n : ℕ) → n ≤ most → kept_words w.kept start n ≡ kept_words v.kept start n

pub says_kept : (v w : View) (start k : ℕ) (r : Record) (o : Option Site) → SameCells v w k → SameKept v w start o → Says v start k r o → Says w start k r o
says_kept v w start k (of_reading word time args) None cells kept h = absurd h
says_kept v w start k (of_reading word time args) (Some (site.Io ann)) cells kept h = record { value = cells.value ∙ h.value; stamp = cells.stamp ∙ h.stamp }
says_kept v w start k (of_reading word time args) (Some (site.Block ann)) cells kept h = absurd h
says_kept v w start k (of_reading word time args) (Some (site.Copy most)) cells kept h = absurd h
says_kept v w start k (of_block time) None cells kept h = absurd h
says_kept v w start k (of_block time) (Some (site.Io ann)) cells kept h = absurd h
says_kept v w start k (of_block time) (Some (site.Block ann)) cells kept h = cells.stamp ∙ h
says_kept v w start k (of_block time) (Some (site.Copy most)) cells kept h = absurd h
says_kept v w start k (of_copy sort onto out_of words) None cells kept h = absurd h
says_kept v w start k (of_copy sort onto out_of words) (Some (site.Io ann)) cells kept h = absurd h
says_kept v w start k (of_copy sort onto out_of words) (Some (site.Block ann)) cells kept h = absurd h
says_kept v w start k (of_copy sort onto out_of words) (Some (site.Copy most)) cells kept h = record {
  class = cells.class ∙ h.class;
  to = cells.to ∙ h.to;
  from = cells.from ∙ h.from;
  count = cells.count ∙ h.count;
  kept = kept most refl _ h.room ∙ h.kept;
  room = h.room;
}

pub record_kept : (v w : View) (start k : ℕ) (r : Option Record) (o : Option Site) → holds w k ≡ holds v k → SameCells v w k → SameKept v w start o → IsRecord v start k r o → IsRecord w start k r o
record_kept v w start k None o same cells kept h = same ∙ h
record_kept v w start k (Some r) o same cells kept h = (same ∙ h.0, says_kept v w start k r o cells kept h.1)

-- a site without a record
pub none_kept : (v w : View) (start k : ℕ) (r : Option Record) (o : Option Site) → r ≡ None → holds w k ≡ holds v k → IsRecord v start k r o → IsRecord w start k r o
none_kept v w start k None o none same h = same ∙ h
none_kept v w start k (Some r) o none same h = absurd (cc none)

pub no_record : (v : View) (start k : ℕ) (r : Option Record) (o : Option Site) → r ≡ None → IsRecord v start k r o → holds v k ≡ false
no_record v start k None o none h = h
no_record v start k (Some r) o none h = absurd (cc none)

-- ---- writes

module _ (sites : List Site) (rs : ℕ → Option Record) where
  -- a write that leaves flags, and the cells of all sites but one, which has no record
  pub cells_keep : (v w : View) (k : ℕ) → rs k ≡ None → ((j : ℕ) → holds w j ≡ holds v j) → ((j : ℕ) → (k == j) ≡ false → SameCells v w j)
      → ((j : ℕ) → (k == j) ≡ false → SameKept v w (kept_from sites j) (site_at sites j)) → AreRecords sites v rs → AreRecords sites w rs
  cells_keep v w k none same cells kept all j = by_test (k == j) refl
    where
      by_test : (b : Bool) → (k == j) ≡ b → IsRecord w (kept_from sites j) j (rs j) (site_at sites j)
      by_test true is = none_kept v w (kept_from sites j) j (rs j) (site_at sites j) (subst (λ i. rs i ≡ None) (eqb-true k j is) none) (same j) (all j)
      by_test false is = record_kept v w (kept_from sites j) j (rs j) (site_at sites j) (same j) (cells j is) (kept j is) (all j)

  flag_cells : (v : View) (flag : ℕ → ℕ) (j : ℕ) → SameCells v (record v { flag = flag }) j
  flag_cells v flag j = record { value = refl; stamp = refl; class = refl; to = refl; from = refl; count = refl }

  pub value_keeps : (v : View) (k word : ℕ) → rs k ≡ None → AreRecords sites v rs → AreRecords sites (record v { value = put k word v.value }) rs
  value_keeps v k word none all = cells_keep v (record v { value = put k word v.value }) k none (λ j. refl)
      (λ j apart. record { value = put_other k j word v.value apart; stamp = refl; class = refl; to = refl; from = refl; count = refl }) (λ j apart most is n few. refl) all

  pub stamp_keeps : (v : View) (k time : ℕ) → rs k ≡ None → AreRecords sites v rs → AreRecords sites (record v { stamp = put k time v.stamp }) rs
  stamp_keeps v k time none all = cells_keep v (record v { stamp = put k time v.stamp }) k none (λ j. refl)
      (λ j apart. record { value = refl; stamp = put_other k j time v.stamp apart; class = refl; to = refl; from = refl; count = refl }) (λ j apart most is n few. refl) all

  pub class_keeps : (v : View) (k : ℕ) (c : DmaClass) → rs k ≡ None → AreRecords sites v rs → AreRecords sites (record v { class = put k (Some c) v.class }) rs
  class_keeps v k c none all = cells_keep v (record v { class = put k (Some c) v.class }) k none (λ j. refl)
      (λ j apart. record { value = refl; stamp = refl; class = put_other k j (Some c) v.class apart; to = refl; from = refl; count = refl }) (λ j apart most is n few. refl) all

  pub to_keeps : (v : View) (k : ℕ) (at : Place) → rs k ≡ None → AreRecords sites v rs → AreRecords sites (record v { to = put k (Some at) v.to }) rs
  to_keeps v k at none all = cells_keep v (record v { to = put k (Some at) v.to }) k none (λ j. refl)
      (λ j apart. record { value = refl; stamp = refl; class = refl; to = put_other k j (Some at) v.to apart; from = refl; count = refl }) (λ j apart most is n few. refl) all

  pub from_keeps : (v : View) (k : ℕ) (at : Place) → rs k ≡ None → AreRecords sites v rs → AreRecords sites (record v { from = put k (Some at) v.from }) rs
  from_keeps v k at none all = cells_keep v (record v { from = put k (Some at) v.from }) k none (λ j. refl)
      (λ j apart. record { value = refl; stamp = refl; class = refl; to = refl; from = put_other k j (Some at) v.from apart; count = refl }) (λ j apart most is n few. refl) all

  pub length_keeps : (v : View) (k n : ℕ) → rs k ≡ None → AreRecords sites v rs → AreRecords sites (record v { length = put k n v.length }) rs
  length_keeps v k n none all = cells_keep v (record v { length = put k n v.length }) k none (λ j. refl)
      (λ j apart. record { value = refl; stamp = refl; class = refl; to = refl; from = refl; count = put_other k j n v.length apart }) (λ j apart most is m few. refl) all

  -- what a view has beside the records' cells and the epoch isn't asked for
  pub same_keep : (v w : View) → w.epoch ≡ v.epoch → w.flag ≡ v.flag → ((j : ℕ) → SameCells v w j) → ((j : ℕ) → SameKept v w (kept_from sites j) (site_at sites j)) → AreRecords sites v rs → AreRecords sites w rs
  same_keep v w epoch flag cells kept all j = record_kept v w (kept_from sites j) j (rs j) (site_at sites j) (λ i. flag i j == epoch i) (cells j) (kept j) (all j)

  -- ---- flags

  -- a flag of another site is as it was
  flag_other : (v : View) (k j e : ℕ) → (k == j) ≡ false → holds (record v { flag = put k e v.flag }) j ≡ holds v j
  flag_other v k j e apart = ap (λ n. n == v.epoch) (put_other k j e v.flag apart)

  flag_here : (v : View) (k e : ℕ) → holds (record v { flag = put k e v.flag }) k ≡ (e == v.epoch)
  flag_here v k e = ap (λ n. n == v.epoch) (put_here k e v.flag)

  flag_keeps : (v : View) (k e : ℕ) (r : Option Record) → IsRecord (record v { flag = put k e v.flag }) (kept_from sites k) k r (site_at sites k) → AreRecords sites v rs
      → AreRecords sites (record v { flag = put k e v.flag }) (put k r rs)
  flag_keeps v k e r here all = put_all (λ j o. IsRecord (record v { flag = put k e v.flag }) (kept_from sites j) j o (site_at sites j)) k r rs here
      (λ j apart. record_kept v (record v { flag = put k e v.flag }) (kept_from sites j) j (rs j) (site_at sites j) (flag_other v k j e apart) (flag_cells v (put k e v.flag) j) (λ most is n few. refl) (all j))

  -- a drop: the flag is of no epoch
  pub drop_keeps : (v : View) (k : ℕ) → 1 ≤ v.epoch → AreRecords sites v rs → AreRecords sites (record v { flag = put k 0 v.flag }) (put k None rs)
  drop_keeps v k some all = flag_keeps v k 0 None (flag_here v k 0 ∙ ne_eqb 0 v.epoch (λ is. omega (arith, some, is))) all

  -- the flag of a seal, where the cells say what the record is
  pub seal_keeps : (v : View) (k : ℕ) (r : Record) → Says v (kept_from sites k) k r (site_at sites k) → AreRecords sites v rs → AreRecords sites (record v { flag = put k v.epoch v.flag }) (put k (Some r) rs)
  seal_keeps v k r says all = flag_keeps v k v.epoch (Some r)
      (flag_here v k v.epoch ∙ is_itself v.epoch, says_kept v (record v { flag = put k v.epoch v.flag }) (kept_from sites k) k r (site_at sites k) (flag_cells v (put k v.epoch v.flag) k) (λ most is n few. refl) says) all

-- a commit: no flag is of the new epoch
pub commit_keeps : (sites : List Site) (v : View) (n : ℕ) → ((k : ℕ) → v.flag k ≤ v.epoch) → AreRecords sites (record v { epoch = v.epoch + 1; task = n }) (λ k. None)
commit_keeps sites v n few k = ne_eqb (v.flag k) (v.epoch + 1) (λ is. let less = few k in omega (arith, less, is))
