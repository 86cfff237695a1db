-- Where a plan stands, with the rules, behind each kind of write and event.
use Rattle.std.proofs.Common.{◌≡◌, ◌∙◌, ℕ, ◌+◌, ◌≤◌, Bool, true, false, ◌==◌, List, [], ◌∷◌, length, drop, refl, sym, ap, subst, arith}
use Rattle.std.specs.Prelude.{Option, Some, None}
use Rattle.std.specs.List.{AllByRecursion}
use Rattle.task_ast.specs.declared.tree.Kind.{Kind}
use Rattle.task_ast.specs.declared.tree.Kind.TheVariants.{Nv, Const, Vol}
use Rattle.task_ast.specs.declared.core_form.Core.{Core}
use Rattle.task_ast.specs.declared.core_form.Site.TheVariants as site
use Rattle.walk_run.specs.declared.place.Place.{Place}
use Rattle.walk_run.specs.Store.{first_if_shown}
use Rattle.walk_run.specs.PlainWrites.{Write, sets, points}
use Rattle.region_split.specs.declared.class.DmaClass.{DmaClass}
use Rattle.task_attempts.specs.State.{Record, of_copy, Standing, Here}
use Rattle.task_attempts.specs.Changes.{put, with_record, with_looks, with_issue, with_region}
use Rattle.task_attempts.specs.Calls.{site_at}
use Rattle.task_attempts.specs.Attempts.{after_commit}
use Rattle.run_plan.specs.Cells.{State, CellWrite, puts_home, puts_aside, puts_lock, puts_flag, puts_value, puts_stamp, puts_class, puts_to, puts_from, puts_length, puts_kept, puts_state, turned, after_write}
use Rattle.run_plan.specs.Words.{kind_at, home_writes, save_writes, restore_writes, kept_words}
use Rattle.run_plan.specs.Safe.{all_written}
use Rattle.run_plan.specs.Runs.{Planned}
use Rattle.site_events.specs.Records.{View, view, Says, kept_from, AreRecords}
use Rattle.site_events.specs.Standing.{FitsIn, IsNoConstant, LeavesRecord, sites_of, IsNumbered, StandsAt}
use Rattle.site_events.proofs.Records.{SameCells, same_keep, put_all, value_keeps, stamp_keeps, class_keeps, to_keeps, from_keeps, length_keeps, drop_keeps, seal_keeps, commit_keeps}
use Rattle.site_events.proofs.KeptWords.{IsWithin, kept_keeps}
use Rattle.site_events.proofs.Telling.{AllStand}

-- ---- writes that aren't seen: of words of homes, and of those aside

abbrev pub IsUnseen : CellWrite → Type 0
IsUnseen (puts_home at word) = Unit {0}
IsUnseen (puts_aside at word) = Unit {0}
IsUnseen w = ⊥

unseen_view : (c : Core) (w : CellWrite) → IsUnseen w → (s : State) → view (after_write c.arrays w s) ≡ view s
unseen_view core (puts_home at word) is s = refl
unseen_view core (puts_aside at word) is s = refl
unseen_view core (puts_lock r e) is s = absurd is
unseen_view core (puts_flag k e) is s = absurd is
unseen_view core (puts_value k word) is s = absurd is
unseen_view core (puts_stamp k t) is s = absurd is
unseen_view core (puts_class k c) is s = absurd is
unseen_view core (puts_to k at) is s = absurd is
unseen_view core (puts_from k at) is s = absurd is
unseen_view core (puts_length k n) is s = absurd is
unseen_view core (puts_kept at word) is s = absurd is
unseen_view core (puts_state e t b) is s = absurd is

unseen_frame : (c : Core) (w : CellWrite) → IsUnseen w → (s : State) → (after_write c.arrays w s).frame ≡ s.frame
unseen_frame core (puts_home at word) is s = refl
unseen_frame core (puts_aside at word) is s = refl
unseen_frame core (puts_lock r e) is s = absurd is
unseen_frame core (puts_flag k e) is s = absurd is
unseen_frame core (puts_value k word) is s = absurd is
unseen_frame core (puts_stamp k t) is s = absurd is
unseen_frame core (puts_class k c) is s = absurd is
unseen_frame core (puts_to k at) is s = absurd is
unseen_frame core (puts_from k at) is s = absurd is
unseen_frame core (puts_length k n) is s = absurd is
unseen_frame core (puts_kept at word) is s = absurd is
unseen_frame core (puts_state e t b) is s = absurd is

pub all_view : (c : Core) (writes : List CellWrite) → AllByRecursion IsUnseen writes → (s : State) → view (all_written c writes s) ≡ view s
all_view c [] all s = refl
all_view c (w ∷ writes) all s = all_view c writes all.1 (after_write c.arrays w s) ∙ unseen_view c w all.0 s

pub all_frame : (c : Core) (writes : List CellWrite) → AllByRecursion IsUnseen writes → (s : State) → (all_written c writes s).frame ≡ s.frame
all_frame c [] all s = refl
all_frame c (w ∷ writes) all s = all_frame c writes all.1 (after_write c.arrays w s) ∙ unseen_frame c w all.0 s

-- the plan stands there behind each of them
pub all_stand : (p : Planned) (Sees : _) (fuel : ℕ) (st : Standing) (writes : List CellWrite) → AllByRecursion IsUnseen writes → (s : State) → StandsAt p.rules.core (view s) st → AllStand p Sees fuel st writes s
all_stand p Sees fuel st [] all s h = tt
all_stand p Sees fuel st (w ∷ writes) all s h =
    let here = subst (λ v. StandsAt p.rules.core v st) (sym (unseen_view p.rules.core w all.0 s)) h in
    (here, all_stand p Sees fuel st writes all.1 (after_write p.rules.core.arrays w s) here)

kind_unseen : (k : Kind) (at : Place) (w : ℕ) (writes : List CellWrite) → AllByRecursion IsUnseen writes → AllByRecursion IsUnseen (first_if_shown k (puts_home at w) writes)
kind_unseen Nv at w writes all = (tt, all)
kind_unseen Const at w writes all = all
kind_unseen Vol at w writes all = all

pub homes_unseen : (c : Core) (writes : List Write) → AllByRecursion IsUnseen (home_writes c writes)
homes_unseen c [] = tt
homes_unseen c (points q at ∷ writes) = homes_unseen c writes
homes_unseen c (sets at w ∷ writes) = kind_unseen (kind_at c at) at w (home_writes c writes) (homes_unseen c writes)

pub saves_unseen : (s : State) (places : List Place) → AllByRecursion IsUnseen (save_writes s places)
saves_unseen s [] = tt
saves_unseen s (at ∷ places) = (tt, saves_unseen s places)

pub restores_unseen : (s : State) (places : List Place) → AllByRecursion IsUnseen (restore_writes s places)
restores_unseen s [] = tt
restores_unseen s (at ∷ places) = (tt, restores_unseen s places)

-- ---- each other write, and each event

module _ (c : Core) (s : State) (here : Here) (h : StandsAt c (view s) here.standing) where
  abbrev st : Standing
  st = here.standing

  numbered : IsNumbered (view s)
  numbered = h.numbered

  -- what is so of a copy's record
  abbrev pub Recorded : Option Record → Type 0
  Recorded r = (sort : DmaClass) (to from : Place) (words : List ℕ) → r ≡ Some (of_copy sort to from words) → LeavesRecord sort × IsNoConstant c to.array

  -- the records, where other parts of the view are new
  same_records : (w : View) → w.epoch ≡ s.epoch → w.flag ≡ s.cells.flag → ((j : ℕ) → SameCells (view s) w j) → w.kept ≡ s.cells.kept → AreRecords (sites_of c s.task) w st.account.records
  same_records w epoch flag cells kept = same_keep (sites_of c s.task) st.account.records (view s) w epoch flag cells
      (λ j most is n few. ap (λ (words : ℕ → ℕ). kept_words words (kept_from (sites_of c s.task) j) n) kept) h.records

  pub value_stands : (k word : ℕ) → st.account.records k ≡ None → StandsAt c (view (after_write c.arrays (puts_value k word) s)) st
  value_stands k word none = record {
    next = h.next;
    there = h.there;
    looks = h.looks;
    issued = h.issued;
    records = value_keeps (sites_of c s.task) st.account.records (view s) k word none h.records;
    good = record { fits = h.good.fits; copies = h.good.copies };
    locked = h.locked;
    numbered = record { flags = numbered.flags; locks = numbered.locks; some = numbered.some };
  }

  pub stamp_stands : (k time : ℕ) → st.account.records k ≡ None → StandsAt c (view (after_write c.arrays (puts_stamp k time) s)) st
  stamp_stands k time none = record {
    next = h.next;
    there = h.there;
    looks = h.looks;
    issued = h.issued;
    records = stamp_keeps (sites_of c s.task) st.account.records (view s) k time none h.records;
    good = record { fits = h.good.fits; copies = h.good.copies };
    locked = h.locked;
    numbered = record { flags = numbered.flags; locks = numbered.locks; some = numbered.some };
  }

  pub class_stands : (k : ℕ) (x : DmaClass) → st.account.records k ≡ None → StandsAt c (view (after_write c.arrays (puts_class k x) s)) st
  class_stands k x none = record {
    next = h.next;
    there = h.there;
    looks = h.looks;
    issued = h.issued;
    records = class_keeps (sites_of c s.task) st.account.records (view s) k x none h.records;
    good = record { fits = h.good.fits; copies = h.good.copies };
    locked = h.locked;
    numbered = record { flags = numbered.flags; locks = numbered.locks; some = numbered.some };
  }

  pub to_stands : (k : ℕ) (x : Place) → st.account.records k ≡ None → StandsAt c (view (after_write c.arrays (puts_to k x) s)) st
  to_stands k x none = record {
    next = h.next;
    there = h.there;
    looks = h.looks;
    issued = h.issued;
    records = to_keeps (sites_of c s.task) st.account.records (view s) k x none h.records;
    good = record { fits = h.good.fits; copies = h.good.copies };
    locked = h.locked;
    numbered = record { flags = numbered.flags; locks = numbered.locks; some = numbered.some };
  }

  pub from_stands : (k : ℕ) (x : Place) → st.account.records k ≡ None → StandsAt c (view (after_write c.arrays (puts_from k x) s)) st
  from_stands k x none = record {
    next = h.next;
    there = h.there;
    looks = h.looks;
    issued = h.issued;
    records = from_keeps (sites_of c s.task) st.account.records (view s) k x none h.records;
    good = record { fits = h.good.fits; copies = h.good.copies };
    locked = h.locked;
    numbered = record { flags = numbered.flags; locks = numbered.locks; some = numbered.some };
  }

  pub length_stands : (k : ℕ) (x : ℕ) → st.account.records k ≡ None → StandsAt c (view (after_write c.arrays (puts_length k x) s)) st
  length_stands k x none = record {
    next = h.next;
    there = h.there;
    looks = h.looks;
    issued = h.issued;
    records = length_keeps (sites_of c s.task) st.account.records (view s) k x none h.records;
    good = record { fits = h.good.fits; copies = h.good.copies };
    locked = h.locked;
    numbered = record { flags = numbered.flags; locks = numbered.locks; some = numbered.some };
  }

  -- a kept word of a copy without a record
  pub kept_stands : (k most i w : ℕ) → site_at (sites_of c s.task) k ≡ Some (site.Copy most) → IsWithin (sites_of c s.task) k most i → st.account.records k ≡ None → StandsAt c (view (after_write c.arrays (puts_kept i w) s)) st
  kept_stands k most i w standing inside none = record {
    next = h.next;
    there = h.there;
    looks = h.looks;
    issued = h.issued;
    records = kept_keeps (sites_of c s.task) st.account.records (view s) k most i w standing inside none h.records;
    good = record { fits = h.good.fits; copies = h.good.copies };
    locked = h.locked;
    numbered = record { flags = numbered.flags; locks = numbered.locks; some = numbered.some };
  }

  -- a flag that isn't beyond the epoch
  flags_few : (k e : ℕ) → e ≤ s.epoch → IsNumbered (view (after_write c.arrays (puts_flag k e) s))
  flags_few k e few = record { flags = put_all (λ j n. n ≤ s.epoch) k e s.cells.flag few (λ j apart. numbered.flags j); locks = numbered.locks; some = numbered.some }

  pub drop_stands : (k : ℕ) → StandsAt c (view (after_write c.arrays (puts_flag k 0) s)) (with_record k None here).standing
  drop_stands k = record {
    next = h.next;
    there = h.there;
    looks = h.looks;
    issued = h.issued;
    records = drop_keeps (sites_of c s.task) st.account.records (view s) k numbered.some h.records;
    good = record { fits = h.good.fits; copies = put_all (λ j o. Recorded o) k None st.account.records (λ sort to from words is. absurd (cc is)) (λ j apart. h.good.copies j) };
    locked = h.locked;
    numbered = flags_few k 0 (omega arith);
  }

  pub seal_stands : (k : ℕ) (r : Record) → Recorded (Some r) → Says (view s) (kept_from (sites_of c s.task) k) k r (site_at (sites_of c s.task) k)
      → StandsAt c (view (after_write c.arrays (puts_flag k s.epoch) s)) (with_record k (Some r) here).standing
  seal_stands k r fine says = record {
    next = h.next;
    there = h.there;
    looks = h.looks;
    issued = h.issued;
    records = seal_keeps (sites_of c s.task) st.account.records (view s) k r says h.records;
    good = record { fits = h.good.fits; copies = put_all (λ j o. Recorded o) k (Some r) st.account.records fine (λ j apart. h.good.copies j) };
    locked = h.locked;
    numbered = flags_few k s.epoch (omega arith);
  }

  pub look_stands : StandsAt c (view (record s { looks = drop 1 s.looks })) (with_looks (drop 1 st.account.looks) here).standing
  look_stands = record {
    next = h.next;
    there = h.there;
    looks = ap (drop 1) h.looks;
    issued = h.issued;
    records = same_records (view (record s { looks = drop 1 s.looks })) refl refl (λ j. record { value = refl; stamp = refl; class = refl; to = refl; from = refl; count = refl }) refl;
    good = record { fits = h.good.fits; copies = h.good.copies };
    locked = h.locked;
    numbered = record { flags = numbered.flags; locks = numbered.locks; some = numbered.some };
  }

  pub issue_stands : (q : ℕ) → StandsAt c (view (record s { issued = put q (s.issued q + 1) s.issued })) (with_issue q here).standing
  issue_stands q = record {
    next = h.next;
    there = h.there;
    looks = h.looks;
    issued = ap (λ (f : ℕ → ℕ). put q (f q + 1) f) h.issued;
    records = same_records (view (record s { issued = put q (s.issued q + 1) s.issued })) refl refl (λ j. record { value = refl; stamp = refl; class = refl; to = refl; from = refl; count = refl }) refl;
    good = record { fits = h.good.fits; copies = h.good.copies };
    locked = h.locked;
    numbered = record { flags = numbered.flags; locks = numbered.locks; some = numbered.some };
  }

  -- a lock of a region that was reached, or of the one behind
  pub lock_stands : (r : ℕ) → r ≤ st.account.furthest + 1 → StandsAt c (view (after_write c.arrays (puts_lock r s.epoch) s)) st
  lock_stands r reached = record {
    next = h.next;
    there = h.there;
    looks = h.looks;
    issued = h.issued;
    records = same_records (view (after_write c.arrays (puts_lock r s.epoch) s)) refl refl (λ j. record { value = refl; stamp = refl; class = refl; to = refl; from = refl; count = refl }) refl;
    good = record { fits = h.good.fits; copies = h.good.copies };
    locked = put_all (λ q n. n ≡ s.epoch → q ≤ st.account.furthest + 1) r s.epoch s.cells.lock (λ is. reached) (λ q apart. h.locked q);
    numbered = record { flags = numbered.flags; locks = put_all (λ q n. n ≤ s.epoch) r s.epoch s.cells.lock (omega arith) (λ q apart. numbered.locks q); some = numbered.some };
  }

  -- the state word
  by_bank : (same : Bool) (e n bank : ℕ) → view (record (turned same c.arrays s) { epoch = e; task = n; bank = bank }) ≡ record (view s) { epoch = e; task = n }
  by_bank true e n bank = refl
  by_bank false e n bank = refl

  pub commit_stands : (n bank : ℕ) → n ≤ length c.tasks → FitsIn c here.store → StandsAt c (view (after_write c.arrays (puts_state (s.epoch + 1) n bank) s)) (after_commit n here)
  commit_stands n bank there fits = subst (λ v. StandsAt c v (after_commit n here)) (sym (by_bank (bank == s.bank) (s.epoch + 1) n bank)) (record {
    next = refl;
    there = there;
    looks = h.looks;
    issued = h.issued;
    records = commit_keeps (sites_of c n) (view s) n numbered.flags;
    good = record { fits = fits; copies = λ k sort to from words is. absurd (cc is) };
    locked = λ r is. (let few = numbered.locks r in absurd (omega (arith, few, is)));
    numbered = record { flags = λ k. (let few = numbered.flags k in omega (arith, few)); locks = λ r. (let few = numbered.locks r in omega (arith, few)); some = omega arith };
  })

-- a region that is reached
pub region_stands : (c : Core) (v : View) (r : ℕ) (here : Here) → StandsAt c v here.standing → StandsAt c v (with_region r here).standing
region_stands c v r here h = record {
  next = h.next;
  there = h.there;
  looks = h.looks;
  issued = h.issued;
  records = h.records;
  good = record { fits = h.good.fits; copies = h.good.copies };
  locked = λ q is. (let few = h.locked q is in omega (arith, few));
  numbered = h.numbered;
}
