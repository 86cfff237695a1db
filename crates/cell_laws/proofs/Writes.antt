-- A write of the plan is one word, and leaves words and cells alike.
use Rattle.std.specs.Prelude.{◌==◌, Option, Some, None, slice_get, if◌then◌else◌}
use Rattle.std.proofs.Common.{◌≡◌, ◌≢◌, ◌∙◌, ℕ, ◌+◌, ◌-◌, ◌<◌, ◌≤◌, Bool, true, false, List, length, refl, sym, ap, subst, arith, eqb-true, eq-eqb}
use Rattle.fram_ram.specs.Memories.{put}
use Rattle.task_attempts.specs.Changes as changes
use Rattle.task_ast.specs.declared.core_form.Core.{Core}
use Rattle.task_ast.specs.declared.core_form.CoreTask.{CoreTask}
use Rattle.task_ast.specs.declared.core_form.Site.{Site}
use Rattle.task_ast.specs.declared.core_form.Site.TheVariants as site
use Rattle.task_ast.specs.WellFormed.{IsWellFormed}
use Rattle.walk_run.specs.declared.place.Place.{Place}
use Rattle.walk_run.specs.Store.{Store, place, put_word, word_at, words_of}
use Rattle.walk_run.specs.StoreLaws.{word_other, word_same}
use Rattle.word_isa.specs.declared.parts.Scheme.{Scheme}
use Rattle.word_isa.specs.declared.parts.Scheme.TheVariants.{Undo, Bank}
use Rattle.run_plan.specs.Cells.{Cells, CellWrite, State, after_write, aside_at, with_cells, with_words, puts_home, puts_aside, puts_lock, puts_flag, puts_value, puts_stamp, puts_class, puts_to, puts_from, puts_length, puts_kept, puts_state}
use Rattle.word_code.specs.Frames.{flag_at, stamp_at, value_at, ends_at, lock_at}
use Rattle.line_laws.specs.Relation.{IsApart, base_at}
use Rattle.layout_laws.specs.Layouts.{IsInArea, LieInAreas, layout_of}
use Rattle.cell_laws.specs.Standing.{Fits, HasCells, HasHomes, HasRecord, HasStore, IsHome, IsLoose, IsSite, RecordStands, Stands, address_in, address_of, beside, class_word, word_of, worked}
use Rattle.cell_laws.proofs.Puts.{above, below, both_put, got, hit, left, miss}

-- ---- where homes lie

pub worked_low : (scheme : Scheme) (bank : ℕ) → worked scheme bank ≤ 2048
worked_low Undo bank = omega arith
worked_low Bank bank = by_test (bank == 0)
  where
    by_test : (b : Bool) → (if b then 2048 else 0) ≤ 2048
    by_test true = omega arith
    by_test false = omega arith

pub beside_low : (scheme : Scheme) (bank : ℕ) → beside scheme bank ≤ 2048
beside_low Undo bank = omega arith
beside_low Bank bank = by_test (bank == 0)
  where
    by_test : (b : Bool) → (if b then 0 else 2048) ≤ 2048
    by_test true = omega arith
    by_test false = omega arith

-- the two areas are the two banks
data AreTwo (a b : ℕ) : Type 0 where
  low_high : a ≡ 0 → b ≡ 2048 → AreTwo a b
  high_low : a ≡ 2048 → b ≡ 0 → AreTwo a b

turned_two : {a b : ℕ} → AreTwo a b → AreTwo b a
turned_two (low_high zero high) = high_low high zero
turned_two (high_low high zero) = low_high zero high

are_two : (scheme : Scheme) (bank : ℕ) → AreTwo (worked scheme bank) (beside scheme bank)
are_two Undo bank = low_high refl refl
are_two Bank bank = by_test (bank == 0)
  where
    by_test : (b : Bool) → AreTwo (if b then 2048 else 0) (if b then 0 else 2048)
    by_test true = high_low refl refl
    by_test false = low_high refl refl

-- a home lies in its bank
pub record InBank (bank a : ℕ) : Type 0 where
  pub from : bank < a
  pub below : a ≤ bank + 2048

pub home_in : (c : Core) → ((bank : ℕ) → bank ≤ 2048 → LieInAreas (layout_of c bank)) → (bank : ℕ) → bank ≤ 2048 → (at : Place) → IsHome c at → InBank bank (address_in c bank at)
home_in c areas bank low at home =
    let area : IsInArea bank (base_at (layout_of c bank) at.array) (address_in c bank at) = areas bank low at.array at.index home.inside in
    let register : base_at (layout_of c bank) at.array ≡ 14 = eqb-true (base_at (layout_of c bank) at.array) 14 home.nonvolatile in
    let here : IsInArea bank 14 (address_in c bank at) = subst (λ r. IsInArea bank r (address_in c bank at)) register area in
    record { from = omega (arith, here.from); below = omega (arith, here.below) }

module _ (c : Core) (areas : (bank : ℕ) → bank ≤ 2048 → LieInAreas (layout_of c bank)) (clear : (bank : ℕ) → bank ≤ 2048 → IsApart (layout_of c bank)) where
  -- two homes of one bank with one address are one
  homes_apart : (bank : ℕ) → bank ≤ 2048 → (p q : Place) → IsHome c p → IsHome c q → address_in c bank p ≡ address_in c bank q → (q.array ≡ p.array) × (q.index ≡ p.index)
  homes_apart bank low p q one two same = let both = clear bank low p.array q.array p.index q.index one.inside two.inside same in (sym both.0, sym both.1)

  -- and those of two banks lie apart
  banks_apart : (a b : ℕ) → AreTwo a b → (p q : Place) → IsHome c p → IsHome c q → address_in c a p ≢ address_in c b q
  banks_apart a b (low_high zero high) p q one two same =
      let first : InBank 0 (address_in c 0 p) = home_in c areas 0 (omega arith) p one in
      let second : InBank 2048 (address_in c 2048 q) = home_in c areas 2048 (omega arith) q two in
      let equal : address_in c 0 p ≡ address_in c 2048 q = sym (ap (λ x. address_in c x p) zero) ∙ same ∙ ap (λ x. address_in c x q) high in
      omega (arith, first.below, second.from, equal)
  banks_apart a b (high_low high zero) p q one two same =
      let first : InBank 2048 (address_in c 2048 p) = home_in c areas 2048 (omega arith) p one in
      let second : InBank 0 (address_in c 0 q) = home_in c areas 0 (omega arith) q two in
      let equal : address_in c 2048 p ≡ address_in c 0 q = sym (ap (λ x. address_in c x p) high) ∙ same ∙ ap (λ x. address_in c x q) zero in
      omega (arith, first.from, second.below, equal)

  -- a word behind all homes leaves them
  behind_homes : (bank : ℕ) → bank ≤ 2048 → (m : ℕ → ℕ) (words : Place → ℕ) (a w : ℕ) → 6145 ≤ a → HasHomes c bank m words → HasHomes c bank (put m a w) words
  behind_homes bank low m words a w far h at home =
      let here : InBank bank (address_in c bank at) = home_in c areas bank low at home in
      above m a w (address_in c bank at) (omega (arith, here.below, low, far)) ∙ h at home

  -- one home's word
  home_put : (bank : ℕ) → bank ≤ 2048 → (m : ℕ → ℕ) (store : Store) (p : Place) (w : ℕ) → IsHome c p → p.index < length (words_of store p.array)
      → HasHomes c bank m (word_at store) → HasHomes c bank (put m (address_in c bank p) w) (word_at (put_word p w store))
  home_put bank low m store p w one inside h q two = by_test (address_in c bank p == address_in c bank q) refl
    where
      by_test : (b : Bool) → (address_in c bank p == address_in c bank q) ≡ b → put m (address_in c bank p) w (address_in c bank q) ≡ word_at (put_word p w store) q
      by_test true is =
          let same = homes_apart bank low p q one two (eqb-true (address_in c bank p) (address_in c bank q) is) in
          let places : q ≡ p = λ i. place (same.0 i) (same.1 i) in
          ap (put m (address_in c bank p) w) (sym (eqb-true (address_in c bank p) (address_in c bank q) is)) ∙ hit m (address_in c bank p) w ∙ sym (word_same p w store inside) ∙ ap (word_at (put_word p w store)) (sym places)
      by_test false is =
          let other : (q.array ≡ p.array) × (q.index ≡ p.index) → ⊥ = λ both.
          let places : p ≡ q = λ i. place (sym both.0 i) (sym both.1 i) in
          absurd (cc (is, eq-eqb (address_in c bank p) (address_in c bank q) (ap (address_in c bank) places))) in
          miss m (address_in c bank p) w (address_in c bank q) (λ e. absurd (cc (is, eq-eqb (address_in c bank p) (address_in c bank q) e))) ∙ h q two ∙ sym (word_other p w store q other)

  -- the other bank's words stay
  other_bank : (a b : ℕ) → AreTwo a b → (m : ℕ → ℕ) (words : Place → ℕ) (p : Place) (w : ℕ) → IsHome c p → HasHomes c b m words → HasHomes c b (put m (address_in c a p) w) words
  other_bank a b two m words p w one h q home = miss m (address_in c a p) w (address_in c b q) (banks_apart a b two p q one home) ∙ h q home

  -- ---- writes of cells leave the store

  store_stays : (scheme : Scheme) (m : ℕ → ℕ) (s : State) (cells : Cells) (a w : ℕ) → 6145 ≤ a → HasStore c scheme m s → HasStore c scheme (put m a w) (with_cells cells s)
  store_stays scheme m s cells a w far h = record {
    state = above m a w 0 (omega (arith, far)) ∙ h.state;
    homes = behind_homes (worked scheme s.bank) (worked_low scheme s.bank) m (word_at s.store) a w far h.homes;
    aside = behind_homes (beside scheme s.bank) (beside_low scheme s.bank) m (aside_at s) a w far h.aside;
  }

-- ---- records

-- the words and the cells of a site's record are those of before
record IsSame (m n : ℕ → ℕ) (x y : Cells) (k : ℕ) : Type 0 where
  value_word : n (value_at k) ≡ m (value_at k)
  stamp_word : n (stamp_at k) ≡ m (stamp_at k)
  to_word : n (ends_at k) ≡ m (ends_at k)
  from_word : n (ends_at k + 1) ≡ m (ends_at k + 1)
  length_word : n (ends_at k + 2) ≡ m (ends_at k + 2)
  value : y.value k ≡ x.value k
  stamp : y.stamp k ≡ x.stamp k
  class : y.class k ≡ x.class k
  to : y.to k ≡ x.to k
  from : y.from k ≡ x.from k
  length : y.length k ≡ x.length k

record_stays : (address : Place → ℕ) (o : Option Site) (m n : ℕ → ℕ) (x y : Cells) (k : ℕ) → IsSame m n x y k → HasRecord address o m x k → HasRecord address o n y k
record_stays address (Some (site.Io ann)) m n x y k same h = (same.value_word ∙ h.0 ∙ sym same.value, same.stamp_word ∙ h.1 ∙ sym same.stamp)
record_stays address (Some (site.Block ann)) m n x y k same h = same.stamp_word ∙ h ∙ sym same.stamp
record_stays address (Some (site.Copy words)) m n x y k same h = record {
  class = λ d is. same.value_word ∙ h.class d (sym same.class ∙ is);
  to = λ at is. same.to_word ∙ h.to at (sym same.to ∙ is);
  from = λ at is. same.from_word ∙ h.from at (sym same.from ∙ is);
  length = same.length_word ∙ h.length ∙ sym same.length;
}
record_stays address None m n x y k same h = tt

-- the cells of a site's record are those of before
record AreAlike (k : ℕ) (x y : Cells) : Type 0 where
  value : y.value k ≡ x.value k
  stamp : y.stamp k ≡ x.stamp k
  class : y.class k ≡ x.class k
  to : y.to k ≡ x.to k
  from : y.from k ≡ x.from k
  length : y.length k ≡ x.length k

-- and its words are, where none of them is written
record IsOff (k a : ℕ) : Type 0 where
  value : a ≢ value_at k
  stamp : a ≢ stamp_at k
  to : a ≢ ends_at k
  from : a ≢ ends_at k + 1
  length : a ≢ ends_at k + 2

off_record : (m : ℕ → ℕ) (x y : Cells) (k a w : ℕ) → IsOff k a → AreAlike k x y → IsSame m (put m a w) x y k
off_record m x y k a w off same = record {
  value_word = miss m a w (value_at k) off.value;
  stamp_word = miss m a w (stamp_at k) off.stamp;
  to_word = miss m a w (ends_at k) off.to;
  from_word = miss m a w (ends_at k + 1) off.from;
  length_word = miss m a w (ends_at k + 2) off.length;
  value = same.value;
  stamp = same.stamp;
  class = same.class;
  to = same.to;
  from = same.from;
  length = same.length;
}

-- a word in front of all records, and one behind them
in_front : (k a : ℕ) → IsSite k → a < 6402 → IsOff k a
in_front k a is low = record {
  value = λ e. absurd (omega (arith, low, e));
  stamp = λ e. absurd (omega (arith, low, e, is.from));
  to = λ e. absurd (omega (arith, low, e));
  from = λ e. absurd (omega (arith, low, e));
  length = λ e. absurd (omega (arith, low, e));
}

behind : (k a : ℕ) → IsSite k → 7042 ≤ a → IsOff k a
behind k a is far = record {
  value = λ e. absurd (omega (arith, far, e, is.few));
  stamp = λ e. absurd (omega (arith, far, e, is.few));
  to = λ e. absurd (omega (arith, far, e, is.few));
  from = λ e. absurd (omega (arith, far, e, is.few));
  length = λ e. absurd (omega (arith, far, e, is.few));
}

-- a word of a site's record: at its value, its stamp or its ends
data IsOfRecord (j a : ℕ) : Type 0 where
  at_value : a ≡ value_at j → IsOfRecord j a
  at_stamp : a ≡ stamp_at j → IsOfRecord j a
  at_end : (e : ℕ) → e < 3 → a ≡ ends_at j + e → IsOfRecord j a

-- is none of another's
other_site : (j k a : ℕ) → IsSite j → IsSite k → j ≢ k → IsOfRecord j a → IsOff k a
other_site j k a one two other (at_value is) = record {
  value = λ e. other (omega (arith, is, e));
  stamp = λ e. absurd (omega (arith, is, e, one.from, two.few));
  to = λ e. absurd (omega (arith, is, e, one.few, two.from));
  from = λ e. absurd (omega (arith, is, e, one.few, two.from));
  length = λ e. absurd (omega (arith, is, e, one.few, two.from));
}
other_site j k a one two other (at_stamp is) = record {
  value = λ e. absurd (omega (arith, is, e, one.few, two.from));
  stamp = λ e. other (omega (arith, is, e));
  to = λ e. absurd (omega (arith, is, e, one.few, two.from));
  from = λ e. absurd (omega (arith, is, e, one.few, two.from));
  length = λ e. absurd (omega (arith, is, e, one.few, two.from));
}
other_site j k a one two other (at_end n few is) = record {
  value = λ e. absurd (omega (arith, is, e, few, one.from, two.few));
  stamp = λ e. absurd (omega (arith, is, e, few, one.from, two.few));
  to = λ e. other (omega (arith, is, e, few));
  from = λ e. other (omega (arith, is, e, few));
  length = λ e. other (omega (arith, is, e, few));
}

-- and lies between the flags and the kept words
record IsBetween (a : ℕ) : Type 0 where
  from : 6402 ≤ a
  below : a < 7042

record_between : (j a : ℕ) → IsSite j → IsOfRecord j a → IsBetween a
record_between j a one (at_value is) = record { from = omega (arith, is); below = omega (arith, is, one.few) }
record_between j a one (at_stamp is) = record { from = omega (arith, is, one.from); below = omega (arith, is, one.few) }
record_between j a one (at_end e few is) = record { from = omega (arith, is); below = omega (arith, is, few, one.few) }

-- ---- the cells behind each kind of write

module _ (c : Core) (scheme : Scheme) (t : CoreTask) (m : ℕ → ℕ) (s : State) (h : HasCells c scheme t m s) where
  abbrev address : Place → ℕ
  address = address_in c (worked scheme s.bank)

  abbrev standing : ℕ → Option Site
  standing k = slice_get t.sites (k - 1)

  -- a record where no word of it is written
  stays : (a w k : ℕ) (y : Cells) → IsOff k a → AreAlike k s.cells y → RecordStands c scheme t m s k → HasRecord address (standing k) (put m a w) y k
  stays a w k y off same was = record_stays address (standing k) m (put m a w) s.cells y k (off_record m s.cells y k a w off same) was

  -- a word in front of all cells, whatever becomes of the store
  cells_stay : (store : Store) (aside : List (List ℕ)) (a w : ℕ) → a < 6145 → HasCells c scheme t (put m a w) (record s { store = store; aside = aside })
  cells_stay store aside a w low = record {
    locks = λ r few. below m a w (lock_at r) (omega (arith, low)) ∙ h.locks r few;
    flags = λ k is. below m a w (flag_at k) (omega (arith, low)) ∙ h.flags k is;
    kept = λ n few. below m a w (7042 + n) (omega (arith, low)) ∙ h.kept n few;
    records = λ k is held. stays a w k s.cells (in_front k a is (omega (arith, low))) (record { value = refl; stamp = refl; class = refl; to = refl; from = refl; length = refl }) (h.records k is held);
  }

  lock_put : (r e : ℕ) → r ≤ 128 → HasCells c scheme t (put m (lock_at r) e) (with_cells (record s.cells { lock = changes.put r e s.cells.lock }) s)
  lock_put r e low = record {
    locks = λ q few. both_put m s.cells.lock lock_at r e q (λ apart same. apart (omega (arith, same))) (h.locks q few);
    flags = λ k is. below m (lock_at r) e (flag_at k) (omega (arith, low, is.from)) ∙ h.flags k is;
    kept = λ n few. below m (lock_at r) e (7042 + n) (omega (arith, low)) ∙ h.kept n few;
    records = λ k is held. stays (lock_at r) e k (record s.cells { lock = changes.put r e s.cells.lock }) (in_front k (lock_at r) is (omega (arith, low)))
        (record { value = refl; stamp = refl; class = refl; to = refl; from = refl; length = refl }) (h.records k is held);
  }

  known : (j e : ℕ) → (e ≡ s.epoch → RecordStands c scheme t m s j) → (k : ℕ) → IsSite k → changes.put j e s.cells.flag k ≡ s.epoch → RecordStands c scheme t m s k
  known j e whole k is held = by_test (j == k) refl
    where
      by_test : (b : Bool) → (j == k) ≡ b → RecordStands c scheme t m s k
      by_test true same =
          let here : j ≡ k = eqb-true j k same in
          subst (RecordStands c scheme t m s) here (whole (sym (got j e s.cells.flag) ∙ ap (changes.put j e s.cells.flag) here ∙ held))
      by_test false same = h.records k is (sym (left j e s.cells.flag k (λ here. absurd (cc (same, eq-eqb j k here)))) ∙ held)

  flag_put : (j e : ℕ) → IsSite j → (e ≡ s.epoch → RecordStands c scheme t m s j) → HasCells c scheme t (put m (flag_at j) e) (with_cells (record s.cells { flag = changes.put j e s.cells.flag }) s)
  flag_put j e one whole = record {
    locks = λ q few. above m (flag_at j) e (lock_at q) (omega (arith, few, one.from)) ∙ h.locks q few;
    flags = λ k is. both_put m s.cells.flag flag_at j e k (λ apart same. apart (omega (arith, same))) (h.flags k is);
    kept = λ n few. below m (flag_at j) e (7042 + n) (omega (arith, one.few)) ∙ h.kept n few;
    records = λ k is held. stays (flag_at j) e k (record s.cells { flag = changes.put j e s.cells.flag }) (in_front k (flag_at j) is (omega (arith, one.few)))
        (record { value = refl; stamp = refl; class = refl; to = refl; from = refl; length = refl }) (known j e whole k is held);
  }

  kept_put : (n w : ℕ) → n < 16384 → HasCells c scheme t (put m (7042 + n) w) (with_cells (record s.cells { kept = changes.put n w s.cells.kept }) s)
  kept_put n w low = record {
    locks = λ q few. above m (7042 + n) w (lock_at q) (omega (arith, few)) ∙ h.locks q few;
    flags = λ k is. above m (7042 + n) w (flag_at k) (omega (arith, is.few)) ∙ h.flags k is;
    kept = λ i few. both_put m s.cells.kept (λ q. 7042 + q) n w i (λ apart same. apart (omega (arith, same))) (h.kept i few);
    records = λ k is held. stays (7042 + n) w k (record s.cells { kept = changes.put n w s.cells.kept }) (behind k (7042 + n) is (omega arith))
        (record { value = refl; stamp = refl; class = refl; to = refl; from = refl; length = refl }) (h.records k is held);
  }

  -- a word of a record that doesn't hold
  record_put : (j a w : ℕ) (y : Cells) → IsLoose s j → IsOfRecord j a → y.lock ≡ s.cells.lock → y.flag ≡ s.cells.flag → y.kept ≡ s.cells.kept
      → ((k : ℕ) → j ≢ k → AreAlike k s.cells y) → HasCells c scheme t (put m a w) (with_cells y s)
  record_put j a w y loose of locks flags kept others =
      let range : IsBetween a = record_between j a loose.0 of in
      record {
        locks = λ q few. above m a w (lock_at q) (omega (arith, few, range.from)) ∙ h.locks q few ∙ sym (ap (λ f. f q) locks);
        flags = λ k is. above m a w (flag_at k) (omega (arith, is.few, range.from)) ∙ h.flags k is ∙ sym (ap (λ f. f k) flags);
        kept = λ n few. below m a w (7042 + n) (omega (arith, range.below)) ∙ h.kept n few ∙ sym (ap (λ f. f n) kept);
        records = λ k is held.
            let was : s.cells.flag k ≡ s.epoch = sym (ap (λ f. f k) flags) ∙ held in
            let other : j ≢ k = λ same. loose.1 (ap s.cells.flag same ∙ was) in
            stays a w k y (other_site j k a loose.0 is other of) (others k other) (h.records k is was);
      }

-- ---- every write

module _ (areas : (c : Core) (bank : ℕ) → IsWellFormed c → bank ≤ 2048 → LieInAreas (layout_of c bank)) (clear : (c : Core) (bank : ℕ) → IsWellFormed c → bank ≤ 2048 → IsApart (layout_of c bank)) where
  pub write_stands : (c : Core) (scheme : Scheme) (t : CoreTask) (m : ℕ → ℕ) (s : State) (w : CellWrite) → IsWellFormed c → Stands c scheme t m s → Fits c scheme t m s w
      → Stands c scheme t (put m (address_of c scheme s w) (word_of c scheme s w)) (after_write c.arrays w s)
  write_stands c scheme t m s (puts_home at w) well h fit =
      let low : worked scheme s.bank ≤ 2048 = worked_low scheme s.bank in
      let here = home_in c (λ k few. areas c k well few) (worked scheme s.bank) low at fit.0 in
      record {
        store = record {
          state = above m (address_in c (worked scheme s.bank) at) w 0 (omega (arith, here.from)) ∙ h.store.state;
          homes = home_put c (λ k few. areas c k well few) (λ k few. clear c k well few) (worked scheme s.bank) low m s.store at w fit.0 fit.1 h.store.homes;
          aside = other_bank c (λ k few. areas c k well few) (λ k few. clear c k well few) (worked scheme s.bank) (beside scheme s.bank) (are_two scheme s.bank) m (aside_at s) at w fit.0 h.store.aside;
        };
        cells = cells_stay c scheme t m s h.cells (put_word at w s.store) s.aside (address_in c (worked scheme s.bank) at) w (omega (arith, here.below, low));
      }
  write_stands c scheme t m s (puts_aside at w) well h fit =
      let low : beside scheme s.bank ≤ 2048 = beside_low scheme s.bank in
      let here = home_in c (λ k few. areas c k well few) (beside scheme s.bank) low at fit.0 in
      record {
        store = record {
          state = above m (address_in c (beside scheme s.bank) at) w 0 (omega (arith, here.from)) ∙ h.store.state;
          homes = other_bank c (λ k few. areas c k well few) (λ k few. clear c k well few) (beside scheme s.bank) (worked scheme s.bank) (turned_two (are_two scheme s.bank)) m (word_at s.store) at w fit.0 h.store.homes;
          aside = home_put c (λ k few. areas c k well few) (λ k few. clear c k well few) (beside scheme s.bank) low m (with_words s.aside s.store) at w fit.0 fit.1 h.store.aside;
        };
        cells = cells_stay c scheme t m s h.cells s.store (put_word at w (with_words s.aside s.store)).words (address_in c (beside scheme s.bank) at) w (omega (arith, here.below, low));
      }
  write_stands c scheme t m s (puts_lock r e) well h fit = record {
    store = store_stays c (λ k few. areas c k well few) (λ k few. clear c k well few) scheme m s (record s.cells { lock = changes.put r e s.cells.lock }) (lock_at r) e (omega arith) h.store;
    cells = lock_put c scheme t m s h.cells r e fit;
  }
  write_stands c scheme t m s (puts_flag k e) well h fit = record {
    store = store_stays c (λ b few. areas c b well few) (λ b few. clear c b well few) scheme m s (record s.cells { flag = changes.put k e s.cells.flag }) (flag_at k) e (omega arith) h.store;
    cells = flag_put c scheme t m s h.cells k e fit.0 fit.1;
  }
  write_stands c scheme t m s (puts_value k w) well h fit = record {
    store = store_stays c (λ b few. areas c b well few) (λ b few. clear c b well few) scheme m s (record s.cells { value = changes.put k w s.cells.value }) (value_at k) w (omega arith) h.store;
    cells = record_put c scheme t m s h.cells k (value_at k) w (record s.cells { value = changes.put k w s.cells.value }) fit (at_value refl) refl refl refl
        (λ j other. record { value = left k w s.cells.value j other; stamp = refl; class = refl; to = refl; from = refl; length = refl });
  }
  write_stands c scheme t m s (puts_stamp k w) well h fit = record {
    store = store_stays c (λ b few. areas c b well few) (λ b few. clear c b well few) scheme m s (record s.cells { stamp = changes.put k w s.cells.stamp }) (stamp_at k) w (omega arith) h.store;
    cells = record_put c scheme t m s h.cells k (stamp_at k) w (record s.cells { stamp = changes.put k w s.cells.stamp }) fit (at_stamp refl) refl refl refl
        (λ j other. record { value = refl; stamp = left k w s.cells.stamp j other; class = refl; to = refl; from = refl; length = refl });
  }
  write_stands c scheme t m s (puts_class k d) well h fit = record {
    store = store_stays c (λ b few. areas c b well few) (λ b few. clear c b well few) scheme m s (record s.cells { class = changes.put k (Some d) s.cells.class }) (value_at k) (class_word d) (omega arith) h.store;
    cells = record_put c scheme t m s h.cells k (value_at k) (class_word d) (record s.cells { class = changes.put k (Some d) s.cells.class }) fit (at_value refl) refl refl refl
        (λ j other. record { value = refl; stamp = refl; class = left k (Some d) s.cells.class j other; to = refl; from = refl; length = refl });
  }
  write_stands c scheme t m s (puts_to k at) well h fit = record {
    store = store_stays c (λ b few. areas c b well few) (λ b few. clear c b well few) scheme m s (record s.cells { to = changes.put k (Some at) s.cells.to }) (ends_at k) (address_in c (worked scheme s.bank) at) (omega arith) h.store;
    cells = record_put c scheme t m s h.cells k (ends_at k) (address_in c (worked scheme s.bank) at) (record s.cells { to = changes.put k (Some at) s.cells.to }) fit (at_end 0 (omega arith) (omega arith)) refl refl refl
        (λ j other. record { value = refl; stamp = refl; class = refl; to = left k (Some at) s.cells.to j other; from = refl; length = refl });
  }
  write_stands c scheme t m s (puts_from k at) well h fit = record {
    store = store_stays c (λ b few. areas c b well few) (λ b few. clear c b well few) scheme m s (record s.cells { from = changes.put k (Some at) s.cells.from }) (ends_at k + 1) (address_in c (worked scheme s.bank) at) (omega arith) h.store;
    cells = record_put c scheme t m s h.cells k (ends_at k + 1) (address_in c (worked scheme s.bank) at) (record s.cells { from = changes.put k (Some at) s.cells.from }) fit (at_end 1 (omega arith) refl) refl refl refl
        (λ j other. record { value = refl; stamp = refl; class = refl; to = refl; from = left k (Some at) s.cells.from j other; length = refl });
  }
  write_stands c scheme t m s (puts_length k n) well h fit = record {
    store = store_stays c (λ b few. areas c b well few) (λ b few. clear c b well few) scheme m s (record s.cells { length = changes.put k n s.cells.length }) (ends_at k + 2) n (omega arith) h.store;
    cells = record_put c scheme t m s h.cells k (ends_at k + 2) n (record s.cells { length = changes.put k n s.cells.length }) fit (at_end 2 (omega arith) refl) refl refl refl
        (λ j other. record { value = refl; stamp = refl; class = refl; to = refl; from = refl; length = left k n s.cells.length j other });
  }
  write_stands c scheme t m s (puts_kept n w) well h fit = record {
    store = store_stays c (λ b few. areas c b well few) (λ b few. clear c b well few) scheme m s (record s.cells { kept = changes.put n w s.cells.kept }) (7042 + n) w (omega arith) h.store;
    cells = kept_put c scheme t m s h.cells n w fit;
  }
  write_stands c scheme t m s (puts_state e u b) well h fit = absurd fit
