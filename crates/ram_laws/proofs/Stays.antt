-- Constants and RAM stay where other words are written.
use Rattle.std.specs.Prelude.{◌-◌, Option, Some, None, slice_index_or}
use Rattle.std.proofs.Common.{◌≡◌, ◌≢◌, ◌∙◌, ℕ, ◌+◌, ◌^◌, ◌<◌, ◌≤◌, List, [], ◌∷◌, length, refl, sym, ap, subst, arith, eqb-true}
use Rattle.fram_ram.specs.Memories.{put}
use Rattle.task_ast.specs.declared.core_form.Core.{Core}
use Rattle.task_ast.specs.declared.core_form.CoreTask.{CoreTask}
use Rattle.task_ast.specs.WellFormed.{IsWellFormed}
use Rattle.io_annot.specs.declared.choice.Mode.{Mode}
use Rattle.walk_run.specs.declared.place.Place.{Place}
use Rattle.walk_run.specs.Store.{Store, put_word, word_at, words_of, pointed}
use Rattle.walk_run.specs.StoreLaws.{rooms_stay, word_other}
use Rattle.word_isa.specs.declared.parts.Scheme.{Scheme}
use Rattle.line_code.specs.Areas.{pointer_at}
use Rattle.run_plan.specs.Cells.{CopyValued, CellWrite, Frame, State, after_write, puts_home, puts_aside, puts_lock, puts_flag, puts_value, puts_stamp, puts_class, puts_to, puts_from, puts_length, puts_kept, puts_state}
use Rattle.word_code.specs.Frames.{begun_at, outer_at}
use Rattle.act_laws.specs.Words.{mode_word}
use Rattle.line_laws.specs.Relation.{Layout, Points, base_at}
use Rattle.layout_laws.specs.Layouts.{IsInArea, LieInAreas, layout_of}
use Rattle.cell_laws.specs.Standing.{Fits, IsSite, address_in, address_of, beside, word_of, worked}
use Rattle.cell_laws.proofs.Puts.{miss}
use Rattle.cell_laws.proofs.Writes.{beside_low, home_in, worked_low}
use Rattle.ram_laws.specs.Ram.{AreWhole, HasArguments, HasArrays, HasConstants, HasEnd, HasFrame, HasPointers, HasRam, HasTarget, HasValued, HasWord, HasWords, IsPlaceOf, RamStands}

-- ---- parts of a frame

pub word_stays : (m n : ℕ → ℕ) (a w : ℕ) → n a ≡ m a → HasWord m a w → HasWord n a w
word_stays m n a w same h = record { holds = same ∙ h.holds; fits = h.fits }

pub target_stays : (c : Core) (bank : ℕ) (m n : ℕ → ℕ) (at : Place) → n 1048608 ≡ m 1048608 → HasTarget c bank m at → HasTarget c bank n at
target_stays c bank m n at same h = record { holds = same ∙ h.holds; inside = h.inside; written = h.written }

-- memory is the same from an address up to another
abbrev pub AreSame : (m n : ℕ → ℕ) → (from below : ℕ) → Type 0
AreSame m n from below = (a : ℕ) → from ≤ a → a < below → n a ≡ m a

words_stay : (m n : ℕ → ℕ) (words : List ℕ) (cell : ℕ) → 1048609 ≤ cell → cell + length words ≤ 1048613 → AreSame m n 1048609 1048613 → HasWords words cell m → HasWords words cell n
words_stay m n [] cell from few same h = tt
words_stay m n (word ∷ words) cell from few same h =
    (same cell from (omega (arith, few)) ∙ h.0, words_stay m n words (cell + 1) (omega (arith, from)) (omega (arith, few)) same h.1)

pub args_stay : (m n : ℕ → ℕ) (words : List ℕ) → AreSame m n 1048609 1048613 → HasArguments m words → HasArguments n words
args_stay m n words same h = record { few = h.few; holds = words_stay m n words 1048609 (omega arith) (omega (arith, h.few)) same h.holds }

end_stays : (c : Core) (bank : ℕ) (m n : ℕ → ℕ) (cell : ℕ) (at : Place) (k : ℕ) → n cell ≡ m cell → n (cell + 1) ≡ m (cell + 1) → HasEnd c bank m cell at k → HasEnd c bank n cell at k
end_stays c bank m n cell at k one two h = record { address = one ∙ h.address; room = two ∙ h.room; inside = h.inside }

pub valued_stays : (c : Core) (bank : ℕ) (m n : ℕ → ℕ) (v : CopyValued) → AreSame m n 1048616 1048622 → HasValued c bank m v → HasValued c bank n v
valued_stays c bank m n v same h = record {
  to = end_stays c bank m n 1048616 v.to v.length (same 1048616 (omega arith) (omega arith)) (same 1048617 (omega arith) (omega arith)) h.to;
  from = end_stays c bank m n 1048618 v.from v.length (same 1048618 (omega arith) (omega arith)) (same 1048619 (omega arith) (omega arith)) h.from;
  length = word_stays m n 1048620 v.length (same 1048620 (omega arith) (omega arith)) h.length;
  class = same 1048621 (omega arith) (omega arith) ∙ h.class;
}

pub frame_stays : (c : Core) (bank : ℕ) (m n : ℕ → ℕ) (f : Frame) → AreSame m n 1048608 1048896 → HasFrame c bank m f → HasFrame c bank n f
frame_stays c bank m n f same h = record {
  mode = λ o is. same 1048615 (omega arith) (omega arith) ∙ h.mode o is;
  target = λ at is. target_stays c bank m n at (same 1048608 (omega arith) (omega arith)) (h.target at is);
  args = λ words is. args_stay m n words (λ a from below. same a (omega (arith, from)) (omega (arith, below))) (h.args words is);
  time = λ t is. word_stays m n 1048613 t (same 1048613 (omega arith) (omega arith)) (h.time t is);
  word = λ w is. word_stays m n 1048614 w (same 1048614 (omega arith) (omega arith)) (h.word w is);
  copy = λ v is. valued_stays c bank m n v (λ a from below. same a (omega (arith, from)) (omega (arith, below))) (h.copy v is);
  outer = λ k here o is. same (1048576 + outer_at k) (omega (arith, here.from)) (omega (arith, here.few)) ∙ h.outer k here o is;
  begun = λ k here t is. word_stays m n (1048576 + begun_at k) t (same (1048576 + begun_at k) (omega (arith, here.from)) (omega (arith, here.few))) (h.begun k here t is);
}

-- ---- arrays and pointers

pub arrays_stay : (c : Core) (register : ℕ) (m n : ℕ → ℕ) (old new : Store)
    → ((array : ℕ) → base_at (layout_of c 0) array ≡ register → length (words_of new array) ≡ length (words_of old array))
    → ((at : Place) → IsPlaceOf c register at → word_at new at ≡ word_at old at)
    → ((at : Place) → IsPlaceOf c register at → n (address_in c 0 at) ≡ m (address_in c 0 at))
    → HasArrays c register m old → HasArrays c register n new
arrays_stay c register m n old new rooms words same h = record {
  whole = record {
    rooms = λ array is. rooms array is ∙ h.whole.rooms array is;
    fits = λ at here. subst (λ w. w < 2 ^ 32) (sym (words at here)) (h.whole.fits at here);
  };
  holds = λ at here. same at here ∙ h.holds at here ∙ sym (words at here);
}

points_stay : (l : Layout) (cell : ℕ) (at : Option Place) (m n : ℕ → ℕ) → n (1048576 + cell) ≡ m (1048576 + cell) → n (1048576 + (cell + 1)) ≡ m (1048576 + (cell + 1)) → Points l cell at m → Points l cell at n
points_stay l cell None m n one two h = two ∙ h
points_stay l cell (Some at) m n one two h = (one ∙ h.0, two ∙ h.1, h.2)

pub pointers_stay : (c : Core) (bank : ℕ) (m n : ℕ → ℕ) (old new : Store) → new.pointers ≡ old.pointers → AreSame m n 1048896 1049408 → HasPointers c bank m old → HasPointers c bank n new
pointers_stay c bank m n old new alike same h = record {
  few = h.few;
  many = subst (λ ps. length c.pointers ≤ length ps) (sym alike) h.many;
  points = λ q low.
      let k : ℕ = pointer_at q in
      let near : k + 1 < 832 = omega (arith, low, h.few) in
      subst (λ ps. Points (layout_of c bank) k (slice_index_or ps q None) n) (sym alike)
      (points_stay (layout_of c bank) k (pointed old q) m n (same (1048576 + k) (omega arith) (omega (arith, near))) (same (1048576 + (k + 1)) (omega arith) (omega (arith, near))) (h.points q low));
}

-- ---- where places lie

pub record LiesIn (a first end : ℕ) : Type 0 where
  pub from : first ≤ a
  pub below : a < end

module _ (areas : (c : Core) (bank : ℕ) → IsWellFormed c → bank ≤ 2048 → LieInAreas (layout_of c bank)) where
  area_is : (c : Core) (register : ℕ) (at : Place) → IsWellFormed c → IsPlaceOf c register at → IsInArea 0 register (address_in c 0 at)
  area_is c register at well here = subst (λ r. IsInArea 0 r (address_in c 0 at)) here.counts (areas c 0 well (omega arith) at.array at.index here.inside)

  pub volatile_in : (c : Core) (at : Place) → IsWellFormed c → IsPlaceOf c 15 at → LiesIn (address_in c 0 at) 1049408 1051456
  volatile_in c at well here = let area = area_is c 15 at well here in record { from = area.from; below = area.below }

  pub constant_in : (c : Core) (at : Place) → IsWellFormed c → IsPlaceOf c 0 at → LiesIn (address_in c 0 at) 4097 6145
  constant_in c at well here = let area = area_is c 0 at well here in record { from = area.from; below = area.below }

  -- all of RAM, where only words before its cells and in FRAM are written
  pub ram_stays : (c : Core) (bank : ℕ) (m n : ℕ → ℕ) (old new : Store) (f : Frame) → IsWellFormed c
      → ((array : ℕ) → base_at (layout_of c 0) array ≡ 15 → length (words_of new array) ≡ length (words_of old array))
      → ((at : Place) → IsPlaceOf c 15 at → word_at new at ≡ word_at old at)
      → new.pointers ≡ old.pointers → AreSame m n 1048608 1051456 → HasRam c bank m old f → HasRam c bank n new f
  ram_stays c bank m n old new f well rooms words alike same h = record {
    volatile = arrays_stay c 15 m n old new rooms words (λ at here. let lies = volatile_in c at well here in same (address_in c 0 at) (omega (arith, lies.from)) lies.below) h.volatile;
    pointers = pointers_stay c bank m n old new alike (λ a from below. same a (omega (arith, from)) (omega (arith, below))) h.pointers;
    frame = frame_stays c bank m n f (λ a from below. same a (omega (arith, from)) (omega (arith, below))) h.frame;
  }

  -- ---- a write of the plan

  -- an address of FRAM that no constant has
  pub record IsClear (a : ℕ) : Type 0 where
    pub fram : a < 65536
    pub off : (b : ℕ) → 4097 ≤ b → b < 6145 → a ≢ b

  below_clear : (a : ℕ) → a < 4097 → IsClear a
  below_clear a low = record { fram = omega (arith, low); off = λ b from below same. absurd (omega (arith, low, from, same)) }

  behind_clear : (a : ℕ) → 6145 ≤ a → a < 65536 → IsClear a
  behind_clear a far low = record { fram = low; off = λ b from below same. absurd (omega (arith, far, below, same)) }

  pub write_clear : (c : Core) (scheme : Scheme) (t : CoreTask) (m : ℕ → ℕ) (s : State) (w : CellWrite) → IsWellFormed c → Fits c scheme t m s w → IsClear (address_of c scheme s w)
  write_clear c scheme t m s (puts_home at w) well fit =
      let here = home_in c (λ k few. areas c k well few) (worked scheme s.bank) (worked_low scheme s.bank) at fit.0 in
      below_clear (address_in c (worked scheme s.bank) at) (omega (arith, here.below, worked_low scheme s.bank))
  write_clear c scheme t m s (puts_aside at w) well fit =
      let here = home_in c (λ k few. areas c k well few) (beside scheme s.bank) (beside_low scheme s.bank) at fit.0 in
      below_clear (address_in c (beside scheme s.bank) at) (omega (arith, here.below, beside_low scheme s.bank))
  write_clear c scheme t m s (puts_lock r e) well fit = behind_clear (address_of c scheme s (puts_lock r e)) (omega arith) (omega (arith, fit))
  write_clear c scheme t m s (puts_flag k e) well fit = behind_clear (address_of c scheme s (puts_flag k e)) (omega arith) (omega (arith, fit.0.few))
  write_clear c scheme t m s (puts_value k w) well fit = behind_clear (address_of c scheme s (puts_value k w)) (omega arith) (omega (arith, fit.0.few))
  write_clear c scheme t m s (puts_stamp k w) well fit = behind_clear (address_of c scheme s (puts_stamp k w)) (omega arith) (omega (arith, fit.0.few))
  write_clear c scheme t m s (puts_class k d) well fit = behind_clear (address_of c scheme s (puts_class k d)) (omega arith) (omega (arith, fit.0.few))
  write_clear c scheme t m s (puts_to k at) well fit = behind_clear (address_of c scheme s (puts_to k at)) (omega arith) (omega (arith, fit.0.few))
  write_clear c scheme t m s (puts_from k at) well fit = behind_clear (address_of c scheme s (puts_from k at)) (omega arith) (omega (arith, fit.0.few))
  write_clear c scheme t m s (puts_length k n) well fit = behind_clear (address_of c scheme s (puts_length k n)) (omega arith) (omega (arith, fit.0.few))
  write_clear c scheme t m s (puts_kept n w) well fit = behind_clear (address_of c scheme s (puts_kept n w)) (omega arith) (omega (arith, fit))
  write_clear c scheme t m s (puts_state e u b) well fit = absurd fit

  -- a home is in no array of another register
  home_apart : (c : Core) (register : ℕ) (p at : Place) → register ≢ 14 → base_at (layout_of c 0) p.array ≡ 14 → IsPlaceOf c register at → (at.array ≡ p.array) × (at.index ≡ p.index) → ⊥
  home_apart c register p at other home here same = other (sym here.counts ∙ ap (base_at (layout_of c 0)) same.0 ∙ home)

  -- what a write does to the store is nothing where no homes count
  record StaysBut (c : Core) (register : ℕ) (old new : Store) : Type 0 where
    rooms : (array : ℕ) → length (words_of new array) ≡ length (words_of old array)
    words : (at : Place) → IsPlaceOf c register at → word_at new at ≡ word_at old at
    pointers : new.pointers ≡ old.pointers

  all_stays : (c : Core) (register : ℕ) (store : Store) → StaysBut c register store store
  all_stays c register store = record { rooms = λ array. refl; words = λ at here. refl; pointers = refl }

  store_stays : (c : Core) (scheme : Scheme) (t : CoreTask) (m : ℕ → ℕ) (s : State) (w : CellWrite) (register : ℕ) → register ≢ 14 → Fits c scheme t m s w → StaysBut c register s.store (after_write c.arrays w s).store
  store_stays c scheme t m s (puts_home at w) register other fit = record {
    rooms = λ array. rooms_stay at w s.store array;
    words = λ q here. word_other at w s.store q (home_apart c register at q other (eqb-true (base_at (layout_of c 0) at.array) 14 fit.0.nonvolatile) here);
    pointers = refl;
  }
  store_stays c scheme t m s (puts_aside at w) register other fit = all_stays c register s.store
  store_stays c scheme t m s (puts_lock r e) register other fit = all_stays c register s.store
  store_stays c scheme t m s (puts_flag k e) register other fit = all_stays c register s.store
  store_stays c scheme t m s (puts_value k w) register other fit = all_stays c register s.store
  store_stays c scheme t m s (puts_stamp k w) register other fit = all_stays c register s.store
  store_stays c scheme t m s (puts_class k d) register other fit = all_stays c register s.store
  store_stays c scheme t m s (puts_to k at) register other fit = all_stays c register s.store
  store_stays c scheme t m s (puts_from k at) register other fit = all_stays c register s.store
  store_stays c scheme t m s (puts_length k n) register other fit = all_stays c register s.store
  store_stays c scheme t m s (puts_kept n w) register other fit = all_stays c register s.store
  store_stays c scheme t m s (puts_state e u b) register other fit = absurd fit

  -- a write changes neither the bank nor what lives between acts
  record IsSameRest (old new : State) : Type 0 where
    bank : new.bank ≡ old.bank
    frame : new.frame ≡ old.frame

  rest_stays : (c : Core) (scheme : Scheme) (t : CoreTask) (m : ℕ → ℕ) (s : State) (w : CellWrite) → Fits c scheme t m s w → IsSameRest s (after_write c.arrays w s)
  rest_stays c scheme t m s (puts_home at w) fit = record { bank = refl; frame = refl }
  rest_stays c scheme t m s (puts_aside at w) fit = record { bank = refl; frame = refl }
  rest_stays c scheme t m s (puts_lock r e) fit = record { bank = refl; frame = refl }
  rest_stays c scheme t m s (puts_flag k e) fit = record { bank = refl; frame = refl }
  rest_stays c scheme t m s (puts_value k w) fit = record { bank = refl; frame = refl }
  rest_stays c scheme t m s (puts_stamp k w) fit = record { bank = refl; frame = refl }
  rest_stays c scheme t m s (puts_class k d) fit = record { bank = refl; frame = refl }
  rest_stays c scheme t m s (puts_to k at) fit = record { bank = refl; frame = refl }
  rest_stays c scheme t m s (puts_from k at) fit = record { bank = refl; frame = refl }
  rest_stays c scheme t m s (puts_length k n) fit = record { bank = refl; frame = refl }
  rest_stays c scheme t m s (puts_kept n w) fit = record { bank = refl; frame = refl }
  rest_stays c scheme t m s (puts_state e u b) fit = absurd fit

  pub constants_left : (c : Core) (scheme : Scheme) (t : CoreTask) (m : ℕ → ℕ) (s : State) (w : CellWrite) → IsWellFormed c → Fits c scheme t m s w → HasConstants c m s.store
      → HasConstants c (put m (address_of c scheme s w) (word_of c scheme s w)) (after_write c.arrays w s).store
  constants_left c scheme t m s w well fit h =
      let clear : IsClear (address_of c scheme s w) = write_clear c scheme t m s w well fit in
      let same = store_stays c scheme t m s w 0 (λ e. absurd (omega (arith, e))) fit in
      arrays_stay c 0 m (put m (address_of c scheme s w) (word_of c scheme s w)) s.store (after_write c.arrays w s).store (λ array is. same.rooms array) same.words
      (λ at here. let lies = constant_in c at well here in miss m (address_of c scheme s w) (word_of c scheme s w) (address_in c 0 at) (clear.off (address_in c 0 at) lies.from lies.below)) h

  pub ram_left : (c : Core) (scheme : Scheme) (t : CoreTask) (m : ℕ → ℕ) (s : State) (w : CellWrite) → IsWellFormed c → Fits c scheme t m s w → RamStands c scheme m s
      → RamStands c scheme (put m (address_of c scheme s w) (word_of c scheme s w)) (after_write c.arrays w s)
  ram_left c scheme t m s w well fit h =
      let clear : IsClear (address_of c scheme s w) = write_clear c scheme t m s w well fit in
      let same = store_stays c scheme t m s w 15 (λ e. absurd (omega (arith, e))) fit in
      let rest = rest_stays c scheme t m s w fit in
      let n : ℕ → ℕ = put m (address_of c scheme s w) (word_of c scheme s w) in
      let stayed : HasRam c (worked scheme s.bank) n (after_write c.arrays w s).store s.frame =
      ram_stays c (worked scheme s.bank) m n s.store (after_write c.arrays w s).store s.frame well (λ array is. same.rooms array) same.words same.pointers
      (λ a from below. miss m (address_of c scheme s w) (word_of c scheme s w) a (λ e. absurd (omega (arith, clear.fram, from, e)))) h in
      subst (λ b. HasRam c (worked scheme b) n (after_write c.arrays w s).store (after_write c.arrays w s).frame) (sym rest.bank)
      (subst (λ f. HasRam c (worked scheme s.bank) n (after_write c.arrays w s).store f) (sym rest.frame) stayed)

  -- words before all cells
  pub ram_near : (c : Core) (bank : ℕ) (m n : ℕ → ℕ) (store : Store) (f : Frame) → IsWellFormed c → HasRam c bank m store f → ((a : ℕ) → 1048608 ≤ a → n a ≡ m a) → HasRam c bank n store f
  ram_near c bank m n store f well h same = ram_stays c bank m n store store f well (λ array is. refl) (λ at here. refl) refl (λ a from below. same a from) h
