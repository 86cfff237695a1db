-- What a call was valued at is noted: the address of its target, and its arguments.
use Rattle.std.specs.Prelude.{Option, Some, None}
use Rattle.std.proofs.Common.{◌≡◌, ◌≢◌, ◌∙◌, ℕ, ◌+◌, ◌<◌, ◌≤◌, List, [], ◌∷◌, length, refl, sym, ap, subst, arith}
use Rattle.fram_ram.specs.Memories.{put}
use Rattle.task_ast.specs.declared.core_form.Core.{Core}
use Rattle.task_ast.specs.WellFormed.{IsWellFormed}
use Rattle.walk_run.specs.declared.place.Place.{Place}
use Rattle.walk_run.specs.Store.{Store}
use Rattle.run_plan.specs.Cells.{Frame}
use Rattle.word_code.specs.Frames.{begun_at, outer_at}
use Rattle.act_laws.specs.Values.{with_arguments}
use Rattle.line_laws.specs.Relation.{base_at, room_at}
use Rattle.layout_laws.specs.Layouts.{LieInAreas, layout_of}
use Rattle.cell_laws.specs.Standing.{address_in}
use Rattle.cell_laws.proofs.Puts.{hit, miss}
use Rattle.ram_laws.specs.Ram.{HasArguments, HasFrame, HasPointers, HasRam, HasTarget, HasWords}
use Rattle.ram_laws.proofs.Stays.{AreSame, args_stay, arrays_stay, pointers_stay, target_stays, valued_stays, volatile_in, word_stays}

some_is : {A B : Type 0} (f : A → B) (x y : A) → Some x ≡ Some y → f x ≡ f y
some_is f x y same = cc same

-- ---- arguments in their cells

before_them : (words : List ℕ) (cell : ℕ) (m : ℕ → ℕ) (a : ℕ) → a < 1048576 + cell → with_arguments words cell m a ≡ m a
before_them [] cell m a low = refl
before_them (word ∷ words) cell m a low =
    before_them words (cell + 1) (put m (1048576 + cell) word) a (omega (arith, low)) ∙ miss m (1048576 + cell) word a (λ e. absurd (omega (arith, low, e)))

pub behind_them : (words : List ℕ) (cell : ℕ) (m : ℕ → ℕ) (a : ℕ) → 1048576 + cell + length words ≤ a → with_arguments words cell m a ≡ m a
behind_them [] cell m a far = refl
behind_them (word ∷ words) cell m a far =
    behind_them words (cell + 1) (put m (1048576 + cell) word) a (omega (arith, far)) ∙ miss m (1048576 + cell) word a (λ e. absurd (omega (arith, far, e)))

them : (words : List ℕ) (cell at : ℕ) (m : ℕ → ℕ) → at ≡ 1048576 + cell → HasWords words at (with_arguments words cell m)
them [] cell at m is = tt
them (word ∷ words) cell at m is = (
  ap (with_arguments words (cell + 1) (put m (1048576 + cell) word)) is ∙ before_them words (cell + 1) (put m (1048576 + cell) word) (1048576 + cell) (omega arith) ∙ hit m (1048576 + cell) word,
  them words (cell + 1) (at + 1) (put m (1048576 + cell) word) (omega (arith, is)),
)

-- cells of FRAM, and those elsewhere in RAM
pub fram_stays : (words : List ℕ) (m : ℕ → ℕ) (a : ℕ) → a < 65536 → with_arguments words 33 m a ≡ m a
fram_stays words m a low = before_them words 33 m a (omega (arith, low))

far_stays : (words : List ℕ) (m : ℕ → ℕ) (from below : ℕ) → length words ≤ 4 → 1048613 ≤ from → AreSame m (with_arguments words 33 m) from below
far_stays words m from below few far a start end = behind_them words 33 m a (omega (arith, few, far, start))

frame_argued : (c : Core) (bank : ℕ) (m : ℕ → ℕ) (f : Frame) (words : List ℕ) → length words ≤ 4 → HasFrame c bank m f → HasFrame c bank (with_arguments words 33 m) (record f { args = Some words })
frame_argued c bank m f words few h =
    let n : ℕ → ℕ = with_arguments words 33 m in
    let far : (from below : ℕ) → 1048613 ≤ from → AreSame m n from below = λ from below start. far_stays words m from below few start in
    record {
      mode = λ o is. far 1048615 1048616 (omega arith) 1048615 (omega arith) (omega arith) ∙ h.mode o is;
      target = λ at is. target_stays c bank m n at (before_them words 33 m 1048608 (omega arith)) (h.target at is);
      args = λ others is. subst (λ ws. HasArguments n ws) (some_is (λ (ws : List ℕ). ws) words others is) (record { few = few; holds = them words 33 1048609 m refl });
      time = λ t is. word_stays m n 1048613 t (far 1048613 1048614 (omega arith) 1048613 (omega arith) (omega arith)) (h.time t is);
      word = λ w is. word_stays m n 1048614 w (far 1048614 1048615 (omega arith) 1048614 (omega arith) (omega arith)) (h.word w is);
      copy = λ v is. valued_stays c bank m n v (far 1048616 1048622 (omega arith)) (h.copy v is);
      outer = λ k here o is. far 1048640 1048768 (omega arith) (1048576 + outer_at k) (omega (arith, here.from)) (omega (arith, here.few)) ∙ h.outer k here o is;
      begun = λ k here t is. word_stays m n (1048576 + begun_at k) t (far 1048768 1048896 (omega arith) (1048576 + begun_at k) (omega (arith, here.from)) (omega (arith, here.few))) (h.begun k here t is);
    }

-- ---- a target

target_far : (m : ℕ → ℕ) (w from below : ℕ) → 1048609 ≤ from → AreSame m (put m 1048608 w) from below
target_far m w from below far a start end = miss m 1048608 w a (λ e. absurd (omega (arith, far, start, e)))

frame_aimed : (c : Core) (bank : ℕ) (m : ℕ → ℕ) (f : Frame) (at : Place) → at.index < room_at (layout_of c bank) at.array → base_at (layout_of c bank) at.array ≢ 0 → HasFrame c bank m f
    → HasFrame c bank (put m 1048608 (address_in c bank at)) (record f { target = Some (Some at) })
frame_aimed c bank m f at inside written h =
    let n : ℕ → ℕ = put m 1048608 (address_in c bank at) in
    let far : (from below : ℕ) → 1048609 ≤ from → AreSame m n from below = target_far m (address_in c bank at) in
    record {
      mode = λ o is. far 1048615 1048616 (omega arith) 1048615 (omega arith) (omega arith) ∙ h.mode o is;
      target = λ other is. subst (HasTarget c bank n) (some_is (λ (q : Place). q) at other (some_is (λ (o : Option Place). o) (Some at) (Some other) is)) (record { holds = hit m 1048608 (address_in c bank at); inside = inside; written = written });
      args = λ words is. args_stay m n words (far 1048609 1048613 (omega arith)) (h.args words is);
      time = λ t is. word_stays m n 1048613 t (far 1048613 1048614 (omega arith) 1048613 (omega arith) (omega arith)) (h.time t is);
      word = λ w is. word_stays m n 1048614 w (far 1048614 1048615 (omega arith) 1048614 (omega arith) (omega arith)) (h.word w is);
      copy = λ v is. valued_stays c bank m n v (far 1048616 1048622 (omega arith)) (h.copy v is);
      outer = λ k here o is. far 1048640 1048768 (omega arith) (1048576 + outer_at k) (omega (arith, here.from)) (omega (arith, here.few)) ∙ h.outer k here o is;
      begun = λ k here t is. word_stays m n (1048576 + begun_at k) t (far 1048768 1048896 (omega arith) (1048576 + begun_at k) (omega (arith, here.from)) (omega (arith, here.few))) (h.begun k here t is);
    }

aimless : (n : Option Place) (at : Place) → n ≡ None → Some n ≡ Some (Some at) → ⊥
aimless n at one two = let same : n ≡ Some at = some_is (λ (o : Option Place). o) n (Some at) two in absurd (cc (one, same))

pub frame_aimless : (c : Core) (bank : ℕ) (m : ℕ → ℕ) (f : Frame) → HasFrame c bank m f → HasFrame c bank m (record f { target = Some None })
frame_aimless c bank m f h = record {
  mode = h.mode;
  target = λ at is. absurd (aimless None at refl is);
  args = h.args;
  time = h.time;
  word = h.word;
  copy = h.copy;
  outer = h.outer;
  begun = h.begun;
}

-- ---- all of RAM

module _ (areas : (c : Core) (bank : ℕ) → IsWellFormed c → bank ≤ 2048 → LieInAreas (layout_of c bank)) where
  -- where only cells between acts are written, arrays and pointers stay
  ram_with : (c : Core) (bank : ℕ) (m n : ℕ → ℕ) (store : Store) (f g : Frame) → IsWellFormed c → AreSame m n 1048896 1051456 → HasFrame c bank n g → HasRam c bank m store f → HasRam c bank n store g
  ram_with c bank m n store f g well same frame h = record {
    volatile = arrays_stay c 15 m n store store (λ array is. refl) (λ at here. refl) (λ at here. let lies = volatile_in areas c at well here in same (address_in c 0 at) (omega (arith, lies.from)) lies.below) h.volatile;
    pointers = pointers_stay c bank m n store store refl (λ a from below. same a from (omega (arith, below))) h.pointers;
    frame = frame;
  }

  pub ram_argued : (c : Core) (bank : ℕ) (m : ℕ → ℕ) (store : Store) (f : Frame) (words : List ℕ) → IsWellFormed c → HasRam c bank m store f → length words ≤ 4 → HasRam c bank (with_arguments words 33 m) store (record f { args = Some words })
  ram_argued c bank m store f words well h few =
      ram_with c bank m (with_arguments words 33 m) store f (record f { args = Some words }) well (far_stays words m 1048896 1051456 few (omega arith)) (frame_argued c bank m f words few h.frame) h

  pub ram_aimed : (c : Core) (bank : ℕ) (m : ℕ → ℕ) (store : Store) (f : Frame) (at : Place) → IsWellFormed c → HasRam c bank m store f → at.index < room_at (layout_of c bank) at.array → base_at (layout_of c bank) at.array ≢ 0
      → HasRam c bank (put m 1048608 (address_in c bank at)) store (record f { target = Some (Some at) })
  ram_aimed c bank m store f at well h inside written =
      ram_with c bank m (put m 1048608 (address_in c bank at)) store f (record f { target = Some (Some at) }) well (target_far m (address_in c bank at) 1048896 1051456 (omega arith)) (frame_aimed c bank m f at inside written h.frame) h
