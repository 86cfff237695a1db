-- A word that is noted between acts.
use Rattle.std.specs.Prelude.{Option, Some, ◌==◌}
use Rattle.std.proofs.Common.{◌≡◌, ◌≢◌, ◌∙◌, ℕ, ◌+◌, ◌^◌, ◌<◌, ◌≤◌, Bool, true, false, ◌⊎◌, inl, inr, refl, sym, ap, subst, arith, eqb-true, eq-eqb}
use Rattle.fram_ram.specs.Memories.{put}
use Rattle.task_attempts.specs.Changes as changes
use Rattle.task_ast.specs.declared.core_form.Core.{Core}
use Rattle.task_ast.specs.WellFormed.{IsWellFormed}
use Rattle.io_annot.specs.declared.choice.Mode.{Mode}
use Rattle.walk_run.specs.Store.{Store}
use Rattle.run_plan.specs.Cells.{Frame}
use Rattle.word_code.specs.Frames.{begun_at, outer_at}
use Rattle.act_laws.specs.Words.{mode_word}
use Rattle.layout_laws.specs.Layouts.{LieInAreas, layout_of}
use Rattle.cell_laws.specs.Standing.{IsSite, address_in}
use Rattle.cell_laws.proofs.Puts.{got, hit, left, miss}
use Rattle.ram_laws.specs.Notes.{Note, NoteFits, after_note, cell_of, noted_word, notes_mode, notes_time, notes_word, notes_outer, notes_begun}
use Rattle.ram_laws.specs.Ram.{HasFrame, HasRam, HasWord}
use Rattle.ram_laws.proofs.Stays.{AreSame, args_stay, arrays_stay, pointers_stay, target_stays, valued_stays, volatile_in, word_stays}

some_is : {A B : Type 0} (f : A → B) (x y : A) → Some x ≡ Some y → f x ≡ f y
some_is f x y same = cc same

-- words in front of a cell that is written, and behind it
front : (m : ℕ → ℕ) (cell w from below : ℕ) → below ≤ cell → AreSame m (put m cell w) from below
front m cell w from below far a start few = miss m cell w a (λ e. absurd (omega (arith, far, few, e)))

back : (m : ℕ → ℕ) (cell w from below : ℕ) → cell < from → AreSame m (put m cell w) from below
back m cell w from below far a start few = miss m cell w a (λ e. absurd (omega (arith, far, start, e)))

-- a word that was noted
pub word_noted : (m : ℕ → ℕ) (cell w : ℕ) → w < 2 ^ 32 → (x : ℕ) → Some w ≡ Some x → HasWord (put m cell w) cell x
word_noted m cell w fits x is = let same : w ≡ x = some_is (λ y. y) w x is in record { holds = hit m cell w ∙ same; fits = subst (λ y. y < 2 ^ 32) same fits }

-- another word
other_word : (m : ℕ → ℕ) (cell w a x : ℕ) → cell ≢ a → HasWord m a x → HasWord (put m cell w) a x
other_word m cell w a x apart h = word_stays m (put m cell w) a x (miss m cell w a apart) h

module _ (c : Core) (bank : ℕ) (m : ℕ → ℕ) (f : Frame) (h : HasFrame c bank m f) where
  -- the cells of blocks, where another cell than theirs is written
  outers : (n : ℕ → ℕ) → AreSame m n 1048640 1048768 → (k : ℕ) → IsSite k → (o : Mode) → f.outer k ≡ Some o → n (1048576 + outer_at k) ≡ mode_word o
  outers n same k here o is = same (1048576 + outer_at k) (omega (arith, here.from)) (omega (arith, here.few)) ∙ h.outer k here o is

  beginnings : (n : ℕ → ℕ) → AreSame m n 1048768 1048896 → (k : ℕ) → IsSite k → (t : ℕ) → f.begun k ≡ Some t → HasWord n (1048576 + begun_at k) t
  beginnings n same k here t is = word_stays m n (1048576 + begun_at k) t (same (1048576 + begun_at k) (omega (arith, here.from)) (omega (arith, here.few))) (h.begun k here t is)

  mode_put : (o : Mode) → HasFrame c bank (put m 1048615 (mode_word o)) (record f { mode = Some o })
  mode_put o = record {
    mode = λ x is. hit m 1048615 (mode_word o) ∙ some_is mode_word o x is;
    target = λ at is. target_stays c bank m (put m 1048615 (mode_word o)) at refl (h.target at is);
    args = λ words is. args_stay m (put m 1048615 (mode_word o)) words (front m 1048615 (mode_word o) 1048609 1048613 (omega arith)) (h.args words is);
    time = λ t is. word_stays m (put m 1048615 (mode_word o)) 1048613 t refl (h.time t is);
    word = λ w is. word_stays m (put m 1048615 (mode_word o)) 1048614 w refl (h.word w is);
    copy = λ v is. valued_stays c bank m (put m 1048615 (mode_word o)) v (back m 1048615 (mode_word o) 1048616 1048622 (omega arith)) (h.copy v is);
    outer = outers (put m 1048615 (mode_word o)) (back m 1048615 (mode_word o) 1048640 1048768 (omega arith));
    begun = beginnings (put m 1048615 (mode_word o)) (back m 1048615 (mode_word o) 1048768 1048896 (omega arith));
  }

  time_put : (t : ℕ) → t < 2 ^ 32 → HasFrame c bank (put m 1048613 t) (record f { time = Some t })
  time_put t fits = record {
    mode = λ o is. miss m 1048613 t 1048615 (λ e. absurd (omega (arith, e))) ∙ h.mode o is;
    target = λ at is. target_stays c bank m (put m 1048613 t) at refl (h.target at is);
    args = λ words is. args_stay m (put m 1048613 t) words (front m 1048613 t 1048609 1048613 (omega arith)) (h.args words is);
    time = λ x is. word_noted m 1048613 t fits x is;
    word = λ w is. word_stays m (put m 1048613 t) 1048614 w refl (h.word w is);
    copy = λ v is. valued_stays c bank m (put m 1048613 t) v (back m 1048613 t 1048616 1048622 (omega arith)) (h.copy v is);
    outer = outers (put m 1048613 t) (back m 1048613 t 1048640 1048768 (omega arith));
    begun = beginnings (put m 1048613 t) (back m 1048613 t 1048768 1048896 (omega arith));
  }

  word_put : (w : ℕ) → w < 2 ^ 32 → HasFrame c bank (put m 1048614 w) (record f { word = Some w })
  word_put w fits = record {
    mode = λ o is. miss m 1048614 w 1048615 (λ e. absurd (omega (arith, e))) ∙ h.mode o is;
    target = λ at is. target_stays c bank m (put m 1048614 w) at refl (h.target at is);
    args = λ words is. args_stay m (put m 1048614 w) words (front m 1048614 w 1048609 1048613 (omega arith)) (h.args words is);
    time = λ t is. word_stays m (put m 1048614 w) 1048613 t refl (h.time t is);
    word = λ x is. word_noted m 1048614 w fits x is;
    copy = λ v is. valued_stays c bank m (put m 1048614 w) v (back m 1048614 w 1048616 1048622 (omega arith)) (h.copy v is);
    outer = outers (put m 1048614 w) (back m 1048614 w 1048640 1048768 (omega arith));
    begun = beginnings (put m 1048614 w) (back m 1048614 w 1048768 1048896 (omega arith));
  }

  -- the mode around a block
  outer_there : (k : ℕ) (o : Mode) (j : ℕ) → IsSite j → (x : Mode) → changes.put k (Some o) f.outer j ≡ Some x → put m (1048576 + outer_at k) (mode_word o) (1048576 + outer_at j) ≡ mode_word x
  outer_there k o j here x is = by_test (k == j) refl
    where
      by_test : (b : Bool) → (k == j) ≡ b → put m (1048576 + outer_at k) (mode_word o) (1048576 + outer_at j) ≡ mode_word x
      by_test true same =
          let equal : k ≡ j = eqb-true k j same in
          ap (λ i. put m (1048576 + outer_at k) (mode_word o) (1048576 + outer_at i)) (sym equal) ∙ hit m (1048576 + outer_at k) (mode_word o)
          ∙ some_is mode_word o x (sym (got k (Some o) f.outer) ∙ ap (changes.put k (Some o) f.outer) equal ∙ is)
      by_test false same =
          let other : k ≢ j = λ e. absurd (cc (same, eq-eqb k j e)) in
          miss m (1048576 + outer_at k) (mode_word o) (1048576 + outer_at j) (λ e. other (omega (arith, e))) ∙ h.outer j here x (sym (left k (Some o) f.outer j other) ∙ is)

  outer_put : (k : ℕ) (o : Mode) → IsSite k → HasFrame c bank (put m (1048576 + outer_at k) (mode_word o)) (record f { outer = changes.put k (Some o) f.outer })
  outer_put k o one =
      let n : ℕ → ℕ = put m (1048576 + outer_at k) (mode_word o) in
      let low : AreSame m n 1048608 1048640 = front m (1048576 + outer_at k) (mode_word o) 1048608 1048640 (omega (arith, one.from)) in
      record {
        mode = λ x is. low 1048615 (omega arith) (omega arith) ∙ h.mode x is;
        target = λ at is. target_stays c bank m n at (low 1048608 (omega arith) (omega arith)) (h.target at is);
        args = λ words is. args_stay m n words (λ a from below. low a (omega (arith, from)) (omega (arith, below))) (h.args words is);
        time = λ t is. word_stays m n 1048613 t (low 1048613 (omega arith) (omega arith)) (h.time t is);
        word = λ w is. word_stays m n 1048614 w (low 1048614 (omega arith) (omega arith)) (h.word w is);
        copy = λ v is. valued_stays c bank m n v (λ a from below. low a (omega (arith, from)) (omega (arith, below))) (h.copy v is);
        outer = outer_there k o;
        begun = beginnings n (back m (1048576 + outer_at k) (mode_word o) 1048768 1048896 (omega (arith, one.few)));
      }

  -- the time of a block's beginning
  begun_there : (k t : ℕ) → t < 2 ^ 32 → (j : ℕ) → IsSite j → (x : ℕ) → changes.put k (Some t) f.begun j ≡ Some x → HasWord (put m (1048576 + begun_at k) t) (1048576 + begun_at j) x
  begun_there k t fits j here x is = by_test (k == j) refl
    where
      by_test : (b : Bool) → (k == j) ≡ b → HasWord (put m (1048576 + begun_at k) t) (1048576 + begun_at j) x
      by_test true same =
          let equal : k ≡ j = eqb-true k j same in
          subst (λ i. HasWord (put m (1048576 + begun_at k) t) (1048576 + begun_at i) x) equal
          (word_noted m (1048576 + begun_at k) t fits x (sym (got k (Some t) f.begun) ∙ ap (changes.put k (Some t) f.begun) equal ∙ is))
      by_test false same =
          let other : k ≢ j = λ e. absurd (cc (same, eq-eqb k j e)) in
          other_word m (1048576 + begun_at k) t (1048576 + begun_at j) x (λ e. other (omega (arith, e))) (h.begun j here x (sym (left k (Some t) f.begun j other) ∙ is))

  begun_put : (k t : ℕ) → IsSite k → t < 2 ^ 32 → HasFrame c bank (put m (1048576 + begun_at k) t) (record f { begun = changes.put k (Some t) f.begun })
  begun_put k t one fits =
      let n : ℕ → ℕ = put m (1048576 + begun_at k) t in
      let low : AreSame m n 1048608 1048768 = front m (1048576 + begun_at k) t 1048608 1048768 (omega (arith, one.from)) in
      record {
        mode = λ x is. low 1048615 (omega arith) (omega arith) ∙ h.mode x is;
        target = λ at is. target_stays c bank m n at (low 1048608 (omega arith) (omega arith)) (h.target at is);
        args = λ words is. args_stay m n words (λ a from below. low a (omega (arith, from)) (omega (arith, below))) (h.args words is);
        time = λ u is. word_stays m n 1048613 u (low 1048613 (omega arith) (omega arith)) (h.time u is);
        word = λ w is. word_stays m n 1048614 w (low 1048614 (omega arith) (omega arith)) (h.word w is);
        copy = λ v is. valued_stays c bank m n v (λ a from below. low a (omega (arith, from)) (omega (arith, below))) (h.copy v is);
        outer = outers n (λ a from below. low a (omega (arith, from)) below);
        begun = begun_there k t fits;
      }

pub frame_noted : (c : Core) (bank : ℕ) (m : ℕ → ℕ) (f : Frame) (note : Note) → HasFrame c bank m f → NoteFits note → HasFrame c bank (put m (cell_of note) (noted_word note)) (after_note note f)
frame_noted c bank m f (notes_mode o) h fit = mode_put c bank m f h o
frame_noted c bank m f (notes_time t) h fit = time_put c bank m f h t fit
frame_noted c bank m f (notes_word w) h fit = word_put c bank m f h w fit
frame_noted c bank m f (notes_outer k o) h fit = outer_put c bank m f h k o fit
frame_noted c bank m f (notes_begun k t) h fit = begun_put c bank m f h k t fit.0 fit.1

-- a note's cell lies before the pointers'
pub note_low : (note : Note) → NoteFits note → cell_of note < 1048896
note_low (notes_mode o) fit = omega arith
note_low (notes_time t) fit = omega arith
note_low (notes_word w) fit = omega arith
note_low (notes_outer k o) fit = omega (arith, fit.few)
note_low (notes_begun k t) fit = omega (arith, fit.0.few)

module _ (areas : (c : Core) (bank : ℕ) → IsWellFormed c → bank ≤ 2048 → LieInAreas (layout_of c bank)) where
  pub ram_noted : (c : Core) (bank : ℕ) (m : ℕ → ℕ) (store : Store) (f : Frame) (note : Note) → IsWellFormed c → HasRam c bank m store f → NoteFits note
      → HasRam c bank (put m (cell_of note) (noted_word note)) store (after_note note f)
  ram_noted c bank m store f note well h fit =
      let low : cell_of note < 1048896 = note_low note fit in
      let n : ℕ → ℕ = put m (cell_of note) (noted_word note) in
      record {
        volatile = arrays_stay c 15 m n store store (λ array is. refl) (λ at here. refl)
            (λ at here. let lies = volatile_in areas c at well here in miss m (cell_of note) (noted_word note) (address_in c 0 at) (λ e. absurd (omega (arith, low, lies.from, e)))) h.volatile;
        pointers = pointers_stay c bank m n store store refl (back m (cell_of note) (noted_word note) 1048896 1049408 low) h.pointers;
        frame = frame_noted c bank m f note h.frame fit;
      }
