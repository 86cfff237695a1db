-- What keeps a state open: each kind of write, and what changes at an act's end.
use Rattle.std.proofs.Common.{◌≡◌, ◌∙◌, ℕ, ◌+◌, ◌<◌, ◌≤◌, Bool, true, false, ◌==◌, cond, List, [], length, get_or, slice_get, slice_index_or, refl, sym, ap, subst, arith, eqb-true}
use Rattle.std.specs.Prelude.{Option, Some, None}
use Rattle.std.proofs.lemmas.Bool.{true≢false, eqb-false}
use Rattle.task_ast.specs.declared.core_form.CoreTask.{CoreTask}
use Rattle.task_ast.specs.declared.core_form.Core.{Core}
use Rattle.task_ast.specs.Pointing.{pointing}
use Rattle.io_depend.specs.Sets.{has}
use Rattle.region_split.specs.Regions.{writes_before, keeps_words, region_of, regions}
use Rattle.region_split.specs.Owners.{all_first}
use Rattle.walk_run.specs.declared.place.Place.{Place}
use Rattle.walk_run.specs.Store.{Store, word_at, put_word}
use Rattle.walk_run.specs.Laws.{HasItsConstants}
use Rattle.word_isa.specs.declared.parts.Scheme.{Scheme}
use Rattle.word_isa.specs.declared.parts.Scheme.TheVariants.{Undo, Bank}
use Rattle.task_attempts.specs.Changes.{put}
use Rattle.run_plan.specs.Cells.{CopyValued, joined}
use Rattle.run_plan.specs.Kinds.{IsCopy}
use Rattle.plan_restore.specs.Found.{is_saved, found_by}
use Rattle.plan_restore.proofs.Puts.{const_put, kept_not_const, joined_const, put_apart, put_shaped, joined_kept, joined_count}
use Rattle.plan_restore.proofs.Regions.{touched, owner, at_region, firsts_long}
use Rattle.plan_restore.proofs.Writing.{AllWithin}
use Rattle.plan_restore.proofs.Open.{IsOpen, IsStanding, MayBy, MayWrite, Stands, View, aside_word, held, saves_it, write_later}

-- a word of a store that has the array of another
word_of_array : (s u : Store) (at : Place) → get_or s.words at.array [] ≡ get_or u.words at.array [] → word_at s at ≡ word_at u at
word_of_array s u at same = ap (λ ws. get_or ws at.index 0) same

module _ (scheme : Scheme) (c : Core) (t : CoreTask) (number : ℕ) (firsts : List (List ℕ)) (e : Store) where
  abbrev Is : (m r : ℕ) → View → Type 0
  Is = IsOpen scheme c t number firsts e

  -- ---- words of homes

  -- an array that may be written is saved
  pub may_saved : firsts ≡ all_first c t → (m a : ℕ) (v : View) → keeps_words (slice_get c.arrays a) ≡ true → MayBy Undo c t m a → IsStanding scheme c t number firsts e m v → is_saved firsts (held v) (length firsts) a ≡ true
  may_saved split m a v kept may stands =
      let q = owner c t m a kept (may kept) in
      let long : length firsts ≡ regions t = ap length split ∙ firsts_long c t in
      let few = stands.few in
      let less = q.1 in
      let below : q.0 < regions t = omega (arith, few, less) in
      saves_it firsts (held v) (length firsts) q.0 a (omega (arith, below, long)) (stands.locked q.0 q.1)
      (ap (λ fs. has (slice_index_or fs q.0 []) a) split ∙ ap (λ xs. has xs a) (at_region c t q.0 below) ∙ q.2)

  home_finds : firsts ≡ all_first c t → (k : Scheme) (m : ℕ) (at : Place) (w : ℕ) (v : View) → keeps_words (slice_get c.arrays at.array) ≡ true → MayBy k c t m at.array → Stands scheme c t number firsts e k m v → (q : Place)
      → found_by k (is_saved firsts (held v) (length firsts) q.array) (aside_word v q) (word_at v.store q) ≡ word_at e q
      → found_by k (is_saved firsts (held v) (length firsts) q.array) (aside_word v q) (word_at (put_word at w v.store) q) ≡ word_at e q
  home_finds split Bank m at w v kept may stands q found = found
  home_finds split Undo m at w v kept may stands q found = by_test (q.array == at.array) refl
    where
      by_test : (b : Bool) → (q.array == at.array) ≡ b → cond (is_saved firsts (held v) (length firsts) q.array) (aside_word v q) (word_at (put_word at w v.store) q) ≡ word_at e q
      by_test true is =
          let saved : is_saved firsts (held v) (length firsts) q.array ≡ true = subst (λ a. is_saved firsts (held v) (length firsts) a ≡ true) (sym (eqb-true q.array at.array is)) (may_saved split m at.array v kept may stands) in
          ap (λ b. cond b (aside_word v q) (word_at (put_word at w v.store) q)) saved ∙ sym (ap (λ b. cond b (aside_word v q) (word_at v.store q)) saved) ∙ found
      by_test false is = ap (λ x. cond (is_saved firsts (held v) (length firsts) q.array) (aside_word v q) x) (put_apart at q w v.store (eqb-false q.array at.array is)) ∙ found

  home_stands : (k : Scheme) (m : ℕ) (at : Place) (w : ℕ) (v : View) → keeps_words (slice_get c.arrays at.array) ≡ true → MayBy k c t m at.array → Stands scheme c t number firsts e k m v
      → Stands scheme c t number firsts e k m (record v { store = put_word at w v.store })
  home_stands Bank m at w v kept may stands = tt
  home_stands Undo m at w v kept may stands = record {
    whole = λ q home new. put_apart at q w v.store (λ same. true≢false (sym (may kept) ∙ ap (writes_before (touched t) m) (sym same) ∙ new)) ∙ stands.whole q home new;
    locked = stands.locked;
    few = stands.few;
  }

  -- a home that may be written is
  pub home_open : firsts ≡ all_first c t → (m r : ℕ) (at : Place) (w : ℕ) (v : View) → keeps_words (slice_get c.arrays at.array) ≡ true → MayBy scheme c t m at.array → Is m r v → Is m r (record v { store = put_word at w v.store })
  home_open split m r at w v kept may h = record {
    task = h.task;
    entry = h.entry;
    entry_constants = h.entry_constants;
    constants = const_put c at w v.store (kept_not_const c at.array kept) h.constants;
    shaped = put_shaped c at w v.store.words h.shaped;
    shaped_aside = h.shaped_aside;
    numbered = record { started = h.numbered.started; locks = h.numbered.locks; flags = h.numbered.flags };
    finds = λ q home. home_finds split scheme m at w v kept may h.stands q (h.finds q home);
    stands = home_stands scheme m at w v kept may h.stands;
    records = h.records;
    pointers = h.pointers;
    target = h.target;
    copy = h.copy;
  }

  -- ---- another store with the same homes

  same_finds : (k : Scheme) (saved : Bool) (aside : ℕ) (old new found : ℕ) → new ≡ old → found_by k saved aside old ≡ found → found_by k saved aside new ≡ found
  same_finds k saved aside old new found same h = ap (found_by k saved aside) same ∙ h

  same_stands : (k : Scheme) (m : ℕ) (v : View) (s : Store) → ((a : ℕ) → keeps_words (slice_get c.arrays a) ≡ true → get_or s.words a [] ≡ get_or v.store.words a []) → Stands scheme c t number firsts e k m v
      → Stands scheme c t number firsts e k m (record v { store = s })
  same_stands Bank m v s same stands = tt
  same_stands Undo m v s same stands = record {
    whole = λ q home new. word_of_array s v.store q (same q.array home.kept) ∙ stands.whole q home new;
    locked = stands.locked;
    few = stands.few;
  }

  pub same_open : (m r : ℕ) (v : View) (s : Store) → ((a : ℕ) → keeps_words (slice_get c.arrays a) ≡ true → get_or s.words a [] ≡ get_or v.store.words a []) → HasItsConstants c s → length s.words ≡ length c.arrays → AllWithin (pointing t) s
      → Is m r v → Is m r (record v { store = s })
  same_open m r v s same consts count within h = record {
    task = h.task;
    entry = h.entry;
    entry_constants = h.entry_constants;
    constants = consts;
    shaped = record { count = count; rooms = λ a kept. ap length (same a kept) ∙ h.shaped.rooms a kept };
    shaped_aside = h.shaped_aside;
    numbered = record { started = h.numbered.started; locks = h.numbered.locks; flags = h.numbered.flags };
    finds = λ q home. same_finds scheme _ _ (word_at v.store q) (word_at s q) (word_at e q) (word_of_array s v.store q (same q.array home.kept)) (h.finds q home);
    stands = same_stands scheme m v s same h.stands;
    records = h.records;
    pointers = within;
    target = h.target;
    copy = h.copy;
  }

  -- what is volatile is that of another store
  pub volatile_open : (m r : ℕ) (v : View) (s : Store) → HasItsConstants c s → length s.words ≡ length c.arrays → AllWithin (pointing t) s → Is m r v → Is m r (record v { store = record { words = joined c.arrays v.store.words s.words; pointers = s.pointers } })
  volatile_open m r v s consts count within h =
      same_open m r v (record { words = joined c.arrays v.store.words s.words; pointers = s.pointers }) (λ a kept. joined_kept c.arrays v.store.words s.words a h.shaped.count count kept) (λ n a is const. joined_const c.arrays v.store.words s.words n a h.shaped.count count is const ∙ consts n a is const)
      (joined_count c.arrays v.store.words s.words h.shaped.count count) within h

  -- ---- cells of records

  chosen_few : (b : Bool) (x y n : ℕ) → x ≤ n → y ≤ n → cond b x y ≤ n
  chosen_few true x y n one two = one
  chosen_few false x y n one two = two

  -- a flag is written
  pub flag_open : (m r k f : ℕ) (v : View) → f ≤ v.epoch → (IsCopy t k → (f == v.epoch) ≡ true → (at : Place) → v.to k ≡ Some at → MayWrite scheme c t (region_of t k + 1) at.array) → Is m r v → Is m r (record v { flag = put k f v.flag })
  flag_open m r k f v few fine h = record {
    task = h.task;
    entry = h.entry;
    entry_constants = h.entry_constants;
    constants = h.constants;
    shaped = h.shaped;
    shaped_aside = h.shaped_aside;
    numbered = record { started = h.numbered.started; locks = h.numbered.locks; flags = λ j. chosen_few (k == j) f (v.flag j) v.epoch few (h.numbered.flags j) };
    finds = h.finds;
    stands = by_scheme scheme h.stands;
    records = λ i at copy holds to. at_site i at copy holds to (k == i) refl;
    pointers = h.pointers;
    target = h.target;
    copy = h.copy;
  }
    where
      by_scheme : (q : Scheme) → Stands scheme c t number firsts e q m v → Stands scheme c t number firsts e q m (record v { flag = put k f v.flag })
      by_scheme Undo stands = record { whole = stands.whole; locked = stands.locked; few = stands.few }
      by_scheme Bank stands = tt

      at_site : (i : ℕ) (at : Place) → IsCopy t i → (cond (k == i) f (v.flag i) == v.epoch) ≡ true → v.to i ≡ Some at → (b : Bool) → (k == i) ≡ b → MayWrite scheme c t (region_of t i + 1) at.array
      at_site i at copy holds to true same =
          let e : k ≡ i = eqb-true k i same in
          subst (λ j. MayWrite scheme c t (region_of t j + 1) at.array) e
          (fine (subst (IsCopy t) (sym e) copy) (sym (ap (λ x. cond x f (v.flag i) == v.epoch) same) ∙ holds) at (ap v.to e ∙ to))
      at_site i at copy holds to false same = h.records i at copy (sym (ap (λ x. cond x f (v.flag i) == v.epoch) same) ∙ holds) to

  -- a recorded destination is written
  pub to_open : (m r k : ℕ) (to : Place) (v : View) → MayWrite scheme c t (region_of t k + 1) to.array → Is m r v → Is m r (record v { to = put k (Some to) v.to })
  to_open m r k to v may h = record {
    task = h.task;
    entry = h.entry;
    entry_constants = h.entry_constants;
    constants = h.constants;
    shaped = h.shaped;
    shaped_aside = h.shaped_aside;
    numbered = record { started = h.numbered.started; locks = h.numbered.locks; flags = h.numbered.flags };
    finds = h.finds;
    stands = by_scheme scheme h.stands;
    records = λ i at copy holds is. at_site i at copy holds is (k == i) refl;
    pointers = h.pointers;
    target = h.target;
    copy = h.copy;
  }
    where
      by_scheme : (q : Scheme) → Stands scheme c t number firsts e q m v → Stands scheme c t number firsts e q m (record v { to = put k (Some to) v.to })
      by_scheme Undo stands = record { whole = stands.whole; locked = stands.locked; few = stands.few }
      by_scheme Bank stands = tt

      place_is : (x y : Place) → Some x ≡ Some y → x ≡ y
      place_is x y is = ap (λ o. out o) is
        where
          out : Option Place → Place
          out None = x
          out (Some p) = p

      at_site : (i : ℕ) (at : Place) → IsCopy t i → (v.flag i == v.epoch) ≡ true → cond (k == i) (Some to) (v.to i) ≡ Some at → (b : Bool) → (k == i) ≡ b → MayWrite scheme c t (region_of t i + 1) at.array
      at_site i at copy holds is true same =
          let e : k ≡ i = eqb-true k i same in
          let to_is : to ≡ at = place_is to at (sym (ap (λ x. cond x (Some to) (v.to i)) same) ∙ is) in
          subst (λ j. MayWrite scheme c t (region_of t j + 1) at.array) e (subst (λ x. MayWrite scheme c t (region_of t k + 1) x.array) to_is may)
      at_site i at copy holds is false same = h.records i at copy holds (sym (ap (λ x. cond x (Some to) (v.to i)) same) ∙ is)

  -- ---- what lives between acts

  pub frame_open : (m r : ℕ) (target : Option (Option Place)) (copy : Option CopyValued) (v : View) → ((at : Place) → target ≡ Some (Some at) → MayWrite scheme c t r at.array) → ((u : CopyValued) → copy ≡ Some u → MayWrite scheme c t r u.to.array)
      → Is m r v → Is m r (record v { target = target; copy = copy })
  frame_open m r target copy v may_target may_copy h = record {
    task = h.task;
    entry = h.entry;
    entry_constants = h.entry_constants;
    constants = h.constants;
    shaped = h.shaped;
    shaped_aside = h.shaped_aside;
    numbered = record { started = h.numbered.started; locks = h.numbered.locks; flags = h.numbered.flags };
    finds = h.finds;
    stands = by_scheme scheme h.stands;
    records = h.records;
    pointers = h.pointers;
    target = may_target;
    copy = may_copy;
  }
    where
      by_scheme : (q : Scheme) → Stands scheme c t number firsts e q m v → Stands scheme c t number firsts e q m (record v { target = target; copy = copy })
      by_scheme Undo stands = record { whole = stands.whole; locked = stands.locked; few = stands.few }
      by_scheme Bank stands = tt

  -- what was valued may be written later too
  pub reach_more : (m r n : ℕ) (v : View) → Is m r v → Is m (r + n) v
  reach_more m r n v h = record {
    task = h.task;
    entry = h.entry;
    entry_constants = h.entry_constants;
    constants = h.constants;
    shaped = h.shaped;
    shaped_aside = h.shaped_aside;
    numbered = h.numbered;
    finds = h.finds;
    stands = h.stands;
    records = h.records;
    pointers = h.pointers;
    target = λ at is. write_later scheme c t r n at.array (h.target at is);
    copy = λ u is. write_later scheme c t r n u.to.array (h.copy u is);
  }
