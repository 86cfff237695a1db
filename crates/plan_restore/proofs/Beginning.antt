-- An attempt begins: under `undo` in homes that are as they were committed, under `bank` it makes them so.
use Rattle.std.proofs.Common.{◌≡◌, ◌∙◌, ℕ, zero, suc, ◌<◌, true, List, [], ◌∷◌, length, map, filter, get_or, slice_get, refl, sym, ap, subst, arith}
use Rattle.std.specs.Prelude.{Some, None}
use Rattle.std.specs.List.{AllByRecursion, range_with_len}
use Rattle.task_ast.specs.declared.tree.Kind.TheVariants.{Const, Vol}
use Rattle.task_ast.specs.declared.core_form.Array.{Array}
use Rattle.task_ast.specs.declared.core_form.CoreTask.{CoreTask}
use Rattle.task_ast.specs.declared.core_form.Core.{Core}
use Rattle.io_depend.specs.Sets.{has}
use Rattle.io_depend.specs.RangeLaws.{has_filter}
use Rattle.region_split.specs.Regions.{keeps_words}
use Rattle.walk_run.specs.declared.place.Place.{Place}
use Rattle.walk_run.specs.Store.{Store, IsInside, word_at, put_word, unset, fresh}
use Rattle.devices.specs.Journal.{begins}
use Rattle.word_isa.specs.declared.parts.Scheme.{Scheme}
use Rattle.word_isa.specs.declared.parts.Scheme.TheVariants.{Undo, Bank}
use Rattle.task_attempts.specs.Boots.{task_of}
use Rattle.run_plan.specs.declared.act.Act.{Act}
use Rattle.run_plan.specs.declared.act.Act.TheVariants as act
use Rattle.run_plan.specs.Cells.{State, puts_home, after_write, aside_at}
use Rattle.run_plan.specs.Small.{Doing, ahead, does, silent, showing, lock_holds}
use Rattle.run_plan.specs.Words.{home_places, restore_writes}
use Rattle.run_plan.specs.Deeds.{begin_writes, begun_state}
use Rattle.run_plan.specs.Runs.{Onward, Planned, at_task, doing, act_run, straight}
use Rattle.plan_restore.specs.Found.{IsHome, is_saved, found_by}
use Rattle.plan_restore.proofs.Puts.{const_put, kept_not_const, fresh_alike, begun_same, alike_by, HaveSameWords, arrays_same, put_shaped, fresh_kept, fresh_count}
use Rattle.plan_restore.proofs.Placing.{put_all, into_homes, all_come}
use Rattle.plan_restore.proofs.Regions.{passes, places_all, all_places}
use Rattle.plan_restore.proofs.Steps.{Keeps, Holds, DoneGoes, silent_quiet, shown_quiet, all_go, act_fine, atoms_done}
use Rattle.plan_restore.proofs.Open.{view, IsSafe, Stands, Open}
use Rattle.plan_restore.proofs.Committing.{IsReady}

-- pointers at nothing point nowhere
nowhere : {A : Type 0} (names : List A) (q : ℕ) (at : Place) → get_or (unset names) q None ≡ Some at → ⊥
nowhere [] q at is = cc
nowhere (n ∷ names) zero at is = cc
nowhere (n ∷ names) (suc q) at is = nowhere names q at is

-- a nonvolatile array is among those of the homes
in_range : (arrays : List Array) (a : ℕ) → keeps_words (slice_get arrays a) ≡ true → a < length arrays
in_range [] a kept = absurd (cc kept)
in_range (x ∷ arrays) zero kept = omega arith
in_range (x ∷ arrays) (suc a) kept = let less = in_range arrays a kept in omega (arith, less)

home_array : (c : Core) (a : ℕ) → keeps_words (slice_get c.arrays a) ≡ true → has (filter (λ x. keeps_words (slice_get c.arrays x)) (range_with_len 0 (length c.arrays))) a ≡ true
home_array c a kept = has_filter (λ x. keeps_words (slice_get c.arrays x)) a 0 (length c.arrays) (omega arith) (let less = in_range c.arrays a kept in omega (arith, less)) ∙ kept

module _ (p : Planned) (t : CoreTask) (number : ℕ) (e : Store) (there : task_of p.rules.core number ≡ Some t) where
  abbrev c : Core
  c = p.rules.core

  abbrev d : Doing
  d = doing p number t

  abbrev firsts : List (List ℕ)
  firsts = at_task p.plan.firsts number []

  abbrev Safe : Store → State → Type 0
  Safe = IsSafe p

  abbrev Now : (m r : ℕ) → State → Type 0
  Now m r s = Open p.plan.scheme c t number firsts e m r s

  -- the next attempt is of this task
  abbrev pub Due : State → Type 0
  Due s = IsReady p e s × (s.task ≡ number)

  -- what a boot finds, by the running task
  finds_now : (s : State) → s.task ≡ number → IsSafe p e s → (at : Place) → IsHome c at → found_by p.plan.scheme (is_saved firsts (lock_holds s) (length firsts) at.array) (aside_at s at) (word_at s.store at) ≡ word_at e at
  finds_now s is safe at home = subst (λ n. found_by p.plan.scheme (is_saved (at_task p.plan.firsts n []) (lock_holds s) (length (at_task p.plan.firsts n [])) at.array) (aside_at s at) (word_at s.store at) ≡ word_at e at) is (safe.finds at home)

  -- from homes that are as they were committed
  begun_open : (k : Scheme) → p.plan.scheme ≡ k → (s : State) → s.task ≡ number → IsSafe p e s → HaveSameWords c s.store e → Now 0 1 (begun_state c s)
  begun_open k is s task safe whole = record {
    task = task;
    entry = safe.entry;
    entry_constants = safe.entry_constants;
    constants = λ n a is const. fresh_alike c.arrays s.store.words n a is (λ vol. let clash : Const ≡ Vol = sym const ∙ vol in cc clash) ∙ safe.constants n a is const;
    shaped = record { count = fresh_count c.arrays s.store.words ∙ safe.shaped.count; rooms = λ a kept. ap length (fresh_kept c.arrays s.store.words a kept) ∙ safe.shaped.rooms a kept };
    shaped_aside = safe.shaped_aside;
    numbered = record { started = safe.numbered.started; locks = safe.numbered.locks; flags = safe.numbered.flags };
    finds = λ at home. ap (found_by p.plan.scheme (is_saved firsts (lock_holds s) (length firsts) at.array) (aside_at s at)) (fresh_word at home) ∙ finds_now s task safe at home;
    stands = by_scheme p.plan.scheme;
    records = safe.records t (ap (task_of c) task ∙ there);
    pointers = λ q at points. absurd (nowhere c.pointers q at points);
    target = λ at none. absurd (cc none);
    copy = λ u none. absurd (cc none);
  }
    where
      fresh_word : (at : Place) → IsHome c at → word_at (fresh c s.store) at ≡ word_at s.store at
      fresh_word at home = ap (λ ws. get_or ws at.index 0) (fresh_kept c.arrays s.store.words at.array home.kept)

      by_scheme : (k : Scheme) → Stands p.plan.scheme c t number firsts e k 0 (view (begun_state c s))
      by_scheme Undo = record { whole = λ at home new. fresh_word at home ∙ whole at home; locked = λ q low. absurd (omega (arith, low)); few = omega arith }
      by_scheme Bank = tt

  begun_whole : (s : State) → IsSafe p e s → HaveSameWords c s.store e → (begun_state c s).store ≡ fresh c e
  begun_whole s safe whole = λ i. record {
    words = begun_same c.arrays s.store.words e.words safe.shaped.count safe.entry.count (alike_by c s.store e (arrays_same c s.store e safe.shaped safe.entry whole) safe.constants safe.entry_constants) i;
    pointers = unset c.pointers;
  }

  -- under `bank`: one home is brought level
  leveled : p.plan.scheme ≡ Bank → (at : Place) (w : ℕ) → keeps_words (slice_get c.arrays at.array) ≡ true → (s : State) → (IsSafe p e s × (s.task ≡ number)) → (IsSafe p e (after_write c.arrays (puts_home at w) s) × (s.task ≡ number))
  leveled bank at w kept s h = (
    record {
      entry = h.0.entry;
      entry_constants = h.0.entry_constants;
      constants = const_put c at w s.store (kept_not_const c at.array kept) h.0.constants;
      shaped = put_shaped c at w s.store.words h.0.shaped;
      shaped_aside = h.0.shaped_aside;
      numbered = record { started = h.0.numbered.started; locks = h.0.numbered.locks; flags = h.0.numbered.flags };
      finds = λ q home.
          let firsts = at_task p.plan.firsts s.task [] in
          let saved = is_saved firsts (lock_holds s) (length firsts) q.array in
          let bare : (x y : ℕ) → found_by p.plan.scheme saved (aside_at s q) x ≡ found_by p.plan.scheme saved (aside_at s q) y = (λ x y. subst (λ k. found_by k saved (aside_at s q) x ≡ found_by k saved (aside_at s q) y) (sym bank) refl) in
          bare (word_at (put_word at w s.store) q) (word_at s.store q) ∙ h.0.finds q home;
      records = h.0.records;
    },
    h.1,
  )

  begin_goes : (a : Act) → (k : Scheme) → p.plan.scheme ≡ k → (s : State) → Due s → DoneGoes p Safe d a e (λ s. IsSafe p e s × (s.task ≡ number)) (λ w. Now 0 1) (does (showing (begins number) ∷ map silent (begin_writes k c s)) (begun_state c) ahead) s
  begin_goes a Undo is s h =
      let whole = h.0.whole is in
      ((shown_quiet p Safe a (begins number) tt, (h.0.safe, h.1), tt), begun_open Undo is s h.1 h.0.safe whole, λ b. begun_whole s h.0.safe whole)
  begin_goes a Bank is s h =
      let I : State → Type 0 = (λ s. IsSafe p e s × (s.task ≡ number)) in
      let atoms = put_all puts_home (aside_at s) (home_places c) in
      let go = all_go p Safe d a I atoms (lists_kept (home_places c) kept_places) s (h.0.safe, h.1) in
      let came = all_come d puts_home (λ s'. s'.store) (into_homes d) (aside_at s) (home_places c) s inside in
      let end = atoms_done d atoms s in
      let whole : HaveSameWords c end.store e = (λ at home. all_places c _ (filter (λ x. keeps_words (slice_get c.arrays x)) (range_with_len 0 (length c.arrays))) came at (home_array c at.array home.kept) home.inside
      ∙ (subst (λ k. found_by k (is_saved firsts (lock_holds s) (length firsts) at.array) (aside_at s at) (word_at s.store at) ≡ word_at e at) is (finds_now s h.1 h.0.safe at home))) in
      ((shown_quiet p Safe a (begins number) tt, (h.0.safe, h.1), go.0), begun_open Bank is end go.1.1 go.1.0 whole, λ b. begun_whole end go.1.0 whole)
    where
      kept_places : AllByRecursion (λ at. keeps_words (slice_get c.arrays at.array) ≡ true) (home_places c)
      kept_places = places_all c _ (filter (λ x. keeps_words (slice_get c.arrays x)) (range_with_len 0 (length c.arrays))) (λ at is low. passes (λ x. keeps_words (slice_get c.arrays x)) (range_with_len 0 (length c.arrays)) at.array is)

      lists_kept : (places : List Place) → AllByRecursion (λ at. keeps_words (slice_get c.arrays at.array) ≡ true) places → AllByRecursion (Keeps p Safe d a (λ s. IsSafe p e s × (s.task ≡ number))) (map silent (restore_writes s places))
      lists_kept [] all = tt
      lists_kept (at ∷ places) all = ((silent_quiet p Safe a (puts_home at (aside_at s at)) (λ b aside. aside), λ s' h'. leveled is at (aside_at s at) all.0 s' h'), lists_kept places all.1)

      inside : AllByRecursion (IsInside s.store) (home_places c)
      inside = places_all c _ (filter (λ x. keeps_words (slice_get c.arrays x)) (range_with_len 0 (length c.arrays))) (λ at is low. subst (λ n. at.index < n) (sym (h.0.safe.shaped.rooms at.array (passes (λ x. keeps_words (slice_get c.arrays x)) (range_with_len 0 (length c.arrays)) at.array is))) low)

  pub begin_holds : (again : Onward) (go : Onward) → Holds p Safe e (Now 0 1) go → (safe_open : (s : State) → Now 0 1 s → Safe e s) → Holds p Safe e Due (act_run d again (act.Begin number) go)
  begin_holds again go behind safe_open =
      act_fine p Safe d (act.Begin number) e Due (λ s. IsSafe p e s × (s.task ≡ number)) (λ w. Now 0 1) (λ s h. h.0) (λ w. safe_open) (λ s h. begin_goes (act.Begin number) p.plan.scheme refl s h) (straight go) (λ w. behind)
