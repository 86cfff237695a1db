-- What a boot restores, cut anywhere: from a safe state to one with all homes as they were committed.
use Rattle.std.proofs.Common.{◌≡◌, ◌∙◌, ◌⊎◌, inl, inr, ℕ, zero, suc, ◌+◌, ◌<◌, ◌≤◌, Bool, true, false, ◌==◌, cond, List, [], ◌∷◌, length, map, slice_get, slice_index_or, nat_lt, refl, sym, ap, subst, arith, eqb-true}
use Rattle.std.specs.Prelude.{Some}
use Rattle.std.specs.List.{AllByRecursion, range_with_len}
use Rattle.std.proofs.lemmas.Bool.{true≢false, eqb-false, cases_lt, ltb-true, lt-ltb}
use Rattle.task_ast.specs.declared.core_form.CoreTask.{CoreTask}
use Rattle.task_ast.specs.declared.core_form.Core.{Core}
use Rattle.io_depend.specs.Sets.{has}
use Rattle.region_split.specs.Regions.{keeps_words, regions}
use Rattle.region_split.specs.Owners.{all_first}
use Rattle.walk_run.specs.declared.place.Place.{Place}
use Rattle.walk_run.specs.Store.{Store, IsInside, word_at, put_word}
use Rattle.word_isa.specs.declared.parts.Scheme.TheVariants.{Undo}
use Rattle.task_attempts.specs.Boots.{task_of}
use Rattle.run_plan.specs.declared.act.Act.{Act}
use Rattle.run_plan.specs.declared.act.Act.TheVariants as act
use Rattle.run_plan.specs.Cells.{State, puts_home, after_write, aside_at}
use Rattle.run_plan.specs.Small.{Doing, Atom, silent, same, silently, ending, lock_holds, after_atom}
use Rattle.run_plan.specs.Words.{first_places, restore_writes}
use Rattle.run_plan.specs.Runs.{Onward, Planned, at_task, doing, if_there, act_run, acts_run, act_steps, straight}
use Rattle.plan_restore.specs.Found.{IsHome, is_saved, found_by}
use Rattle.plan_restore.specs.Kept.{EndsBegin}
use Rattle.plan_restore.proofs.Puts.{const_put, kept_not_const, put_apart, put_shaped, put_stays}
use Rattle.plan_restore.proofs.Placing.{put_all, into_homes, all_come}
use Rattle.plan_restore.proofs.Regions.{is_first, at_region, no_region, firsts_long, places_all, all_places}
use Rattle.plan_restore.proofs.Steps.{Keeps, Holds, AtomsGo, DoneGoes, silent_quiet, all_go, act_fine, atoms_done}
use Rattle.plan_restore.proofs.Open.{IsSafe, saver, saves_it}

module _ (p : Planned) (t : CoreTask) (number : ℕ) (e : Store) (undo : p.plan.scheme ≡ Undo) (there : task_of p.rules.core number ≡ Some t) (split : at_task p.plan.firsts number [] ≡ all_first p.rules.core t) where
  abbrev c : Core
  c = p.rules.core

  abbrev d : Doing
  d = doing p number t

  abbrev firsts : List (List ℕ)
  firsts = at_task p.plan.firsts number []

  abbrev Safe : Store → State → Type 0
  Safe = IsSafe p

  -- safe, and the homes of these many regions are as they were committed
  pub record IsRestoring (m : ℕ) (s : State) : Type 0 where
    pub task : s.task ≡ number
    pub safe : IsSafe p e s
    pub restored : (q : ℕ) (at : Place) → q < m → IsHome c at → has (slice_index_or firsts q []) at.array ≡ true → lock_holds s q ≡ true → word_at s.store at ≡ word_at e at

  long : length firsts ≡ regions t
  long = ap length split ∙ firsts_long c t

  -- what a boot finds, by the running task
  finds_now : (s : State) → s.task ≡ number → IsSafe p e s → (at : Place) → IsHome c at → cond (is_saved firsts (lock_holds s) (length firsts) at.array) (aside_at s at) (word_at s.store at) ≡ word_at e at
  finds_now s is safe at home =
      subst (λ k. found_by k (is_saved firsts (lock_holds s) (length firsts) at.array) (aside_at s at) (word_at s.store at) ≡ word_at e at) undo
      (subst (λ n. found_by p.plan.scheme (is_saved (at_task p.plan.firsts n []) (lock_holds s) (length (at_task p.plan.firsts n [])) at.array) (aside_at s at) (word_at s.store at) ≡ word_at e at) is (safe.finds at home))

  kept_array : (q a : ℕ) → q < regions t → has (slice_index_or firsts q []) a ≡ true → keeps_words (slice_get c.arrays a) ≡ true
  kept_array q a less is = (is_first c t q a (sym (ap (λ fs. has (slice_index_or fs q []) a) split ∙ ap (λ xs. has xs a) (at_region c t q less)) ∙ is)).kept

  -- one home of a region whose lock holds gets its committed word
  home_back : (m r : ℕ) (at : Place) (w : ℕ) (s : State) → r < regions t → lock_holds s r ≡ true → has (slice_index_or firsts r []) at.array ≡ true → w ≡ word_at e at → IsRestoring m s → IsRestoring m (after_write c.arrays (puts_home at w) s)
  home_back m r at w s less lock is committed h = record {
    task = h.task;
    safe = record {
      entry = h.safe.entry;
      entry_constants = h.safe.entry_constants;
      constants = const_put c at w s.store (kept_not_const c at.array (kept_array r at.array less is)) h.safe.constants;
      shaped = put_shaped c at w s.store.words h.safe.shaped;
      shaped_aside = h.safe.shaped_aside;
      numbered = record { started = h.safe.numbered.started; locks = h.safe.numbered.locks; flags = h.safe.numbered.flags };
      finds = λ q home. subst (λ n. found_by p.plan.scheme (is_saved (at_task p.plan.firsts n []) (lock_holds s) (length (at_task p.plan.firsts n [])) q.array) (aside_at s q) (word_at (put_word at w s.store) q) ≡ word_at e q) (sym h.task)
          (subst (λ k. found_by k (is_saved firsts (lock_holds s) (length firsts) q.array) (aside_at s q) (word_at (put_word at w s.store) q) ≡ word_at e q) (sym undo) (by_test q home (q.array == at.array) refl));
      records = h.safe.records;
    };
    restored = λ q x low home first lock'. subst (λ v. word_at (put_word at v s.store) x ≡ word_at e x) (sym committed) (put_stays (word_at e) at x s.store (h.restored q x low home first lock'));
  }
    where
      by_test : (q : Place) → IsHome c q → (b : Bool) → (q.array == at.array) ≡ b → cond (is_saved firsts (lock_holds s) (length firsts) q.array) (aside_at s q) (word_at (put_word at w s.store) q) ≡ word_at e q
      by_test q home true same =
          let saved : is_saved firsts (lock_holds s) (length firsts) q.array ≡ true = subst (λ a. is_saved firsts (lock_holds s) (length firsts) a ≡ true) (sym (eqb-true q.array at.array same)) (saves_it firsts (lock_holds s) (length firsts) r at.array (omega (arith, less, long)) lock is) in
          ap (λ b. cond b (aside_at s q) (word_at (put_word at w s.store) q)) saved ∙ sym (ap (λ b. cond b (aside_at s q) (word_at s.store q)) saved) ∙ finds_now s h.task h.safe q home
      by_test q home false apart =
          ap (λ x. cond (is_saved firsts (lock_holds s) (length firsts) q.array) (aside_at s q) x) (put_apart at q w s.store (eqb-false q.array at.array apart)) ∙ finds_now s h.task h.safe q home

  -- the copies of a region whose lock holds are the committed words
  copies_are : (m r : ℕ) (s : State) → r < regions t → lock_holds s r ≡ true → IsRestoring m s → (at : Place) → IsHome c at → has (slice_index_or firsts r []) at.array ≡ true → aside_at s at ≡ word_at e at
  copies_are m r s less lock h at home is =
      sym (ap (λ b. cond b (aside_at s at) (word_at s.store at)) (saves_it firsts (lock_holds s) (length firsts) r at.array (omega (arith, less, long)) lock is)) ∙ finds_now s h.task h.safe at home

  abbrev Other : Act → Type 0
  Other a = EndsBegin a ending → ⊥

  restore_goes : (a : Act) → Other a → (r : ℕ) → r < regions t → (s : State) → IsRestoring r s
      → DoneGoes p Safe d a e (IsRestoring r) (λ w. IsRestoring (r + 1)) (silently (restore_writes s (cond (lock_holds s r) (first_places d r) []))) s
  restore_goes a other r less s h = by_lock (lock_holds s r) refl
    where
      Locked : State → Type 0
      Locked s' = IsRestoring r s' × (lock_holds s' r ≡ true)

      more_by : (s' : State) → IsRestoring r s' → ((at : Place) → IsHome c at → has (slice_index_or firsts r []) at.array ≡ true → lock_holds s' r ≡ true → word_at s'.store at ≡ word_at e at) → IsRestoring (r + 1) s'
      more_by s' h' last = record {
        task = h'.task;
        safe = h'.safe;
        restored = λ q at low home is lock. by_order q at home is lock low (cases_lt q r);
      }
        where
          by_order : (q : ℕ) (at : Place) → IsHome c at → has (slice_index_or firsts q []) at.array ≡ true → lock_holds s' q ≡ true → q < r + 1 → (q < r) ⊎ (r ≤ q) → word_at s'.store at ≡ word_at e at
          by_order q at home is lock low (inl l) = h'.restored q at l home is lock
          by_order q at home is lock low (inr l) =
              let same : q ≡ r = omega (arith, low, l) in
              last at home (subst (λ k. has (slice_index_or firsts k []) at.array ≡ true) same is) (subst (λ k. lock_holds s' k ≡ true) same lock)

      by_lock : (b : Bool) → lock_holds s r ≡ b → DoneGoes p Safe d a e (IsRestoring r) (λ w. IsRestoring (r + 1)) (silently (restore_writes s (cond b (first_places d r) []))) s
      by_lock false lock = (tt, more_by s h (λ at home is holds. absurd (true≢false (sym holds ∙ lock))), λ b. absurd (other b))
      by_lock true lock =
          let atoms = put_all puts_home (aside_at s) (first_places d r) in
          let go = all_go p Safe d a Locked atoms (lists_kept (first_places d r) each_kept) s (h, lock) in
          let came = all_come d puts_home (λ s'. s'.store) (into_homes d) (aside_at s) (first_places d r) s inside in
          let end = atoms_done d atoms s in (
            weaken atoms s go.0,
            more_by end go.1.0 (λ at home is holds. all_places c _ (slice_index_or firsts r []) came at is home.inside ∙ copies_are r r s less lock h at home is),
            λ b. absurd (other b),
          )
        where
          each_kept : AllByRecursion (λ at. Keeps p Safe d a Locked (silent (puts_home at (aside_at s at)))) (first_places d r)
          each_kept = places_all c _ (slice_index_or firsts r []) (λ at is low. (
            silent_quiet p Safe a (puts_home at (aside_at s at)) (λ bank aside. aside),
            λ s' locked. (home_back r r at (aside_at s at) s' less locked.1 is (copies_are r r s less lock h at (record { kept = kept_array r at.array less is; inside = low }) is) locked.0, locked.1),
          ))

          lists_kept : (places : List Place) → AllByRecursion (λ at. Keeps p Safe d a Locked (silent (puts_home at (aside_at s at)))) places → AllByRecursion (Keeps p Safe d a Locked) (map silent (restore_writes s places))
          lists_kept [] all = tt
          lists_kept (at ∷ places) all = (all.0, lists_kept places all.1)

          inside : AllByRecursion (IsInside s.store) (first_places d r)
          inside = places_all c _ (slice_index_or firsts r []) (λ at is low. subst (λ n. at.index < n) (sym (h.safe.shaped.rooms at.array (kept_array r at.array less is))) low)

          weaken : (atoms : List Atom) (s' : State) → AtomsGo p Safe d a Locked atoms s' → AtomsGo p Safe d a (IsRestoring r) atoms s'
          weaken [] s' go = tt
          weaken (x ∷ atoms) s' go = (go.0, go.1.0, weaken atoms (after_atom c x s') go.2)

  -- one region, where the task has it
  restore_holds : (again : Onward) (r : ℕ) (go : Onward) → Holds p Safe e (IsRestoring (r + 1)) go → Holds p Safe e (IsRestoring r) (act_run d again (act.Restore r) go)
  restore_holds again r go behind = by_there (nat_lt r (regions t)) refl
    where
      absent : regions t ≤ r → (s : State) → IsRestoring r s → IsRestoring (r + 1) s
      absent more s h = record { task = h.task; safe = h.safe; restored = λ q at low home is lock. by_order q at home is lock low (cases_lt q r) }
        where
          by_order : (q : ℕ) (at : Place) → IsHome c at → has (slice_index_or firsts q []) at.array ≡ true → lock_holds s q ≡ true → q < r + 1 → (q < r) ⊎ (r ≤ q) → word_at s.store at ≡ word_at e at
          by_order q at home is lock low (inl l) = h.restored q at l home is lock
          by_order q at home is lock low (inr l) =
              let none : slice_index_or firsts q [] ≡ [] = ap (λ fs. slice_index_or fs q []) split ∙ no_region c t q (omega (arith, more, l)) in
              absurd (true≢false (sym is ∙ ap (λ xs. has xs at.array) none))

      by_there : (b : Bool) → nat_lt r (regions t) ≡ b → Holds p Safe e (IsRestoring r) (if_there b (act_steps d (act.Restore r) (straight go)) go)
      by_there true is =
          act_fine p Safe d (act.Restore r) e (IsRestoring r) (IsRestoring r) (λ w. IsRestoring (r + 1)) (λ s h. h.safe) (λ w s h. h.safe) (λ s h. restore_goes (act.Restore r) (λ b. b) r (ltb-true r (regions t) is) s h) (straight go) (λ w. behind)
      by_there false is = λ at h. behind at (absent (not_less (cases_lt r (regions t))) at.state h)
        where
          not_less : (r < regions t) ⊎ (regions t ≤ r) → regions t ≤ r
          not_less (inl l) = absurd (true≢false (sym (lt-ltb r (regions t) l) ∙ is))
          not_less (inr l) = l

  -- regions from one on
  pub restores_hold : (again : Onward) (m n : ℕ) (go : Onward) → Holds p Safe e (IsRestoring (m + n)) go → Holds p Safe e (IsRestoring m) (acts_run d again (map act.Restore (range_with_len m n)) go)
  restores_hold again m zero go behind = subst (λ k. Holds p Safe e (IsRestoring k) go) (let e0 : m + 0 ≡ m = omega arith in e0) behind
  restores_hold again m (suc n) go behind =
      restore_holds again m (acts_run d again (map act.Restore (range_with_len (m + 1) n)) go)
      (restores_hold again (m + 1) n go (subst (λ k. Holds p Safe e (IsRestoring k) go) (let e0 : m + suc n ≡ m + 1 + n = omega arith in e0) behind))

  -- behind all of them the homes are as they were committed
  pub all_restored : (m : ℕ) (s : State) → regions t ≤ m → IsRestoring m s → (at : Place) → IsHome c at → word_at s.store at ≡ word_at e at
  all_restored m s many h at home = by_saved (is_saved firsts (lock_holds s) (length firsts) at.array) refl
    where
      by_saved : (b : Bool) → is_saved firsts (lock_holds s) (length firsts) at.array ≡ b → word_at s.store at ≡ word_at e at
      by_saved true is = let x = saver firsts (lock_holds s) (length firsts) at.array is in let l = x.there in h.restored x.region at (omega (arith, l, long, many)) home x.is_first x.lock
      by_saved false is = sym (ap (λ b. cond b (aside_at s at) (word_at s.store at)) is) ∙ finds_now s h.task h.safe at home
