-- Saving and locking a region under `undo`: cut anywhere the state is open, and behind the lock with one region more.
use Rattle.std.proofs.Common.{◌≡◌, ◌∙◌, ◌⊎◌, inl, inr, ℕ, ◌+◌, ◌<◌, ◌≤◌, Bool, true, false, ◌==◌, cond, List, [], ◌∷◌, length, map, slice_index_or, refl, sym, ap, subst, arith, eqb-true}
use Rattle.std.specs.List.{AllByRecursion}
use Rattle.std.proofs.lemmas.Bool.{true≢false, eqb-false, cases_lt}
use Rattle.task_ast.specs.declared.core_form.CoreTask.{CoreTask}
use Rattle.task_ast.specs.declared.core_form.Core.{Core}
use Rattle.io_depend.specs.Sets.{has}
use Rattle.region_split.specs.Regions.{writes_before, first, regions}
use Rattle.region_split.specs.Owners.{all_first}
use Rattle.walk_run.specs.declared.place.Place.{Place}
use Rattle.walk_run.specs.Store.{Store, IsInside, word_at, with_word}
use Rattle.word_isa.specs.declared.parts.Scheme.TheVariants.{Undo, Bank}
use Rattle.task_attempts.specs.Changes.{put}
use Rattle.run_plan.specs.declared.act.Act.{Act}
use Rattle.run_plan.specs.Cells.{State, puts_aside, puts_lock}
use Rattle.run_plan.specs.Small.{Doing, Atom, silent, silently, one, ending, lock_holds, after_atom}
use Rattle.run_plan.specs.Words.{first_places, save_writes}
use Rattle.run_plan.specs.Runs.{Planned, at_task, doing}
use Rattle.plan_restore.specs.Found.{IsHome, is_saved}
use Rattle.plan_restore.specs.Kept.{EndsBegin}
use Rattle.plan_restore.proofs.Lists.{is_itself}
use Rattle.plan_restore.proofs.Puts.{put_apart, put_shaped, as_store}
use Rattle.plan_restore.proofs.Placing.{put_all, into_aside, all_come}
use Rattle.plan_restore.proofs.Regions.{touched, is_first, one_region, at_region, firsts_long, still_before, places_all, all_places}
use Rattle.plan_restore.proofs.Steps.{IsQuiet, Keeps, AtomsGo, DoneGoes, silent_quiet, all_go, atoms_done}
use Rattle.plan_restore.proofs.Open.{View, view, aside_word, held, IsSafe, IsOpen, Open, saver, saves_it}

-- ---- under `undo`

module _ (c : Core) (t : CoreTask) (number : ℕ) (firsts : List (List ℕ)) (e : Store) (split : firsts ≡ all_first c t) where
  abbrev Is : (m r : ℕ) → View → Type 0
  Is = IsOpen Undo c t number firsts e

  -- the arrays that a region writes first, by the list
  by_region : (q a : ℕ) → q < regions t → has (slice_index_or firsts q []) a ≡ true → has (first c t q) a ≡ true
  by_region q a less there = sym (ap (λ fs. has (slice_index_or fs q []) a) split ∙ ap (λ xs. has xs a) (at_region c t q less)) ∙ there

  long : length firsts ≡ regions t
  long = ap length split ∙ firsts_long c t

  -- an array of a region that isn't locked isn't saved
  unsaved : (r a : ℕ) (v : View) → r < regions t → held v r ≡ false → has (slice_index_or firsts r []) a ≡ true → is_saved firsts (held v) (length firsts) a ≡ false
  unsaved r a v less free there = by_test (is_saved firsts (held v) (length firsts) a) refl
    where
      by_test : (b : Bool) → is_saved firsts (held v) (length firsts) a ≡ b → b ≡ false
      by_test false is = refl
      by_test true is =
          let s = saver firsts (held v) (length firsts) a is in
          let below : s.region < regions t = (let l = s.there in omega (arith, l, long)) in
          let e : s.region ≡ r = one_region c t s.region r a (by_region s.region a below s.is_first) (by_region r a less there) in
          absurd (true≢false (sym s.lock ∙ ap (held v) e ∙ free))

  -- a word of such an array is put aside
  pub aside_open : (m r : ℕ) (at : Place) (w : ℕ) (v : View) → m < regions t → held v m ≡ false → has (slice_index_or firsts m []) at.array ≡ true → Is m r v → Is m r (record v { aside = with_word at w v.aside })
  aside_open m r at w v less free there h = record {
    task = h.task;
    entry = h.entry;
    entry_constants = h.entry_constants;
    constants = h.constants;
    shaped = h.shaped;
    shaped_aside = put_shaped c at w v.aside h.shaped_aside;
    numbered = record { started = h.numbered.started; locks = h.numbered.locks; flags = h.numbered.flags };
    finds = λ q home. by_test q home (q.array == at.array) refl;
    stands = record { whole = h.stands.whole; locked = h.stands.locked; few = h.stands.few };
    records = h.records;
    pointers = h.pointers;
    target = h.target;
    copy = h.copy;
  }
    where
      by_test : (q : Place) → IsHome c q → (b : Bool) → (q.array == at.array) ≡ b
          → cond (is_saved firsts (held v) (length firsts) q.array) (word_at (as_store (with_word at w v.aside)) q) (word_at v.store q) ≡ word_at e q
      by_test q home true is =
          let none : is_saved firsts (held v) (length firsts) q.array ≡ false = unsaved m q.array v less free (subst (λ a. has (slice_index_or firsts m []) a ≡ true) (sym (eqb-true q.array at.array is)) there) in
          ap (λ b. cond b (word_at (as_store (with_word at w v.aside)) q) (word_at v.store q)) none ∙ sym (ap (λ b. cond b (aside_word v q) (word_at v.store q)) none) ∙ h.finds q home
      by_test q home false is = ap (λ x. cond (is_saved firsts (held v) (length firsts) q.array) x (word_at v.store q)) (put_apart at q w (as_store v.aside) (eqb-false q.array at.array is)) ∙ h.finds q home

  -- the copies of a region are the committed words
  abbrev pub HasCopies : (r : ℕ) → View → Type 0
  HasCopies r v = (at : Place) → IsHome c at → has (slice_index_or firsts r []) at.array ≡ true → aside_word v at ≡ word_at e at

  -- where its lock holds they are
  pub locked_copies : (m r : ℕ) (v : View) → m < regions t → held v m ≡ true → Is m r v → HasCopies m v
  locked_copies m r v less lock h at home there =
      sym (ap (λ b. cond b (aside_word v at) (word_at v.store at)) (saves_it firsts (held v) (length firsts) m at.array (omega (arith, less, long)) lock there)) ∙ h.finds at home

  -- and where they were copied from the homes
  pub saved_copies : (m r : ℕ) (v u : View) → m < regions t → Is m r v → ((at : Place) → IsHome c at → has (slice_index_or firsts m []) at.array ≡ true → aside_word u at ≡ word_at v.store at) → HasCopies m u
  saved_copies m r v u less h came at home there = came at home there ∙ h.stands.whole at home (is_first c t m at.array (by_region m at.array less there)).new

  -- a region whose copies are the committed words is locked
  pub lock_open : (m r : ℕ) (v : View) → m < regions t → HasCopies m v → Is m r v → Is (m + 1) r (record v { lock = put m v.epoch v.lock })
  lock_open m r v less copies h = record {
    task = h.task;
    entry = h.entry;
    entry_constants = h.entry_constants;
    constants = h.constants;
    shaped = h.shaped;
    shaped_aside = h.shaped_aside;
    numbered = record { started = h.numbered.started; locks = λ q. few (m == q) q; flags = h.numbered.flags };
    finds = λ at home. by_saved at home (is_saved firsts locks (length firsts) at.array) refl;
    stands = record {
      whole = λ at home new. h.stands.whole at home (before at.array new);
      locked = λ q low. now_locked q low (m == q) refl;
      few = omega (arith, less);
    };
    records = h.records;
    pointers = h.pointers;
    target = h.target;
    copy = h.copy;
  }
    where
      locks : ℕ → Bool
      locks q = put m v.epoch v.lock q == v.epoch

      few : (b : Bool) (q : ℕ) → cond b v.epoch (v.lock q) ≤ v.epoch
      few true q = omega arith
      few false q = h.numbered.locks q

      before : (a : ℕ) → writes_before (touched t) (m + 1) a ≡ false → writes_before (touched t) m a ≡ false
      before a new = by_test (writes_before (touched t) m a) refl
        where
          by_test : (b : Bool) → writes_before (touched t) m a ≡ b → b ≡ false
          by_test false is = refl
          by_test true is = absurd (true≢false (sym (still_before (touched t) m 1 a is) ∙ new))

      -- a lock that holds now was set, or held before
      lock_was : (q : ℕ) → locks q ≡ true → (b : Bool) → (m == q) ≡ b → (q ≡ m) ⊎ (held v q ≡ true)
      lock_was q holds true is = inl (sym (eqb-true m q is))
      lock_was q holds false is = inr (sym (ap (λ b. cond b v.epoch (v.lock q) == v.epoch) is) ∙ holds)

      lock_is : (q : ℕ) → held v q ≡ true → (b : Bool) → (m == q) ≡ b → locks q ≡ true
      lock_is q holds true is = ap (λ b. cond b v.epoch (v.lock q) == v.epoch) is ∙ is_itself v.epoch
      lock_is q holds false is = ap (λ b. cond b v.epoch (v.lock q) == v.epoch) is ∙ holds

      now_locked : (q : ℕ) → q < m + 1 → (b : Bool) → (m == q) ≡ b → locks q ≡ true
      now_locked q low true is = ap (λ b. cond b v.epoch (v.lock q) == v.epoch) is ∙ is_itself v.epoch
      now_locked q low false is =
          let apart : m ≡ q → ⊥ = eqb-false m q is in
          ap (λ b. cond b v.epoch (v.lock q) == v.epoch) is ∙ h.stands.locked q (below (cases_lt q m) apart)
        where
          below : (q < m) ⊎ (m ≤ q) → (m ≡ q → ⊥) → q < m
          below (inl l) apart = l
          below (inr l) apart = let e : m ≡ q = omega (arith, l, low) in absurd (apart e)

      was_aside : (at : Place) → IsHome c at → (q : ℕ) → has (slice_index_or firsts q []) at.array ≡ true → q < length firsts → (q ≡ m) ⊎ (held v q ≡ true) → aside_word v at ≡ word_at e at
      was_aside at home q there low (inl e) = copies at home (subst (λ k. has (slice_index_or firsts k []) at.array ≡ true) e there)
      was_aside at home q there low (inr lock) = sym (ap (λ b. cond b (aside_word v at) (word_at v.store at)) (saves_it firsts (held v) (length firsts) q at.array low lock there)) ∙ h.finds at home

      was_free : (at : Place) → is_saved firsts locks (length firsts) at.array ≡ false → (b : Bool) → is_saved firsts (held v) (length firsts) at.array ≡ b → b ≡ false
      was_free at free false is = refl
      was_free at free true is =
          let s = saver firsts (held v) (length firsts) at.array is in
          absurd (true≢false (sym (saves_it firsts locks (length firsts) s.region at.array s.there (lock_is s.region s.lock (m == s.region) refl) s.is_first) ∙ free))

      by_saved : (at : Place) → IsHome c at → (b : Bool) → is_saved firsts locks (length firsts) at.array ≡ b → cond (is_saved firsts locks (length firsts) at.array) (aside_word v at) (word_at v.store at) ≡ word_at e at
      by_saved at home true is =
          let s = saver firsts locks (length firsts) at.array is in
          ap (λ b. cond b (aside_word v at) (word_at v.store at)) is ∙ was_aside at home s.region s.is_first s.there (lock_was s.region s.lock (m == s.region) refl)
      by_saved at home false is =
          let free = was_free at is (is_saved firsts (held v) (length firsts) at.array) refl in
          ap (λ b. cond b (aside_word v at) (word_at v.store at)) is ∙ sym (ap (λ b. cond b (aside_word v at) (word_at v.store at)) free) ∙ h.finds at home

-- ---- the acts

module _ (p : Planned) (t : CoreTask) (number : ℕ) (e : Store) (split : at_task p.plan.firsts number [] ≡ all_first p.rules.core t) where
  abbrev c : Core
  c = p.rules.core

  abbrev d : Doing
  d = doing p number t

  abbrev firsts : List (List ℕ)
  firsts = at_task p.plan.firsts number []

  abbrev Safe : Store → State → Type 0
  Safe = IsSafe p

  abbrev Now : (m r : ℕ) → State → Type 0
  Now m r s = Open Undo c t number firsts e m r s

  -- saved, and not locked yet
  abbrev pub Saved : (m r : ℕ) → State → Type 0
  Saved m r s = Now m r s × HasCopies c t number firsts e split m (view s)

  abbrev Other : Act → Type 0
  Other a = EndsBegin a ending → ⊥

  pub save_goes : (a : Act) → Other a → p.plan.scheme ≡ Undo → (m r : ℕ) → m < regions t → (s : State) → Now m r s
      → DoneGoes p Safe d a e (Now m r) (λ w. Saved m r) (silently (save_writes s (cond (lock_holds s m) [] (first_places d m)))) s
  save_goes a other undo m r less s h = by_lock (lock_holds s m) refl
    where
      Free : State → Type 0
      Free s' = Now m r s' × (lock_holds s' m ≡ false)

      put_quiet : (at : Place) (w : ℕ) → IsQuiet p Safe a (silent (puts_aside at w))
      put_quiet at w = silent_quiet p Safe a (puts_aside at w) (λ bank aside. let clash : Undo ≡ Bank = sym undo ∙ bank in cc clash)

      each_kept : AllByRecursion (λ at. Keeps p Safe d a Free (silent (puts_aside at (word_at s.store at)))) (first_places d m)
      each_kept = places_all c _ (slice_index_or firsts m []) (λ at there inside.
          (put_quiet at (word_at s.store at), λ s' free. (aside_open c t number firsts e split m r at (word_at s.store at) (view s') less free.1 there free.0, free.1)))

      lists_kept : (places : List Place) → AllByRecursion (λ at. Keeps p Safe d a Free (silent (puts_aside at (word_at s.store at)))) places → AllByRecursion (Keeps p Safe d a Free) (map silent (save_writes s places))
      lists_kept [] all = tt
      lists_kept (at ∷ places) all = (all.0, lists_kept places all.1)

      inside : AllByRecursion (IsInside (as_store s.aside)) (first_places d m)
      inside = places_all c _ (slice_index_or firsts m []) (λ at there low. subst (λ n. at.index < n) (sym (h.shaped_aside.rooms at.array (is_first c t m at.array (by_region c t number firsts e split m at.array less there)).kept)) low)

      weaken : (atoms : List Atom) (s' : State) → AtomsGo p Safe d a Free atoms s' → AtomsGo p Safe d a (Now m r) atoms s'
      weaken [] s' go = tt
      weaken (x ∷ atoms) s' go = (go.0, go.1.0, weaken atoms (after_atom c x s') go.2)

      by_lock : (b : Bool) → lock_holds s m ≡ b → DoneGoes p Safe d a e (Now m r) (λ w. Saved m r) (silently (save_writes s (cond b [] (first_places d m)))) s
      by_lock true lock = (tt, (h, locked_copies c t number firsts e split m r (view s) less lock h), λ b. absurd (other b))
      by_lock false lock =
          let atoms = put_all puts_aside (word_at s.store) (first_places d m) in
          let go = all_go p Safe d a Free atoms (lists_kept (first_places d m) each_kept) s (h, lock) in
          let came = all_come d puts_aside (λ s'. as_store s'.aside) (into_aside d) (word_at s.store) (first_places d m) s inside in
          let end = atoms_done d atoms s in (
            weaken atoms s go.0,
            (go.1.0, saved_copies c t number firsts e split m r (view s) (view end) less h (λ at home there. all_places c _ (slice_index_or firsts m []) came at there home.inside)),
            λ b. absurd (other b),
          )

  pub lock_goes : (a : Act) → Other a → (m r : ℕ) → m < regions t → (s : State) → Saved m r s → DoneGoes p Safe d a e (λ s. Now m r s ⊎ Now (m + 1) r s) (λ w. Now (m + 1) r) (one (silent (puts_lock m s.epoch))) s
  lock_goes a other m r less s h =
      let after = lock_open c t number firsts e split m r (view s) less h.1 h.0 in
      ((silent_quiet p Safe a (puts_lock m s.epoch) (λ bank aside. aside), inr after, tt), after, λ b. absurd (other b))
