-- A boot, and boots, of the plan of a program: what holds behind each small step, whatever each failure leaves.
use Rattle.std.proofs.Common.{◌≡◌, ◌∙◌, ℕ, zero, suc, ◌+◌, ◌<◌, ◌≤◌, true, false, ◌==◌, cond, List, [], ◌∷◌, ◌++◌, length, map, take, get_or, slice_get, slice_index_or, refl, sym, ap, subst, arith}
use Rattle.std.specs.Prelude.{Option, Some, None}
use Rattle.std.specs.List.{AllByRecursion, range_with_len}
use Rattle.std.proofs.lemmas.Bool.{or_right}
use Rattle.std.proofs.lemmas.List.FromFn.{length-range_with_len}
use Rattle.task_ast.specs.declared.tree.Kind.TheVariants.{Const, Vol}
use Rattle.task_ast.specs.declared.core_form.CoreTask.{CoreTask}
use Rattle.task_ast.specs.declared.core_form.Core.{Core}
use Rattle.task_ast.specs.CoreSites.{all_numbers}
use Rattle.task_ast.specs.Pointing.{pointing}
use Rattle.task_ast.specs.WellFormed.{IsCoreTask, IsWellFormed}
use Rattle.region_split.specs.Regions.{keeps_words, all_touches, writes_in, writes_before, region_of, regions}
use Rattle.region_split.specs.Owners.{all_first}
use Rattle.walk_run.specs.declared.place.Place.{Place}
use Rattle.walk_run.specs.Store.{words_of, Store, word_at, declared_store}
use Rattle.devices.specs.declared.world.World.{World}
use Rattle.word_isa.specs.declared.parts.Scheme.{Scheme}
use Rattle.word_isa.specs.declared.parts.Scheme.TheVariants.{Undo, Bank}
use Rattle.task_attempts.specs.Boots.{task_of}
use Rattle.run_plan.specs.declared.act.Act.TheVariants as act
use Rattle.run_plan.specs.Cells.{Cells, State, joined, zeros, first_state, failed}
use Rattle.run_plan.specs.Small.{Doing}
use Rattle.run_plan.specs.Finding.{statement_of}
use Rattle.run_plan.specs.PlanOf.{save_acts, body_acts, exit_act, around, task_acts, tasks_acts, most_regions, restore_acts, plan_of}
use Rattle.run_plan.specs.Runs.{Smalls, Onward, Planned, at_task, doing, nothing, acts_run, attempt_if_there, attempts, restoring_if_there, booted, boot_run, cut_run, after, started}
use Rattle.run_plan.specs.RunRows.{run_joined}
use Rattle.plan_restore.specs.Found.{is_saved, found_by}
use Rattle.plan_restore.specs.Kept.{planned, committed_by, AreKept, committed_after, IsLeft, BootsKeep}
use Rattle.plan_restore.proofs.Puts.{joined_const, declared_const, kept_there, kept_not_volatile, lost_alike, Shaped, as_store, joined_kept, joined_shaped, lost_count, declared_shaped, zeros_shaped}
use Rattle.plan_restore.proofs.Regions.{touched}
use Rattle.plan_restore.proofs.Steps.{AreFine, Holds}
use Rattle.plan_restore.proofs.Open.{MayBy, MayWrite, HasRecords, IsSafe, Open, open_safe, none_saved}
use Rattle.plan_restore.proofs.Solid.{body_solid, written_solid}
use Rattle.plan_restore.proofs.Acts.{FineFor}
use Rattle.plan_restore.proofs.Committing.{IsReady, Again}
use Rattle.plan_laws.specs.PlacedSites.{task_placed, Next}
use Rattle.plan_restore.proofs.Positions.{saved, Allowed, all_allowed, fine_among}
use Rattle.plan_restore.proofs.Bodies.{saving_holds, body_holds, exit_holds}
use Rattle.plan_restore.proofs.Restoring.{IsRestoring, restores_hold, all_restored}
use Rattle.plan_restore.proofs.Beginning.{begin_holds}

-- ---- a plan by its tasks

-- the acts and the first arrays of the task of a number
task_there : (c : Core) (scheme : Scheme) (from : ℕ) (ts : List CoreTask) (n : ℕ) (t : CoreTask) → slice_get ts n ≡ Some t
    → (slice_index_or (tasks_acts scheme from ts) n [] ≡ task_acts scheme (from + n) t) × (slice_index_or (map (all_first c) ts) n [] ≡ all_first c t)
task_there c scheme from [] n t is = absurd (cc is)
task_there c scheme from (x ∷ ts) zero t is =
    let same : x ≡ t = cc is in
    let e0 : from ≡ from + 0 = omega arith in
    ((λ i. task_acts scheme (e0 i) (same i)), ap (all_first c) same)
task_there c scheme from (x ∷ ts) (suc n) t is =
    let more = task_there c scheme (from + 1) ts n t is in
    let e0 : from + 1 + n ≡ from + suc n = omega arith in
    (more.0 ∙ ap (λ k. task_acts scheme k t) e0, more.1)

fewer_regions : (ts : List CoreTask) (n : ℕ) (t : CoreTask) → slice_get ts n ≡ Some t → regions t ≤ most_regions ts
fewer_regions [] n t is = absurd (cc is)
fewer_regions (x ∷ ts) zero t is = let same : x ≡ t = cc is in subst (λ y. regions y ≤ most_regions (x ∷ ts)) same (omega arith)
fewer_regions (x ∷ ts) (suc n) t is = let less = fewer_regions ts n t is in omega (arith, less)

well_task : (c : Core) (ts : List CoreTask) (n : ℕ) (t : CoreTask) → AllByRecursion (IsCoreTask c) ts → slice_get ts n ≡ Some t → IsCoreTask c t
well_task c [] n t all is = absurd (cc is)
well_task c (x ∷ ts) zero t all is = let same : x ≡ t = cc is in subst (IsCoreTask c) same all.0
well_task c (x ∷ ts) (suc n) t all is = well_task c ts n t all.1 is

-- what a region may write is written before the next
allowed_by : (scheme : Scheme) (c : Core) (t : CoreTask) (q a : ℕ) → writes_in (touched t) q a ≡ true → MayBy scheme c t (1 + q) a
allowed_by Undo c t q a there = λ kept. let e0 : suc q ≡ 1 + q = omega arith in subst (λ k. writes_before (touched t) k a ≡ true) e0 (or_right (writes_before (touched t) q a) (writes_in (touched t) q a) there)
allowed_by Bank c t q a there = tt

module _ (c : Core) (w : IsWellFormed c) (world : World) (scheme : Scheme) where
  abbrev p : Planned
  p = planned c world scheme

  abbrev Safe : Store → State → Type 0
  Safe = IsSafe p

  -- ---- a task

  module _ (n : ℕ) (t : CoreTask) (there : slice_get c.tasks n ≡ Some t) where
    abbrev d : Doing
    d = doing p (suc n) t

    split : at_task p.plan.firsts (suc n) [] ≡ all_first c t
    split = (task_there c scheme 1 c.tasks n t there).1

    acts_are : at_task p.plan.tasks (suc n) [] ≡ task_acts scheme (suc n) t
    acts_are = (task_there c scheme 1 c.tasks n t there).0 ∙ (let e0 : 1 + n ≡ suc n = omega arith in ap (λ k. task_acts scheme k t) e0)

    well : IsCoreTask c t
    well = well_task c c.tasks n t w.tasks there

    abbrev Now : Store → (m r : ℕ) → State → Type 0
    Now e m r s = Open scheme c t (suc n) (at_task p.plan.firsts (suc n) []) e m r s

    many : length (all_numbers t.body) ≡ length t.sites
    many = ap length well.sites.numbers ∙ length-range_with_len 1 (length t.sites)

    next : Next 0 (all_numbers t.body)
    next = well.sites.numbers ∙ ap (range_with_len 1) (sym many)

    allowed : Allowed (MayWrite scheme c t) (saved t 0) (all_touches (pointing t) t.body)
    allowed = subst (λ k. Allowed (MayWrite scheme c t) k (touched t)) (let e0 : 1 ≡ saved t 0 = omega arith in e0) (all_allowed (MayWrite scheme c t) 1 (touched t) (λ q a is. (allowed_by scheme c t q a is, written_solid c t (touched t) q a (body_solid c t t.body 1 false [] well.body) is)))

    fine : (j : ℕ) → FineFor (MayWrite scheme c t (region_of t j + 1)) (pointing t) (statement_of d j)
    fine j = fine_among c t (MayWrite scheme c t) j t.body 0 next (task_placed c.arrays t well.sites) allowed

    -- an attempt, from what is committed
    attempt_holds : (e : Store) (again : Onward) → Again p again → Holds p Safe e (λ s. IsReady p e s × (s.task ≡ suc n)) (acts_run d again (task_acts scheme (suc n) t) nothing)
    attempt_holds e again fine_again =
        let none : (m : ℕ) → Holds p Safe e (Now e m m) nothing = (λ m at h. tt) in
        let leave = exit_holds p t (suc n) e there split again fine_again (saved t (0 + length (all_numbers t.body))) t.exit nothing (none _) in
        let body = body_holds p t (suc n) e there split again fine_again fine t.body 1 false well.body 0 next (task_placed c.arrays t well.sites) allowed (λ q x is. is) _ leave in
        let body' = subst (λ m. Holds p Safe e (Now e m m) (acts_run d again (body_acts (around scheme t) t.body) (acts_run d again (exit_act t.exit ∷ []) nothing))) (let e0 : saved t 0 ≡ 0 + 1 = omega arith in e0) body in
        let saving = saving_holds p t (suc n) e there split again fine_again scheme refl 0 (omega arith) _ body' in
        let saving' = subst (λ m. Holds p Safe e (Now e 0 m) (acts_run d again (save_acts scheme 0) (acts_run d again (body_acts (around scheme t) t.body) (acts_run d again (exit_act t.exit ∷ []) nothing)))) (let e0 : 0 + 1 ≡ 1 = omega arith in e0) saving in
        let begun = begin_holds p t (suc n) e there again _ saving' (λ s h. open_safe p t (suc n) e 0 1 s there h) in
        subst (Holds p Safe e (λ s. IsReady p e s × (s.task ≡ suc n)))
        (sym (run_joined d again (act.Begin (suc n) ∷ save_acts scheme 0 ++ body_acts (around scheme t) t.body) (exit_act t.exit ∷ []) nothing
        ∙ run_joined d again (act.Begin (suc n) ∷ save_acts scheme 0) (body_acts (around scheme t) t.body) (acts_run d again (exit_act t.exit ∷ []) nothing)))
        begun

    -- what a boot restores, under either scheme
    restoring_holds : (k : Scheme) → scheme ≡ k → (e : Store) (behind : Onward) → Holds p Safe e (λ s. IsReady p e s) behind → Holds p Safe e (λ s. IsSafe p e s × (s.task ≡ suc n)) (acts_run d nothing (restore_acts k (most_regions c.tasks)) behind)
    restoring_holds Bank is e behind holds = λ at h. holds at (record { safe = h.0; whole = λ undo. absurd (let clash : Undo ≡ Bank = sym undo ∙ is in cc clash) })
    restoring_holds Undo is e behind holds =
        let last : Holds p Safe e (IsRestoring p t (suc n) e is there split (0 + most_regions c.tasks)) behind = (λ at h. holds at (record {
          safe = h.safe;
          whole = λ undo at' home. all_restored p t (suc n) e is there split (0 + most_regions c.tasks) at.state (let few = fewer_regions c.tasks n t there in omega (arith, few)) h at' home;
        })) in
        let all = restores_hold p t (suc n) e is there split nothing 0 (most_regions c.tasks) behind last in
        λ at h. all at (record { task = h.1; safe = h.0; restored = λ q x low. absurd (omega (arith, low)) })

  -- ---- attempts

  attempt_of : (again : Onward) → Again p again → (e : Store) (number : ℕ) (o : Option CoreTask) → task_of c number ≡ o → Holds p Safe e (λ s. IsReady p e s × (s.task ≡ number)) (attempt_if_there p again number o)
  attempt_of again fine_again e number None is = λ at h. tt
  attempt_of again fine_again e zero (Some t) is = absurd (cc is)
  attempt_of again fine_again e (suc n) (Some t) is =
      subst (λ acts. Holds p Safe e (λ s. IsReady p e s × (s.task ≡ suc n)) (acts_run (doing p (suc n) t) again acts nothing)) (sym (acts_are n t is)) (attempt_holds n t is e again fine_again)

  attempts_hold : (n : ℕ) → Again p (attempts p n)
  attempts_hold zero e at h = tt
  attempts_hold (suc n) e at h = attempt_of (attempts p n) (attempts_hold n) e at.state.task (task_of c at.state.task) refl at (h, refl)

  restoring_of : (e : Store) (behind : Onward) → Holds p Safe e (λ s. IsReady p e s) behind → (number : ℕ) (o : Option CoreTask) → task_of c number ≡ o → Holds p Safe e (λ s. IsSafe p e s × (s.task ≡ number)) (restoring_if_there p behind number o)
  restoring_of e behind holds number None is = λ at h. tt
  restoring_of e behind holds zero (Some t) is = absurd (cc is)
  restoring_of e behind holds (suc n) (Some t) is = restoring_holds n t is scheme refl e behind holds

  -- a boot
  boot_holds : (e : Store) (n : ℕ) (s : State) → IsSafe p e s → AreFine p Safe e s.store (boot_run p n s)
  unfolding boot_run
  boot_holds e n s safe = restoring_of e (attempts p n) (attempts_hold n e) s.task (task_of c s.task) refl (booted s) (safe, refl)

  -- ---- a boot that is cut

  cut_fine : (n : ℕ) (e left : Store) (xs : Smalls) → AreFine p Safe e left xs → AreFine p Safe e left (take n xs)
  cut_fine zero e left xs goes = tt
  cut_fine (suc n) e left [] goes = tt
  cut_fine (suc n) e left (x ∷ xs) goes = (goes.0, cut_fine n _ x.after.store xs goes.1)

  all_kept : (e left : Store) (xs : Smalls) → AreFine p Safe e left xs → AreKept p e left xs
  all_kept e left [] goes = tt
  all_kept e left (x ∷ xs) goes = (record { finds = goes.0.safe.finds; begun = goes.0.begun; commit = goes.0.commit; bank = goes.0.bank }, all_kept _ x.after.store xs goes.1)

  end_safe : (e left : Store) (s : State) (xs : Smalls) → IsSafe p e s → AreFine p Safe e left xs → IsSafe p (committed_after e left xs) (after s xs)
  end_safe e left s [] safe goes = safe
  end_safe e left s (x ∷ xs) safe goes = end_safe (committed_by x.atom.event left e) x.after.store x.after xs goes.0.safe goes.1

  -- ---- what a failure leaves

  homes_left : (s u : State) → IsLeft c s u → (n : ℕ) → keeps_words (slice_get c.arrays n) ≡ true → words_of u.store n ≡ words_of s.store n
  homes_left s u left n kept = let x = kept_there (slice_get c.arrays n) kept in left.alike n x.0 x.1 (kept_not_volatile c n kept x.0 x.1)

  left_safe : (e : Store) (s u : State) → IsLeft c s u → IsSafe p e s → IsSafe p e u
  left_safe e s u left safe = record {
    entry = safe.entry;
    entry_constants = safe.entry_constants;
    constants = λ n a is const. left.alike n a is (λ vol. let clash : Const ≡ Vol = sym const ∙ vol in cc clash) ∙ safe.constants n a is const;
    shaped = record { count = left.arrays ∙ safe.shaped.count; rooms = λ a kept. ap length (homes_left s u left a kept) ∙ safe.shaped.rooms a kept };
    shaped_aside = subst (Shaped c) (sym left.aside) safe.shaped_aside;
    numbered = record {
      started = subst (λ n. 0 < n) (sym left.epoch) safe.numbered.started;
      locks = λ r. subst (λ (cells : Cells). cells.lock r ≤ u.epoch) (sym left.cells) (subst (λ n. s.cells.lock r ≤ n) (sym left.epoch) (safe.numbered.locks r));
      flags = λ k. subst (λ (cells : Cells). cells.flag k ≤ u.epoch) (sym left.cells) (subst (λ n. s.cells.flag k ≤ n) (sym left.epoch) (safe.numbered.flags k));
    };
    finds = λ at home. (λ i. finds_by (left.task i) (left.cells i) (left.epoch i) (left.aside i) (ap (λ ws. get_or ws at.index 0) (homes_left s u left at.array home.kept) i) at) ∙ safe.finds at home;
    records = λ t is. subst (λ (cells : Cells). HasRecords scheme c t cells.flag cells.to u.epoch) (sym left.cells)
        (subst (λ n. HasRecords scheme c t s.cells.flag s.cells.to n) (sym left.epoch) (safe.records t (ap (task_of c) (sym left.task) ∙ is)));
  }
    where
      finds_by : (task : ℕ) (cells : Cells) (epoch : ℕ) (aside : List (List ℕ)) (home : ℕ) (at : Place) → ℕ
      finds_by task cells epoch aside home at =
          found_by scheme (is_saved (at_task p.plan.firsts task []) (λ r. cells.lock r == epoch) (length (at_task p.plan.firsts task [])) at.array) (word_at (as_store aside) at) home

  -- boots, whatever each leaves
  boots_keep : (numbers : List ℕ) (e : Store) (s : State) → IsSafe p e s → BootsKeep p numbers e s
  boots_keep [] e s safe = tt
  boots_keep (n ∷ numbers) e s safe =
      let run = cut_run p n s in
      let fine = cut_fine n e s.store (boot_run p n s) (boot_holds e n s safe) in
      (all_kept e s.store run fine, λ u left. boots_keep numbers (committed_after e s.store run) u (left_safe (committed_after e s.store run) (after s run) u left (end_safe e s.store s run safe fine)))

-- ---- before the first boot

-- what a failure leaves in a plan's run is what one may leave
pub failed_left : (c : Core) (s : State) → IsLeft c s (failed c s)
failed_left c s = record {
  alike = λ n a is not. lost_alike c.arrays s.store.words n a is not;
  arrays = lost_count c.arrays s.store.words;
  aside = refl;
  cells = refl;
  epoch = refl;
  task = refl;
  bank = refl;
}

first_safe : (c : Core) (world : World) (scheme : Scheme) (times : List ℕ) → IsSafe (planned c world scheme) (declared_store c) (first_state c scheme times)
first_safe c world Undo times =
    let words = map (λ x. x.first) c.arrays in
    let shape = declared_shaped c in
    let firsts = at_task (plan_of c Undo).firsts 1 [] in
    record {
      entry = shape;
      entry_constants = λ n a is const. declared_const c.arrays n a is;
      constants = λ n a is const. joined_const c.arrays words words n a shape.count shape.count is const ∙ declared_const c.arrays n a is;
      shaped = joined_shaped c words words shape shape.count;
      shaped_aside = zeros_shaped c words shape;
      numbered = record { started = omega arith; locks = λ r. omega arith; flags = λ k. omega arith };
      finds = λ at home. ap (λ b. cond b (word_at (as_store (zeros words)) at) (word_at (as_store (joined c.arrays words words)) at)) (none_saved firsts (λ r. 0 == 1) (length firsts) at.array (λ r. refl))
          ∙ ap (λ ws. get_or ws at.index 0) (joined_kept c.arrays words words at.array shape.count shape.count home.kept);
      records = λ t is k at copy holds to. absurd (let clash : false ≡ true = holds in cc clash);
    }
first_safe c world Bank times =
    let words = map (λ x. x.first) c.arrays in
    let shape = declared_shaped c in
    record {
      entry = shape;
      entry_constants = λ n a is const. declared_const c.arrays n a is;
      constants = λ n a is const. joined_const c.arrays (zeros words) words n a (zeros_shaped c words shape).count shape.count is const ∙ declared_const c.arrays n a is;
      shaped = joined_shaped c (zeros words) words (zeros_shaped c words shape) shape.count;
      shaped_aside = shape;
      numbered = record { started = omega arith; locks = λ r. omega arith; flags = λ k. omega arith };
      finds = λ at home. refl;
      records = λ t is k at copy holds to. absurd (let clash : false ≡ true = holds in cc clash);
    }

-- in every run of a plan, whatever the looks
pub plan_keeps : (c : Core) (world : World) (scheme : Scheme) → IsWellFormed c → (numbers times : List ℕ) → BootsKeep (planned c world scheme) numbers (declared_store c) (started (planned c world scheme) times)
plan_keeps c world scheme w numbers times =
    let first = first_safe c world scheme times in
    let before = first_state c scheme times in
    boots_keep c w world scheme numbers (declared_store c) (failed c before)
    (left_safe c w world scheme (declared_store c) before (failed c before) (failed_left c before) first)
