-- An attempt of a task tells what the rules say, from its beginning to its commit, and so do attempts
-- one after another.
use Rattle.std.proofs.Common.{◌≡◌, ◌∙◌, ℕ, zero, suc, ◌+◌, ◌*◌, ◌≤◌, false, List, [], ◌∷◌, ◌++◌, length, map, get_or, slice_get, slice_index_or, refl, sym, ap, subst, arith}
use Rattle.std.specs.Prelude.{⊤, Option, Some, None, sum_by}
use Rattle.std.specs.List.{AllByRecursion, range_with_len}
use Rattle.std.proofs.lemmas.List.FromFn.{length-range_with_len}
use Rattle.task_ast.specs.declared.tree.Kind.{Kind}
use Rattle.task_ast.specs.declared.tree.Kind.TheVariants.{Nv, Const, Vol}
use Rattle.task_ast.specs.declared.core_form.Array.{Array}
use Rattle.task_ast.specs.declared.core_form.CoreTask.{CoreTask}
use Rattle.task_ast.specs.declared.core_form.Core.{Core}
use Rattle.task_ast.specs.CoreSites.{room, all_numbers}
use Rattle.task_ast.specs.Pointing.{pointing}
use Rattle.task_ast.specs.WellFormed.{IsCoreTask, IsWellFormed, scope_of}
use Rattle.region_split.specs.Regions.{is_nonvolatile, first, regions}
use Rattle.region_split.specs.Owners.{all_first}
use Rattle.walk_run.specs.Store.{Store, unset, fresh_words, fresh_arrays, fresh}
use Rattle.devices.specs.Journal.{begins}
use Rattle.devices.specs.declared.world.World.{World}
use Rattle.word_isa.specs.declared.parts.Scheme.{Scheme}
use Rattle.word_isa.specs.declared.parts.Scheme.TheVariants.{Undo, Bank}
use Rattle.task_attempts.specs.State.{Here, Rest}
use Rattle.task_attempts.specs.Costs.{is_volatile, words_where, first_words, beginning_steps}
use Rattle.task_attempts.specs.Told.{logged, told}
use Rattle.task_attempts.specs.Along.{setting_of}
use Rattle.task_attempts.specs.Attempts.{body_log, exit_log, commit, begun_by, attempt_log}
use Rattle.task_attempts.specs.Boots
use Rattle.task_attempts.specs.Boots.{rules_of, task_of, attempts_log}
use Rattle.run_plan.specs.declared.act.Act.{Act}
use Rattle.run_plan.specs.declared.act.Act.TheVariants as act
use Rattle.run_plan.specs.Cells.{State}
use Rattle.run_plan.specs.Small.{Doing, silent}
use Rattle.run_plan.specs.Deeds.{begin_writes, begun_state}
use Rattle.run_plan.specs.Words.{home_places}
use Rattle.run_plan.specs.Weights.{region_words, level_words, begin_words}
use Rattle.run_plan.specs.Safe.{all_written}
use Rattle.run_plan.specs.PlanOf.{around, save_acts, body_acts, exit_act, task_acts, tasks_acts}
use Rattle.run_plan.specs.Runs.{At, Onward, Planned, at_task, with_state, doing, small_steps, act_end, act_steps, straight, nothing, acts_run, attempt_if_there, attempts}
use Rattle.run_plan.specs.RunRows.{run_joined}
use Rattle.plan_restore.specs.Kept.{planned, IsKept}
use Rattle.plan_restore.proofs.Solid.{body_solid}
use Rattle.plan_laws.specs.PlacedSites.{task_placed, Next}
use Rattle.site_events.specs.Records.{view}
use Rattle.site_events.specs.Standing.{FitsIn, StandsAt}
use Rattle.site_events.specs.Follows.{PointsWithin, Beside, Told, Goes}
use Rattle.site_events.proofs.Places.{IsUnseen, restores_unseen, all_view, all_stand}
use Rattle.site_events.proofs.Telling.{nothing_goes, first_goes, writes_go, end_goes}
use Rattle.site_events.proofs.Acts.{Go, Again, save_follows, lock_follows, exit_follows}
use Rattle.site_events.proofs.Bodies.{BareLog, Blocks, Up, passed, body_follows}

-- ---- tables by tasks

-- the acts and the first arrays of the task of a number
pub task_there : (c : Core) (scheme : Scheme) (from : ℕ) (ts : List CoreTask) (n : ℕ) (t : CoreTask) → slice_get ts n ≡ Some t
    → (slice_index_or (tasks_acts scheme from ts) n [] ≡ task_acts scheme (from + n) t) × (slice_index_or (map (all_first c) ts) n [] ≡ all_first c t)
task_there c scheme from [] n t is = absurd (cc is)
task_there c scheme from (x ∷ ts) zero t is =
    let same : x ≡ t = cc is in
    let e0 : from ≡ from + 0 = omega arith in
    ((λ i. task_acts scheme (e0 i) (same i)), ap (all_first c) same)
task_there c scheme from (x ∷ ts) (suc n) t is =
    let behind = task_there c scheme (from + 1) ts n t is in
    let e0 : from + 1 + n ≡ from + suc n = omega arith in
    (behind.0 ∙ ap (λ k. task_acts scheme k t) e0, behind.1)

-- what holds of all tasks holds of each
pub of_task : (P : CoreTask → Type 0) (ts : List CoreTask) (n : ℕ) (t : CoreTask) → AllByRecursion P ts → slice_get ts n ≡ Some t → P t
of_task P [] n t all is = absurd (cc is)
of_task P (x ∷ ts) zero t all is = let same : x ≡ t = cc is in subst P same all.0
of_task P (x ∷ ts) (suc n) t all is = of_task P ts n t all.1 is

-- a number that is no task's is 0, if it isn't beyond the tasks
there_is : {A : Type 0} (xs : List A) (n : ℕ) → suc n ≤ length xs → slice_get xs n ≡ None → ⊥
there_is [] n few is = absurd (omega (arith, few))
there_is (x ∷ xs) zero few is = cc is
there_is (x ∷ xs) (suc n) few is = there_is xs n (omega (arith, few)) is

pub no_task : (c : Core) (number : ℕ) → number ≤ length c.tasks → task_of c number ≡ None → number ≡ 0
no_task c zero few is = refl
no_task c (suc n) few is = absurd (there_is c.tasks n few is)

-- what region 0 may write first
pub first_there : (c : Core) (t : CoreTask) → slice_index_or (all_first c t) 0 [] ≡ first c t 0
first_there c t = by_count (regions t) (omega arith)
  where
    by_count : (n : ℕ) → 1 ≤ n → slice_index_or (map (first c t) (range_with_len 0 n)) 0 [] ≡ first c t 0
    by_count zero some = absurd (omega (arith, some))
    by_count (suc n) some = refl

-- ---- a beginning

begin_unseen : (scheme : Scheme) (c : Core) (s : State) → AllByRecursion IsUnseen (begin_writes scheme c s)
begin_unseen Undo c s = tt
begin_unseen Bank c s = restores_unseen s (home_places c)

nowhere : {A : Type 0} (names : List A) (q : ℕ) → get_or (unset names) q None ≡ None
nowhere [] q = refl
nowhere (x ∷ names) zero = refl
nowhere (x ∷ names) (suc q) = nowhere names q

fresh_within : (c : Core) (t : CoreTask) (s : Store) → PointsWithin (pointing t) (fresh c s)
fresh_within c t s q at is = absurd (let none = nowhere c.pointers q in let clash : None ≡ Some at = sym none ∙ is in cc clash)

word_fits : (k : Kind) (first words : List ℕ) (n : ℕ) → length first ≡ n → length words ≡ n → length (fresh_words k first words) ≡ n
word_fits Nv first words n one two = two
word_fits Const first words n one two = two
word_fits Vol first words n one two = one

words_fit : (arrays : List Array) (words : List (List ℕ)) (a : ℕ) → length (slice_index_or words a []) ≡ room (slice_get arrays a) → length (slice_index_or (fresh_arrays arrays words) a []) ≡ room (slice_get arrays a)
words_fit [] words a fits = fits
words_fit (x ∷ arrays) [] a fits = fits
words_fit (x ∷ arrays) (w ∷ words) zero fits = word_fits x.kind x.first w (length x.first) refl fits
words_fit (x ∷ arrays) (w ∷ words) (suc a) fits = words_fit arrays words a fits

fresh_fits : (c : Core) (s : Store) → FitsIn c s → FitsIn c (fresh c s)
fresh_fits c s fits a = words_fit c.arrays s.words a (fits a)

-- what saving region 0 may weigh
abbrev saving : Scheme → (words : ℕ) → ℕ
saving Undo words = 0 + 2 + (6 + 12 * words)
saving Bank words = 0

begin_enough : (k : Scheme) (c : Core) (t : CoreTask) (a b : ℕ) → a ≤ b → a + (40 + 12 * (words_where is_volatile c + (length c.pointers + level_words k c))) ≤ b + beginning_steps c t k
begin_enough Undo c t a b few = enough (words_where is_volatile c) (length c.pointers) (first_words c t 0) a b few
  where
    enough : (v q f a b : ℕ) → a ≤ b → a + (40 + 12 * (v + (q + 0))) ≤ b + (64 + 12 * (v + q) + 12 * f)
    enough v q f a b few = omega (arith, few)
begin_enough Bank c t a b few = enough (words_where is_volatile c) (length c.pointers) (words_where is_nonvolatile c) a b few
  where
    enough : (v q f a b : ℕ) → a ≤ b → a + (40 + 12 * (v + (q + f))) ≤ b + (64 + 12 * (v + q) + 12 * f)
    enough v q f a b few = omega (arith, few)

save_enough : (k : Scheme) (c : Core) (t : CoreTask) (words : ℕ) → words ≡ first_words c t 0 → (a b : ℕ) → a ≤ b
    → a + (40 + 12 * (words_where is_volatile c + (length c.pointers + level_words k c))) + saving k words ≤ b + beginning_steps c t k
save_enough Undo c t words is a b few = enough (words_where is_volatile c) (length c.pointers) words (first_words c t 0) a b is few
  where
    enough : (v q w f a b : ℕ) → w ≡ f → a ≤ b → a + (40 + 12 * (v + (q + 0))) + (0 + 2 + (6 + 12 * w)) ≤ b + (64 + 12 * (v + q) + 12 * f)
    enough v q w f a b is few = omega (arith, is, few)
save_enough Bank c t words is a b few = enough (words_where is_volatile c) (length c.pointers) (words_where is_nonvolatile c) a b few
  where
    enough : (v q f a b : ℕ) → a ≤ b → a + (40 + 12 * (v + (q + f))) + 0 ≤ b + (64 + 12 * (v + q) + 12 * f)
    enough v q f a b few = omega (arith, few)

-- ---- an attempt

-- nothing is known of blocks where none is around
abbrev no_blocks : Blocks
no_blocks m o b = ⊤

module _ (c : Core) (world : World) (scheme : Scheme) (bare : BareLog (rules_of c world)) where
  abbrev pub p : Planned
  p = planned c world scheme

  module _ (number : ℕ) (t : CoreTask) (there : task_of c number ≡ Some t) (well : IsCoreTask c t) (split : at_task p.plan.firsts number [] ≡ all_first c t) (fuel : ℕ) (again : Onward) where
    abbrev d : Doing
    d = doing p number t

    abbrev Going : (spare : ℕ) → Onward → Rest → Type 0
    Going spare go rest = Go p (IsKept p) fuel number t there again (Beside (Up no_blocks (passed t 0))) spare go rest

    -- what is saved of region 0 is what it may write first
    words_there : region_words d 0 ≡ first_words c t 0
    words_there = ap (λ (arrays : List ℕ). sum_by (λ a. room (slice_get c.arrays a)) arrays) (ap (λ (firsts : List (List ℕ)). slice_index_or firsts 0 []) split ∙ first_there c t)

    saved_follows : (k : Scheme) (go : Onward) (rest : Rest) → Going 0 go rest → Going (saving k (region_words d 0)) (acts_run d again (save_acts k 0) go) rest
    saved_follows Bank go rest follows = follows
    saved_follows Undo go rest follows =
        let K = Beside (Up no_blocks (passed t 0)) in
        save_follows p (IsKept p) fuel number t there again K (0 + 2) 0 (act_steps d (act.Lock 0) (straight go)) rest
        (lock_follows p (IsKept p) fuel number t there again K 0 0 (λ f acc h. omega arith) go rest follows)

    -- a beginning: its event, its writes, and its end, from which the store is that with which a task begins
    begins_go : (rest : Rest) (behind : Onward) → Going (saving scheme (region_words d 0)) behind rest → (at : At) (here : Here) → number ≡ here.standing.next → StandsAt c (view at.state) here.standing → at.weights ≤ here.steps scheme
        → Goes p (IsKept p) (suc fuel) at.state.store here.standing (act_steps d (act.Begin number) (straight behind) at) (told (begins here.standing.next) rest (begun_by (setting_of (rules_of c world) t) here))
    begins_go rest behind follows at here which stands few =
        let writes = begin_writes scheme c at.state in
        let unseen = begin_unseen scheme c at.state in
        let s = all_written c writes at.state in
        let began : At = record at { weights = at.weights + (40 + 12 * begin_words d) } in
        let here' = begun_by (setting_of (rules_of c world) t) here in
        let stands' = subst (λ v. StandsAt c v here.standing) (sym (all_view c writes unseen at.state)) stands in
        first_goes p (IsKept p) fuel (act.Begin number) None (begins number) (small_steps c (act.Begin number) (map silent writes) (act_end c (act.Begin number) (begun_state c) behind)) began here.standing (logged (begins here.standing.next) None here') (rest here')
        (record { event = ap begins which; weights = begin_enough scheme c t at.weights (here.steps scheme) few; committed = refl; stands = stands; leads = tt })
        (writes_go p (IsKept p) fuel (act.Begin number) writes (act_end c (act.Begin number) (begun_state c) behind) began here.standing (rest here') (all_stand p (IsKept p) fuel here.standing writes unseen at.state stands)
        (end_goes p (IsKept p) fuel (act.Begin number) (begun_state c) behind (with_state s began) s.store here.standing (rest here') stands'
        (λ seen. follows (with_state (begun_state c s) began) here' (record {
          store = seen.begun tt;
          mode = refl;
          running = sym which;
          stands = stands';
          weights = save_enough scheme c t (region_words d 0) words_there at.weights (here.steps scheme) few;
          within = fresh_within c t here.standing.committed;
          fits = fresh_fits c here.standing.committed stands.good.fits;
        }) (tt, omega arith))))

    many : length (all_numbers t.body) ≡ length t.sites
    many = ap length well.sites.numbers ∙ length-range_with_len 1 (length t.sites)

    next : Next 0 (all_numbers t.body)
    next = well.sites.numbers ∙ ap (range_with_len 1) (sym many)

    -- an attempt, from its beginning on
    pub attempt_goes : (rest : Rest) → Again p (IsKept p) fuel number t there again rest → (at : At) (here : Here) → number ≡ here.standing.next → StandsAt c (view at.state) here.standing → at.weights ≤ here.steps scheme
        → Goes p (IsKept p) (suc fuel) at.state.store here.standing (acts_run d again (task_acts scheme number t) nothing at) (attempt_log (setting_of (rules_of c world) t) rest here)
    attempt_goes rest follows at here which stands few =
        let K = Beside (Up no_blocks (passed t (0 + length (all_numbers t.body)))) in
        let setting = setting_of (rules_of c world) t in
        let body = body_acts (around scheme t) t.body in
        let leave = exit_act t.exit ∷ [] in
        let leave_run = acts_run d again leave nothing in
        let body_run = acts_run d again body leave_run in
        let leave_log = exit_log t.exit (commit rest) in
        let leaves_so = exit_follows p (IsKept p) fuel number t there again rest follows K (scope_of c t) 1 t.exit well.exit nothing in
        let body_so = body_follows p (IsKept p) fuel number t there again bare split no_blocks t.body 1 false well.body 0 next (task_placed c.arrays t well.sites) (body_solid c t t.body 1 false [] well.body) (λ q x is. is)
        (λ j x less is. is) (λ m o u b v same same' h. tt) leave_run leave_log leaves_so in
        let begins_so = begins_go (body_log setting t.body leave_log) (acts_run d again (save_acts scheme 0) body_run) (saved_follows scheme body_run (body_log setting t.body leave_log) body_so) at here which stands few in
        subst (λ run. Goes p (IsKept p) (suc fuel) at.state.store here.standing (run at) (attempt_log setting rest here))
        (sym (run_joined d again (act.Begin number ∷ save_acts scheme 0 ++ body) leave nothing ∙ run_joined d again (act.Begin number ∷ save_acts scheme 0) body leave_run))
        begins_so

  -- ---- attempts one after another

  -- from every place between two attempts
  abbrev pub Goings : (fuel : ℕ) → Onward → Rest → Type 0
  Goings fuel again rest = (at : At) (here : Here) → StandsAt c (view at.state) here.standing → at.weights ≤ here.steps scheme → Goes p (IsKept p) fuel at.state.store here.standing (again at) (rest here)

  module _ (w : IsWellFormed c) where
    -- an attempt of the task of a number, where there is one
    number_goes : (fuel : ℕ) (again : Onward) (rest : Rest) → Goings fuel again rest → (number : ℕ) (o : Option CoreTask) → task_of c number ≡ o → (at : At) (here : Here)
        → number ≡ here.standing.next → StandsAt c (view at.state) here.standing → at.weights ≤ here.steps scheme
        → Goes p (IsKept p) (suc fuel) at.state.store here.standing (attempt_if_there p again number o at) (Boots.attempt_if_there (rules_of c world) o rest here)
    number_goes fuel again rest follows number None is at here which stands few =
        nothing_goes p (IsKept p) (suc fuel) at.state.store here.standing [] (sym which ∙ no_task c number (subst (λ n. n ≤ length c.tasks) (stands.next ∙ sym which) stands.there) is)
    number_goes fuel again rest follows zero (Some t) is at here which stands few = absurd (cc is)
    number_goes fuel again rest follows (suc n) (Some t) is at here which stands few =
        let there = task_there c scheme 1 c.tasks n t is in
        let e0 : 1 + n ≡ suc n = omega arith in
        subst (λ (acts : List Act). Goes p (IsKept p) (suc fuel) at.state.store here.standing (acts_run (doing p (suc n) t) again acts nothing at) (attempt_log (setting_of (rules_of c world) t) rest here))
        (sym (there.0 ∙ ap (λ k. task_acts scheme k t) e0))
        (attempt_goes (suc n) t is (of_task (IsCoreTask c) c.tasks n t w.tasks is) there.1 fuel again rest follows at here which stands few)

    -- as many attempts as there are of the plan, or more of the rules, go on for as many small steps
    pub attempts_go : (i j : ℕ) → i ≤ j → Goings i (attempts p i) (attempts_log (rules_of c world) j)
    attempts_go zero j fewer at here stands few = none_asked
      where
        none_asked : (m : ℕ) → m ≤ 0 → Told p (IsKept p) 0 m at.state.store here.standing [] (attempts_log (rules_of c world) j here)
        none_asked zero low seen = tt
        none_asked (suc m) low seen = absurd (omega (arith, low))
    attempts_go (suc i) zero fewer at here stands few = absurd (omega (arith, fewer))
    attempts_go (suc i) (suc j) fewer at here stands few =
        subst (λ n. Goes p (IsKept p) (suc i) at.state.store here.standing (attempts p (suc i) at) (Boots.attempt_if_there (rules_of c world) (task_of c n) (attempts_log (rules_of c world) j) here)) stands.next
        (number_goes i (attempts p i) (attempts_log (rules_of c world) j) (attempts_go i j (omega (arith, fewer))) at.state.task (task_of c at.state.task) refl at here stands.next stands few)
