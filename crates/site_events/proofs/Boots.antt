-- A boot of the plan of a program tells what the rules say, wherever it is cut.
use Rattle.std.proofs.Common.{◌≡◌, ◌∙◌, ℕ, zero, suc, ◌+◌, ◌-◌, ◌*◌, ◌<◌, ◌≤◌, Bool, true, false, cond, nat_lt, List, [], ◌∷◌, length, map, take, slice_get, refl, sym, ap, subst, arith, eqb-true}
use Rattle.std.specs.Prelude.{Option, Some, None, min, sum_by}
use Rattle.std.specs.List.{range_with_len}
use Rattle.std.proofs.lemmas.Bool.{ltb-true, ltb-false, lt-ltb}
use Rattle.std.proofs.lemmas.List.Sums.{sum_by-cons}
use Rattle.task_ast.specs.declared.core_form.CoreTask.{CoreTask}
use Rattle.task_ast.specs.declared.core_form.Core.{Core}
use Rattle.task_ast.specs.CoreSites.{room}
use Rattle.task_ast.specs.WellFormed.{IsWellFormed}
use Rattle.region_split.specs.Regions.{regions}
use Rattle.walk_run.specs.Store.{Store}
use Rattle.devices.specs.declared.world.World.{World}
use Rattle.word_isa.specs.declared.parts.Scheme.{Scheme}
use Rattle.word_isa.specs.declared.parts.Scheme.TheVariants.{Undo, Bank}
use Rattle.task_attempts.specs.State.{Standing, Here, Log, Rest}
use Rattle.task_attempts.specs.Costs.{first_words, restoring_steps}
use Rattle.task_attempts.specs.Boots
use Rattle.task_attempts.specs.Boots.{rules_of, task_of, attempts_log, boot_steps, boot_log}
use Rattle.run_plan.specs.declared.act.Act.TheVariants as act
use Rattle.run_plan.specs.Cells.{State}
use Rattle.run_plan.specs.Small.{Doing, same, lock_holds}
use Rattle.run_plan.specs.Words.{first_places, restore_writes}
use Rattle.run_plan.specs.Weights.{region_words, weight}
use Rattle.run_plan.specs.Safe.{all_written}
use Rattle.run_plan.specs.PlanOf.{most_regions, restore_acts}
use Rattle.run_plan.specs.Runs.{Smalls, At, Onward, Planned, with_state, doing, act_end, act_steps, straight, if_there, nothing, acts_run, attempts, restoring_if_there, booted, boot_run}
use Rattle.plan_restore.specs.Kept.{planned, IsKept, AreKept}
use Rattle.site_events.specs.Records.{view}
use Rattle.site_events.specs.Standing.{StandsAt}
use Rattle.site_events.specs.Telling.{Tells}
use Rattle.site_events.specs.Follows.{AreSeen, Goes}
use Rattle.site_events.proofs.Places.{restores_unseen, all_view, all_stand}
use Rattle.site_events.proofs.Telling.{nothing_goes, writes_go, end_goes}
use Rattle.site_events.proofs.Bodies.{BareLog, region_there_is}
use Rattle.site_events.proofs.Attempts.{task_there, no_task, attempts_go}

-- ---- what restoring may take, region by region

-- the words of so many regions, from one on
abbrev words_from : (ℕ → ℕ) → (i n : ℕ) → ℕ
words_from words i zero = 0
words_from words i (suc n) = words i + words_from words (i + 1) n

sum_is : (words : ℕ → ℕ) (i n : ℕ) → sum_by words (range_with_len i n) ≡ words_from words i n
sum_is words i zero = refl
sum_is words i (suc n) = sum_by-cons words i (range_with_len (i + 1) n) ∙ ap (λ x. words i + x) (sum_is words (i + 1) n)

-- a task's regions are restored at most up to the one behind the furthest
abbrev cost : (regions furthest : ℕ) → (ℕ → ℕ) → (i left : ℕ) → ℕ
cost m f words i zero = 0
cost m f words i (suc left) = cond (nat_lt i m) (16 + 12 * cond (nat_lt i (f + 2)) (words i) 0) 0 + cost m f words (i + 1) left

below : (i n : ℕ) → nat_lt i n ≡ true → i < n
below i n is = ltb-true i n is

not_below : (i n : ℕ) → nat_lt i n ≡ false → n ≤ i
not_below i n is = ltb-false i n is

cost_few : (m f : ℕ) (words : ℕ → ℕ) (left i : ℕ) → cost m f words i left ≤ 16 * (m - i) + 12 * words_from words i (min (f + 2) m - i)
cost_few m f words zero i = omega arith
cost_few m f words (suc left) i = by_region (nat_lt i m) refl (nat_lt i (f + 2)) refl (cost_few m f words left (i + 1))
  where
    by_region : (a : Bool) → nat_lt i m ≡ a → (b : Bool) → nat_lt i (f + 2) ≡ b → cost m f words (i + 1) left ≤ 16 * (m - (i + 1)) + 12 * words_from words (i + 1) (min (f + 2) m - (i + 1))
        → cond a (16 + 12 * cond b (words i) 0) 0 + cost m f words (i + 1) left ≤ 16 * (m - i) + 12 * words_from words i (min (f + 2) m - i)
    by_region false past b is rest =
        let high = not_below i m past in
        let e1 : min (f + 2) m - (i + 1) ≡ 0 = omega (arith, high) in
        let none : words_from words (i + 1) (min (f + 2) m - (i + 1)) ≡ 0 = ap (words_from words (i + 1)) e1 in
        omega (arith, rest, high, none)
    by_region true inside true is rest =
        let low = below i m inside in
        let low' = below i (f + 2) is in
        let e1 : min (f + 2) m - i ≡ suc (min (f + 2) m - (i + 1)) = omega (arith, low, low') in
        let one : words_from words i (min (f + 2) m - i) ≡ words i + words_from words (i + 1) (min (f + 2) m - (i + 1)) = ap (words_from words i) e1 in
        omega (arith, rest, low, one)
    by_region true inside false is rest =
        let low = below i m inside in
        let high = not_below i (f + 2) is in
        let e1 : min (f + 2) m - (i + 1) ≡ 0 = omega (arith, high) in
        let none : words_from words (i + 1) (min (f + 2) m - (i + 1)) ≡ 0 = ap (words_from words (i + 1)) e1 in
        omega (arith, rest, low, none)

restoring_enough : (c : Core) (t : CoreTask) (furthest count : ℕ) → cost (regions t) furthest (first_words c t) 0 count ≤ restoring_steps c t furthest Undo
restoring_enough c t furthest count =
    let few = cost_few (regions t) furthest (first_words c t) count 0 in
    let sum = sum_is (first_words c t) 0 (min (furthest + 2) (regions t)) in
    let e0 : min (furthest + 2) (regions t) - 0 ≡ min (furthest + 2) (regions t) = omega arith in
    let same : words_from (first_words c t) 0 (min (furthest + 2) (regions t) - 0) ≡ words_from (first_words c t) 0 (min (furthest + 2) (regions t)) = ap (words_from (first_words c t) 0) e0 in
    omega (arith, few, sum, same)

-- a lock that holds is of a region that was reached, or the one behind
held_few : (held : Bool) (i furthest words few : ℕ) → words ≡ few → (held ≡ true → i ≤ furthest + 1) → cond held words 0 ≤ cond (nat_lt i (furthest + 2)) few 0
held_few false i furthest words few same reached = omega arith
held_few true i furthest words few same reached =
    let low = reached refl in
    subst (λ b. words ≤ cond b few 0) (sym (lt-ltb i (furthest + 2) (omega (arith, low)))) (omega (arith, same))

module _ (c : Core) (world : World) (scheme : Scheme) (bare : BareLog (rules_of c world)) (w : IsWellFormed c) where
  abbrev p : Planned
  p = planned c world scheme

  -- ---- restoring

  module _ (fuel n : ℕ) (t : CoreTask) (there : slice_get c.tasks n ≡ Some t) where
    abbrev d : Doing
    d = doing p (suc n) t

    words_there : (r : ℕ) → r < regions t → region_words d r ≡ first_words c t r
    words_there r few = ap (λ (arrays : List ℕ). sum_by (λ a. room (slice_get c.arrays a)) arrays) (region_there_is c t d.firsts r (task_there c scheme 1 c.tasks n t there).1 few)

    -- what comes behind restoring
    abbrev Restored : Onward → At → Standing → Log → (most : ℕ) → Type 0
    Restored behind at st log most = (later : At) → StandsAt c (view later.state) st → later.weights ≤ at.weights + most → Goes p (IsKept p) fuel later.state.store st (behind later) log

    region_goes : (i : ℕ) (b : Bool) → nat_lt i (regions t) ≡ b → (go : Onward) (at : At) (st : Standing) (log : Log) → StandsAt c (view at.state) st
        → Restored go at st log (cond b (16 + 12 * cond (nat_lt i (st.account.furthest + 2)) (first_words c t i) 0) 0)
        → Goes p (IsKept p) fuel at.state.store st (if_there b (act_steps d (act.Restore i) (straight go)) go at) log
    region_goes i false is go at st log stands goes = goes at stands (omega arith)
    region_goes i true is go at st log stands goes =
        let places = cond (lock_holds at.state i) (first_places d i) [] in
        let writes = restore_writes at.state places in
        let unseen = restores_unseen at.state places in
        let s = all_written c writes at.state in
        let begun : At = record at { weights = at.weights + weight d (act.Restore i) at.state } in
        let stands' = subst (λ v. StandsAt c v st) (sym (all_view c writes unseen at.state)) stands in
        let few = held_few (lock_holds at.state i) i st.account.furthest (region_words d i) (first_words c t i) (words_there i (below i (regions t) is)) (λ held. stands.locked i (eqb-true (at.state.cells.lock i) at.state.epoch held)) in
        writes_go p (IsKept p) fuel (act.Restore i) writes (act_end c (act.Restore i) same go) begun st log (all_stand p (IsKept p) fuel st writes unseen at.state stands)
        (end_goes p (IsKept p) fuel (act.Restore i) same go (with_state s begun) s.store st log stands'
        (λ seen. goes (with_state s begun) stands' (omega (arith, few))))

    regions_go : (left i : ℕ) (behind : Onward) (at : At) (st : Standing) (log : Log) → StandsAt c (view at.state) st → Restored behind at st log (cost (regions t) st.account.furthest (first_words c t) i left)
        → Goes p (IsKept p) fuel at.state.store st (acts_run d nothing (map act.Restore (range_with_len i left)) behind at) log
    regions_go zero i behind at st log stands goes = goes at stands (omega arith)
    regions_go (suc left) i behind at st log stands goes =
        region_goes i (nat_lt i (regions t)) refl (acts_run d nothing (map act.Restore (range_with_len (i + 1) left)) behind) at st log stands
        (λ later stands' less. regions_go left (i + 1) behind later st log stands' (λ last stands'' less'. goes last stands'' (omega (arith, less, less'))))

    -- what a boot restores, under either scheme, and the attempts behind it
    restored_goes : (k : Scheme) (count : ℕ) (behind : Onward) (rest : Rest) (at : At) (here : Here) → at.weights ≤ 64 → StandsAt c (view at.state) here.standing
        → ((later : At) → StandsAt c (view later.state) here.standing → later.weights ≤ boot_steps c (Some t) here.standing.account.furthest k → Goes p (IsKept p) fuel later.state.store here.standing (behind later) (rest here))
        → Goes p (IsKept p) fuel at.state.store here.standing (acts_run d nothing (restore_acts k count) behind at) (rest here)
    restored_goes Bank count behind rest at here few stands goes = goes at stands (omega (arith, few))
    restored_goes Undo count behind rest at here few stands goes =
        let enough = restoring_enough c t here.standing.account.furthest count in
        regions_go count 0 behind at here.standing (rest here) stands (λ later stands' less. goes later stands' (omega (arith, few, less, enough)))

  -- ---- a boot

  boot_of : (i j : ℕ) → i ≤ j → (number : ℕ) (o : Option CoreTask) → task_of c number ≡ o → (s : State) (st : Standing) → StandsAt c (view s) st → number ≡ st.next
      → Goes p (IsKept p) i s.store st (restoring_if_there p (attempts p i) number o (booted s)) (attempts_log (rules_of c world) j (Boots.booted (rules_of c world) st))
  boot_of i j fewer number None is s st stands which = nothing_goes p (IsKept p) i s.store st _ (sym which ∙ no_task c number (subst (λ n. n ≤ length c.tasks) (stands.next ∙ sym which) stands.there) is)
  boot_of i j fewer zero (Some t) is s st stands which = absurd (cc is)
  boot_of i j fewer (suc n) (Some t) is s st stands which =
      let here = Boots.booted (rules_of c world) st in
      restored_goes i n t is scheme (most_regions c.tasks) (attempts p i) (attempts_log (rules_of c world) j) (booted s) here (omega arith) stands
      (λ later stands' few. attempts_go c world scheme bare w i j fewer later here stands'
      (subst (λ o. later.weights ≤ boot_steps c o st.account.furthest scheme) (sym (ap (task_of c) (sym which) ∙ is)) few))

  -- what is kept of small steps is seen of them
  kept_seen : (e left : Store) (xs : Smalls) → AreKept p e left xs → AreSeen (IsKept p) e left xs
  kept_seen e left [] kept = tt
  kept_seen e left (x ∷ xs) kept = (kept.0, kept_seen _ x.after.store xs kept.1)

  -- a boot that is cut behind so many small steps, from where a boot finds what is committed
  pub boot_told : (n : ℕ) (s : State) (st : Standing) → StandsAt c (view s) st → AreKept p st.committed s.store (take n (boot_run p n s)) → Tells p n s.store st (boot_run p n s) (boot_log (rules_of c world) (suc n) st)
  unfolding boot_run boot_log
  boot_told n s st stands kept = boot_of n (suc n) (omega arith) s.task (task_of c s.task) refl s st stands stands.next n (omega arith) (kept_seen st.committed s.store _ kept)
