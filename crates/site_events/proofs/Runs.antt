-- The boots of the plan of a program, one behind another: each tells what the rules say, from where
-- the one before left it.
use Rattle.std.proofs.Common.{◌≡◌, ◌∙◌, ℕ, suc, ◌+◌, ◌≤◌, List, [], ◌∷◌, ◌++◌, length, map, take, refl, sym, ap, subst, arith, zero, slice_get, slice_index_or}
use Rattle.std.specs.Prelude.{⊤, flat_map}
use Rattle.std.proofs.lemmas.Bool.{ne_eqb}
use Rattle.task_ast.specs.declared.core_form.Array.{Array}
use Rattle.task_ast.specs.declared.core_form.Core.{Core}
use Rattle.task_ast.specs.CoreSites.{room}
use Rattle.task_ast.specs.WellFormed.{IsWellFormed}
use Rattle.walk_run.specs.Store.{declared_store}
use Rattle.devices.specs.declared.world.World.{World}
use Rattle.word_isa.specs.declared.parts.Scheme.{Scheme}
use Rattle.task_attempts.specs.State.{Rules, Standing, start}
use Rattle.task_attempts.specs.Boots
use Rattle.task_attempts.specs.Boots.{rules_of, events_in, boot_log, boots_from, boots, costs_from, expect, costs}
use Rattle.task_attempts.specs.Sound.{AreWalked}
use Rattle.task_attempts.proofs.AttemptLaws.{longer_boot}
use Rattle.attempt_laws.specs.Runs.{states_in, all_states}
use Rattle.run_plan.specs.Cells.{State, failed}
use Rattle.run_plan.specs.Runs.{Planned, after, boot_run, cut_run, left_by, boots_run, started, plan_run, shown_events, event_weights, commit_states}
use Rattle.run_plan.specs.Sound.{shown, counts, AllWithin, Within, TrapsAreWalked, GoesOn}
use Rattle.plan_restore.specs.Kept.{planned, AreKept, IsLeft, BootsKeep}
use Rattle.site_events.specs.Records.{view}
use Rattle.site_events.specs.Standing.{StandsAt}
use Rattle.site_events.specs.Telling.{Tells}
use Rattle.site_events.proofs.Bodies.{BareLog}
use Rattle.site_events.proofs.Boots.{boot_told}
use Rattle.site_events.proofs.Cuts.{events_told, weights_told, ends_told, few_shown, ended_told}
use Rattle.site_events.proofs.States.{states_told}
use Rattle.site_events.proofs.Traps.{LastIsWalked, traps_walked}

-- declared words
declared_fits : (arrays : List Array) (a : ℕ) → length (slice_index_or (map (λ x. x.first) arrays) a []) ≡ room (slice_get arrays a)
declared_fits [] a = refl
declared_fits (x ∷ arrays) zero = refl
declared_fits (x ∷ arrays) (suc a) = declared_fits arrays a

module _ (c : Core) (world : World) (scheme : Scheme) (bare : BareLog (rules_of c world)) (leaves : (s : State) → IsLeft c s (failed c s)) (w : IsWellFormed c) where
  abbrev p : Planned
  p = planned c world scheme

  abbrev rules : Rules
  rules = rules_of c world

  -- how many events a boot shows
  abbrev count : (n : ℕ) → State → ℕ
  count n s = length (shown_events (cut_run p n s))

  few : (n : ℕ) (s : State) → count n s ≤ n
  few n s = few_shown p n (boot_run p n s)

  -- each boot tells what the rules say, from where it stands
  abbrev AllTold : (numbers : List ℕ) → State → Standing → Type 0
  AllTold [] s st = ⊤
  AllTold (n ∷ numbers) s st =
      StandsAt c (view s) st × AreKept p st.committed s.store (cut_run p n s) × Tells p n s.store st (boot_run p n s) (boot_log rules (suc n) st) × AllTold numbers (left_by p n s) (Boots.left_by rules (count n s) st)

  all_told : (numbers : List ℕ) (s : State) (st : Standing) → StandsAt c (view s) st → BootsKeep p numbers st.committed s → AllTold numbers s st
  all_told [] s st stands keeps = tt
  all_told (n ∷ numbers) s st stands keeps =
      let run = cut_run p n s in
      let k = count n s in
      let told = boot_told c world scheme bare w n s st stands keeps.0 in
      let ends = ends_told p n st.committed s.store st (boot_run p n s) s (boot_log rules (suc n) st) refl stands told in
      let fewer : k ≤ suc n = let less = few n s in omega (arith, less) in
      let cut : Boots.after st (take k (boot_log rules (suc n) st)) ≡ Boots.left_by rules k st = ap (Boots.after st) (longer_boot rules k (suc n) st fewer) in
      let left = left_by p n s in
      let behind = subst (λ e. BootsKeep p numbers e left) (ends.0 ∙ ap (λ x. x.committed) cut) (keeps.1 left (leaves (after s run))) in
      (stands, keeps.0, told, all_told numbers left (Boots.left_by rules k st) (subst (StandsAt c (view left)) cut ends.1) behind)

  -- the events
  events_are : (numbers : List ℕ) (s : State) (st : Standing) → AllTold numbers s st → shown (boots_run p numbers s) ≡ map events_in (boots_from rules (counts (boots_run p numbers s)) st)
  unfolding boots_run boots_from
  events_are [] s st all = refl
  events_are (n ∷ numbers) s st all =
      let k = count n s in
      let fewer : k ≤ suc n = let less = few n s in omega (arith, less) in
      let here = events_told p n s.store st (boot_run p n s) (boot_log rules (suc n) st) all.2 ∙ ap events_in (longer_boot rules k (suc n) st fewer) in
      let rest = events_are numbers (left_by p n s) (Boots.left_by rules k st) all.3 in
      λ i. here i ∷ rest i

  -- the weights
  weights_are : (numbers : List ℕ) (s : State) (st : Standing) → AllTold numbers s st → AllWithin (map event_weights (boots_run p numbers s)) (costs_from rules scheme (counts (boots_run p numbers s)) st)
  unfolding boots_run costs_from
  weights_are [] s st all = tt
  weights_are (n ∷ numbers) s st all =
      let k = count n s in
      let run = cut_run p n s in
      let less = few n s in
      let fewer : k + 1 ≤ suc n = omega (arith, less) in
      let enough : k ≤ k + 1 = omega arith in
      let here = weights_told p n s.store st (boot_run p n s) (k + 1) (boot_log rules (suc n) st) enough all.2 in
      let log = longer_boot rules (k + 1) (suc n) st fewer in
      (subst (λ logged. Within (event_weights run) (map (λ l. l.steps scheme) logged)) log here, weights_are numbers (left_by p n s) (Boots.left_by rules k st) all.3)

  -- the states behind commits
  states_are : (numbers : List ℕ) (s : State) (st : Standing) → AllTold numbers s st → flat_map (commit_states p) (boots_run p numbers s) ≡ all_states c (boots_from rules (counts (boots_run p numbers s)) st)
  unfolding boots_run boots_from
  states_are [] s st all = refl
  states_are (n ∷ numbers) s st all =
      let k = count n s in
      let fewer : k ≤ suc n = let less = few n s in omega (arith, less) in
      let here = states_told p n s.store st (boot_run p n s) (boot_log rules (suc n) st) all.1 all.2 ∙ ap (states_in c) (longer_boot rules k (suc n) st fewer) in
      let rest = states_are numbers (left_by p n s) (Boots.left_by rules k st) all.3 in
      λ i. here i ++ rest i

  -- and each goes on
  boots_go_on : (numbers : List ℕ) (s : State) (st : Standing) → AllTold numbers s st → GoesOn p numbers s
  boots_go_on [] s st all = tt
  boots_go_on (n ∷ numbers) s st all =
      (ended_told p n s.store st (boot_run p n s) s (boot_log rules (suc n) st) all.0 all.2, boots_go_on numbers (left_by p n s) (Boots.left_by rules (count n s) st) all.3)

  -- where the first boot stands: no flag and no lock is of the first epoch
  starts : (times : List ℕ) → StandsAt c (view (started p times)) (start c times)
  starts times = record {
    next = refl;
    there = (let some = w.some in omega (arith, some));
    looks = refl;
    issued = refl;
    records = λ k. ne_eqb 0 1 (λ same. cc same);
    good = record { fits = declared_fits c.arrays; copies = λ k sort to from words is. absurd (cc is) };
    locked = λ r same. absurd (cc same);
    numbered = record { flags = λ k. omega arith; locks = λ r. omega arith; some = omega arith };
  }

  module _ (keeps : (numbers times : List ℕ) → BootsKeep p numbers (declared_store c) (started p times)) where
    run_told : (numbers times : List ℕ) → AllTold numbers (started p times) (start c times)
    run_told numbers times = all_told numbers (started p times) (start c times) (starts times) (keeps numbers times)

    pub plan_expected : (numbers times : List ℕ) → shown (plan_run p numbers times) ≡ expect rules (counts (plan_run p numbers times)) times
    plan_expected numbers times = events_are numbers (started p times) (start c times) (run_told numbers times)

    pub plan_weighs : (numbers times : List ℕ) → AllWithin (map event_weights (plan_run p numbers times)) (costs rules scheme (counts (plan_run p numbers times)) times)
    plan_weighs numbers times = weights_are numbers (started p times) (start c times) (run_told numbers times)

    pub plan_goes_on : (numbers times : List ℕ) → GoesOn p numbers (started p times)
    plan_goes_on numbers times = boots_go_on numbers (started p times) (start c times) (run_told numbers times)

    pub plan_walked : ((cuts times : List ℕ) → AreWalked c (expect rules cuts times) (all_states c (boots rules cuts times)))
        → (numbers times : List ℕ) → AreWalked c (shown (plan_run p numbers times)) (flat_map (commit_states p) (plan_run p numbers times))
    plan_walked walked numbers times =
        let cuts = counts (plan_run p numbers times) in
        let states = states_are numbers (started p times) (start c times) (run_told numbers times) in
        subst (λ events. AreWalked c events (flat_map (commit_states p) (plan_run p numbers times))) (sym (plan_expected numbers times))
        (subst (AreWalked c (expect rules cuts times)) (sym states) (walked cuts times))

    pub plan_traps : LastIsWalked rules → (numbers times : List ℕ) → TrapsAreWalked c [] (shown (plan_run p numbers times))
    plan_traps law numbers times = subst (TrapsAreWalked c []) (sym (plan_expected numbers times)) (traps_walked rules law times (counts (plan_run p numbers times)))
