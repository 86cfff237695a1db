-- One boot: what a front of the plan's boot tells against the rules, and that each event comes within the steps that are allowed.
use Rattle.std.specs.Prelude.{◌⊎◌, None, map}
use Rattle.std.proofs.Common.{◌≡◌, ◌∙◌, inl, inr, ℕ, suc, ◌+◌, ◌<◌, ◌≤◌, List, [], ◌∷◌, ◌++◌, length, take, refl, sym, ap, subst, append_assoc, append-nil, length-append, take_all, arith}
use Rattle.std.proofs.lemmas.List.{take-append-le}
use Rattle.std.proofs.Math.Seq.{take-append_seam}
use Rattle.task_ast.specs.declared.core_form.Core.{Core}
use Rattle.devices.specs.Journal.{JournalEvent, Place, traps}
use Rattle.devices.specs.declared.world.World.{World}
use Rattle.word_isa.specs.declared.parts.Scheme.{Scheme}
use Rattle.task_attempts.specs.Boots
use Rattle.task_attempts.specs.Boots.{rules_of, boot_costs, boot_log, cut_boot, events_in, task_of}
use Rattle.task_attempts.specs.Laws.{EndsWith}
use Rattle.task_attempts.specs.Sound.{AreInTime}
use Rattle.task_attempts.specs.State.{Rules, Standing, Log}
use Rattle.task_attempts.proofs.AttemptLaws.{boot_traps_last, longer_boot}
use Rattle.word_machine.specs.Runs.{numbered}
use Rattle.word_machine.specs.State.{Program}
use Rattle.word_machine.specs.Step.{exec}
use Rattle.word_machine.specs.Straight.{Spot, live}
use Rattle.word_machine.specs.Traces as trace
use Rattle.word_machine.specs.declared.ending.Ending.{Ending}
use Rattle.word_machine.specs.declared.ending.Ending.TheVariants.{Running, Halted, Trapped}
use Rattle.run_plan.specs.Cells.{State}
use Rattle.run_plan.specs.Runs.{Planned, Smalls, after, boot_run, cut_run, event_weights, shown_events}
use Rattle.run_plan.specs.Sound.{IsOver, IsTrap, Within}
use Rattle.plan_restore.specs.Kept.{planned}
use Rattle.act_refines.specs.Seen.{Seen, trace_seen}
use Rattle.code_cuts.specs.Lasting.{Lasts}
use Rattle.code_cuts.specs.Runs.{Cut, end_seen}
use Rattle.power_runs.specs.Due.{HaltsUnmarked}
use Rattle.power_runs.specs.Journals.{tells_in, tells_more}
use Rattle.timely_events.proofs.Early.{AreEarly, EndsBefore, as_long, boot_early, in_time, late_before, none_before}
use Rattle.timely_events.proofs.Fronts.{IsFront, AreLate, Rises, as_many, boot_front, boot_rises, few_shown, rest_late, weights_more}
use Rattle.timely_events.proofs.GoesOn.{boot_there, none_behind_trap, none_next, trap_at_end}
use Rattle.timely_events.proofs.Quiet.{task_told}
use Rattle.timely_events.proofs.Seen.{smalls_told}
use Rattle.timely_events.proofs.Standing.{SoundFrom, boot_sound, count, next_told}
use Rattle.timely_events.proofs.Tasks.{AreTold, boot_tasks, front_tasks, told_after}

module _ (c : Core) (world : World) (scheme : Scheme) where
  abbrev pub x : Planned
  x = planned c world scheme

  abbrev pub rules : Rules
  rules = rules_of c world

  -- ---- fronts

  front_taken : (k : ℕ) (front rest xs all : Smalls) → k ≡ length front → front ++ rest ≡ all → (h : IsFront k xs all) → (h.more ≡ []) ⊎ (k ≤ count x xs) → count x xs ≤ length xs → take k xs ≡ front
  front_taken k front rest xs all is whole h (inl none) few =
      ap (take k) (sym (append-nil xs) ∙ ap (λ (ys : Smalls). xs ++ ys) (sym none) ∙ h.whole ∙ sym whole) ∙ ap (λ j. take j (front ++ rest)) is ∙ take-append_seam front rest
  front_taken k front rest xs all is whole h (inr long) few =
      let far : k ≤ length xs = omega (arith, long, few) in
      sym (take-append-le k xs h.more far) ∙ ap (take k) (h.whole ∙ sym whole) ∙ ap (λ j. take j (front ++ rest)) is ∙ take-append_seam front rest

  -- a front of a boot's small steps is the boot cut behind as many
  pub front_cut : (n : ℕ) (s : State) (front rest : Smalls) → front ++ rest ≡ boot_run x n s → cut_run x (length front) s ≡ front
  front_cut n s front rest whole =
      let k : ℕ = length front in
      let more = boot_front c world scheme n (k + n) s (let few : n ≤ k + n = omega arith in few) in
      let all : front ++ (rest ++ more.more) ≡ boot_run x (k + n) s = sym (append_assoc front rest more.more) ∙ ap (λ ys. ys ++ more.more) whole ∙ more.whole in
      let h = boot_front c world scheme k (k + n) s (let few : k ≤ k + n = omega arith in few) in
      front_taken k front (rest ++ more.more) (boot_run x k s) (boot_run x (k + n) s) refl all h h.far (few_shown (boot_run x k s))

  -- ---- what a front tells

  -- its events are those of the rules, each within its steps, and behind them the same task is next
  pub record FrontTold (s : State) (st : Standing) (front : Smalls) : Type 0 where
    pub events : shown_events front ≡ events_in (cut_boot rules (count x front) st)
    pub weights : Within (event_weights front) (boot_costs rules scheme (count x front) st)
    pub next : (after s front).task ≡ (Boots.left_by rules (count x front) st).next

  pub front_told : (n : ℕ) (s : State) (st : Standing) (front rest : Smalls) → front ++ rest ≡ boot_run x n s → SoundFrom x s st → s.task ≡ st.next → FrontTold s st front
  front_told n s st front rest whole sound same =
      let here = boot_sound x (length front) s st sound in
      let cut = front_cut n s front rest whole in
      let events = subst (λ xs. shown_events xs ≡ events_in (cut_boot rules (count x xs) st)) cut here.events in
      record {
        events = events;
        weights = subst (λ xs. Within (event_weights xs) (boot_costs rules scheme (count x xs) st)) cut here.weights;
        next = told_after front s (front_tasks front rest s.task (subst (AreTold s.task) (sym whole) (boot_tasks x n s)))
            ∙ (λ i. task_told (events i) (same i)) ∙ sym (next_told rules (count x front) st);
      }

  -- ---- where the rules have no more

  none_left : (s : State) (st : Standing) (front : Smalls) → FrontTold s st front → (task_of c (after s front).task ≡ None) ⊎ EndsWith IsTrap (shown_events front) → length (boot_log rules (count x front + 1) st) ≤ count x front
  none_left s st front told (inl none) =
      let k : ℕ = count x front in
      let fewer : k ≤ k + 1 = omega arith in
      let ends : Boots.left_by rules k st ≡ Boots.after st (take k (boot_log rules (k + 1) st)) = ap (Boots.after st) (sym (longer_boot rules k (k + 1) st fewer)) in
      none_next c k (boot_log rules (k + 1) st) st (boot_there rules (k + 1) st) (ap (λ e. task_of c e.next) (sym ends) ∙ ap (task_of c) (sym told.next) ∙ none)
  none_left s st front told (inr trapped) =
      let k : ℕ = count x front in
      let fewer : k ≤ k + 1 = omega arith in
      none_behind_trap k (boot_log rules (k + 1) st) (boot_traps_last rules (k + 1) st) (subst (EndsWith IsTrap) (told.events ∙ ap events_in (sym (longer_boot rules k (k + 1) st fewer))) trapped)

  over_ends : (s : State) (xs : Smalls) → IsOver s xs → (task_of c (after s xs).task ≡ None) ⊎ EndsWith IsTrap (shown_events xs)
  over_ends s xs (inl none) = inl (ap (task_of c) none)
  over_ends s xs (inr trapped) = inr trapped

  -- all of a boot with fewer events than attempts is over
  all_over : (n : ℕ) (s : State) (st : Standing) → SoundFrom x s st → count x (boot_run x n s) < n → IsOver s (boot_run x n s)
  all_over n s st sound few = by (boot_sound x most s st sound).goes_on
    where
      most : ℕ
      most = suc (n + length (boot_run x n s))

      none : (h : IsFront n (boot_run x n s) (boot_run x most s)) → (h.more ≡ []) ⊎ (n ≤ count x (boot_run x n s)) → boot_run x n s ≡ boot_run x most s
      none h (inl same) = sym (append-nil (boot_run x n s)) ∙ ap (λ (ys : Smalls). boot_run x n s ++ ys) (sym same) ∙ h.whole
      none h (inr long) = absurd (omega (arith, few, long))

      same : boot_run x n s ≡ boot_run x most s
      same = let h = boot_front c world scheme n most s (omega arith) in none h h.far

      all : cut_run x most s ≡ boot_run x n s
      all = ap (take most) (sym same) ∙ take_all most (boot_run x n s) (omega arith)

      by : (length (cut_run x most s) ≡ most) ⊎ IsOver s (cut_run x most s) → IsOver s (boot_run x n s)
      by (inl long) = absurd (let e0 : length (boot_run x n s) ≡ most = ap length (sym all) ∙ long in omega (arith, e0))
      by (inr over) = subst (λ (ys : Smalls). IsOver s ys) all over

  -- ---- the boot's end

  module _ (p : Program) (place_of : ℕ → Place) (unmarked : HaltsUnmarked p) where
    abbrev pub Followed : (n many : ℕ) → Spot → State → Type 0
    Followed n many m s = Cut p place_of c scheme (Lasts p rules scheme) n 0 m s (boot_run x many s)

    -- what the rules would allow next is behind the boot's end
    abbrev Later : (before ends count : ℕ) → Standing → Type 0
    Later before ends k st = EndsBefore before ends k (boot_costs rules scheme k st)

    none_later : (before ends : ℕ) (s : State) (st : Standing) (front : Smalls) → FrontTold s st front → (task_of c (after s front).task ≡ None) ⊎ EndsWith IsTrap (shown_events front) → Later before ends (count x front) st
    none_later before ends s st front told over = none_before scheme before ends (count x front) (count x front + 1) (boot_log rules (count x front + 1) st) (none_left s st front told over)

    -- a machine that goes on at the boot's end: of more attempts than events, the act in progress shows the next event, or all is over
    goes_later : (before most ends many : ℕ) (m : Spot) (s : State) (st : Standing) → SoundFrom x s st → s.task ≡ st.next → (cut : Followed most many m s) → count x cut.front < many → ends ≡ before + most → Later before ends (count x cut.front) st
    goes_later before most ends many m s st sound next cut few at = by (event_weights cut.rest) refl
      where
        k : ℕ
        k = count x cut.front

        all : Smalls
        all = boot_run x many s

        split : event_weights all ≡ event_weights cut.front ++ event_weights cut.rest
        split = ap event_weights (sym cut.whole) ∙ weights_more cut.front cut.rest

        late : AreLate (suc most) (event_weights cut.rest)
        late =
            let e0 : 0 + most ≡ most = omega arith in
            subst (λ n. AreLate (suc n) (event_weights cut.rest)) e0 (rest_late cut.front cut.rest 64 (0 + most) (subst (λ xs. Rises 64 xs) (sym cut.whole) (boot_rises c world scheme many s)) cut.within)

        whole_told : FrontTold s st all
        whole_told = front_told many s st all [] (append-nil all) sound next

        counted : count x all ≡ k + length (event_weights cut.rest)
        counted =
            let e1 : length (event_weights all) ≡ length (event_weights cut.front) + length (event_weights cut.rest) = ap length split ∙ length-append (event_weights cut.front) (event_weights cut.rest) in
            let e2 : length (event_weights all) ≡ count x all = as_many all in
            let e3 : length (event_weights cut.front) ≡ k = as_many cut.front in
            omega (arith, e1, e2, e3)

        by : (ws : List ℕ) → event_weights cut.rest ≡ ws → Later before ends k st
        by [] is =
            let same : count x all ≡ k = let e0 : length (event_weights cut.rest) ≡ 0 = ap length is in omega (arith, counted, e0) in
            subst (λ j. Later before ends j st) same (none_later before ends s st all whole_told (over_ends s all (all_over many s st sound (omega (arith, same, few)))))
        by (v ∷ ws) is =
            let there : 1 ≤ length (event_weights cut.rest) = let e0 : length (event_weights cut.rest) ≡ suc (length ws) = ap length is in omega (arith, e0) in
            let far : k + 1 ≤ count x all + 1 = omega (arith, counted) in
            let log = longer_boot rules (k + 1) (count x all + 1) st far in
            let here = late_before scheme before ends (event_weights cut.front) (event_weights cut.rest) (suc most) (count x all + 1) (k + 1) (boot_log rules (count x all + 1) st)
            (subst (λ ws. Within ws (boot_costs rules scheme (count x all) st)) split whole_told.weights) late there (omega (arith, at)) in
            subst (λ j. EndsBefore before ends j (boot_costs rules scheme k st)) (as_many cut.front)
            (subst (λ (logged : Log). EndsBefore before ends (length (event_weights cut.front)) (map (λ l. l.steps scheme) logged)) log here)

    -- a machine that trapped has shown so
    trap_shown : (n code many : ℕ) (m : Spot) (s : State) (cut : Followed n many m s) → (exec p n (live m)).ending ≡ Trapped code → EndsWith IsTrap (shown_events cut.front)
    trap_shown n code many m s cut is =
        let shown : List Seen = trace_seen place_of (trace.trace p n (live m)) in
        let told : tells_in shown ++ traps code ∷ [] ≡ shown_events cut.front =
        sym (tells_more shown (end_seen (Trapped code))) ∙ ap (λ e. tells_in (shown ++ end_seen e)) (sym is) ∙ ap tells_in cut.shown ∙ smalls_told c scheme cut.front s in
        subst (EndsWith IsTrap) told (trap_at_end (tells_in shown) code)

    -- ---- a boot

    pub boot_in_time : (before most ends : ℕ) (m : Spot) (s : State) (st : Standing) → SoundFrom x s st → s.task ≡ st.next → ((n many : ℕ) → n ≤ most → n < many → Followed n many m s)
        → ((exec p most (live m)).ending ≡ Running → ends ≡ before + most)
        → AreInTime before ends (numbered place_of p before most (live m)) (boot_costs rules scheme (length (numbered place_of p before most (live m))) st)
    boot_in_time before most ends m s st sound next cuts at =
        subst (λ k. AreInTime before ends es (boot_costs rules scheme k st)) (sym counted)
        (in_time before ends es (event_weights cut.front) (event_weights cut.rest) (boot_costs rules scheme (count x cut.front) st) long
        (subst (AreEarly before es) (ap event_weights (sym cut.whole) ∙ weights_more cut.front cut.rest)
        (boot_early p place_of unmarked c scheme (Lasts p rules scheme) m s before 64 (boot_run x (suc most) s) (boot_rises c world scheme (suc most) s) most (λ n few. cuts n (suc most) few (omega (arith, few)))))
        told.weights (subst (λ k. EndsBefore before ends k (boot_costs rules scheme (count x cut.front) st)) (sym counted) (by (exec p most (live m)).ending refl)))
      where
        es : List (ℕ × JournalEvent)
        es = numbered place_of p before most (live m)

        cut : Followed most (suc most) m s
        cut = cuts most (suc most) (omega arith) (omega arith)

        told : FrontTold s st cut.front
        told = front_told (suc most) s st cut.front cut.rest cut.whole sound next

        long : length es ≡ length (event_weights cut.front)
        long = as_long p place_of unmarked c scheme (Lasts p rules scheme) m s before most (boot_run x (suc most) s) cut

        counted : length es ≡ count x cut.front
        counted = long ∙ as_many cut.front

        by : (e : Ending) → (exec p most (live m)).ending ≡ e → Later before ends (count x cut.front) st
        by Running is =
            let many : ℕ = suc (most + count x cut.front) in
            let next_cut : Followed most many m s = cuts most many (omega arith) (omega arith) in
            let same : count x next_cut.front ≡ count x cut.front =
            sym (as_many next_cut.front) ∙ sym (as_long p place_of unmarked c scheme (Lasts p rules scheme) m s before most (boot_run x many s) next_cut) ∙ counted in
            subst (λ k. Later before ends k st) same (goes_later before most ends many m s st sound next next_cut (omega (arith, same)) (at is))
        by Halted is = none_later before ends s st cut.front told (inl (cut.on is))
        by (Trapped code) is = none_later before ends s st cut.front told (inr (trap_shown most code (suc most) m s cut is))
