-- In each boot, step by step, the machine's commits are those of the plan's front; and so over all power rows.
use Rattle.std.specs.Prelude.{take, Option, Some, None}
use Rattle.std.proofs.Common.{◌≡◌, ◌∙◌, ℕ, zero, suc, ◌<◌, ◌≤◌, List, [], ◌∷◌, ◌++◌, length, refl, sym, ap, subst, append_assoc, append-nil, arith}
use Rattle.devices.specs.declared.event.Event.{Event}
use Rattle.devices.specs.declared.event.Event.TheVariants.{Begin, Look, Kept, Dropped, Issued, Sealed, Copied, Commit}
use Rattle.devices.specs.declared.world.World.{World}
use Rattle.devices.specs.Journal.{JournalEvent, Place, commits}
use Rattle.task_ast.specs.declared.core_form.Core.{Core}
use Rattle.walk_run.specs.declared.walked.State as walked
use Rattle.word_isa.specs.declared.parts.Scheme.{Scheme}
use Rattle.word_machine.specs.Events.{event_at, event_next}
use Rattle.word_machine.specs.State as machine
use Rattle.word_machine.specs.State.{Program}
use Rattle.word_machine.specs.Step.{exec, step}
use Rattle.word_machine.specs.Straight.{Spot, live}
use Rattle.word_machine.specs.Traces as trace
use Rattle.word_machine.specs.Traces.{seen, shows, writes_next}
use Rattle.word_machine.specs.declared.ending.Ending.{Ending}
use Rattle.word_machine.specs.declared.ending.Ending.TheVariants.{Running, Halted, Trapped}
use Rattle.run_plan.specs.Cells.{State}
use Rattle.run_plan.specs.Runs.{Planned, Smalls, after, boot_run, commit_states, committed_words, if_commit, shown_events}
use Rattle.act_refines.specs.Seen.{trace_seen}
use Rattle.code_cuts.specs.Lasting.{Lasts}
use Rattle.code_cuts.specs.Runs.{Cut, end_seen, shown_by}
use Rattle.plan_restore.specs.Kept.{planned}
use Rattle.power_runs.specs.Due.{HaltsUnmarked}
use Rattle.power_runs.specs.Journals.{seen_more, shown_of, step_told, tells_in, tells_more}
use Rattle.power_runs.specs.Quiet.{halt_quiet, trap_quiet}
use Rattle.sound_runs.specs.Committed.{AreCommitted, IsCommitted, commit_in, commits_in}
use Rattle.sound_runs.proofs.CommitsOn.{EndsBy, StaysThere, commit_stays, commits_next, committed_more, ends_by, front_ends, front_states, nexts, nexts_more, silent_states, states_more}
use Rattle.sound_runs.proofs.Ends.{CommitsEnd, boot_ends}
use Rattle.sound_runs.proofs.Longer.{front_more}
use Rattle.sound_runs.proofs.Shown.{smalls_told}

module _ (c : Core) (world : World) (scheme : Scheme) (p : Program) (place_of : ℕ → Place) (unmarked : HaltsUnmarked p) where
  abbrev x : Planned
  x = planned c world scheme

  abbrev pub Cuts : ℕ → Spot → State → Type 0
  Cuts n m s = Cut p place_of c scheme (Lasts p x.rules scheme) n 0 m s (boot_run x (suc n) s)

  -- what so many steps tell, but for a trap at the end
  abbrev Told : ℕ → Spot → List JournalEvent
  Told n m = tells_in (trace_seen place_of (trace.trace p n (live m)))

  -- ---- one step more

  exec_next : (n : ℕ) (e : machine.State) → exec p (suc n) e ≡ step p (exec p n e)
  unfolding exec
  exec_next zero e = refl
  exec_next (suc n) e = exec_next n (step p e)

  trace_next : (n : ℕ) (e : machine.State) → trace.trace p (suc n) e ≡ trace.trace p n e ++ seen p (exec p n e)
  unfolding exec trace.trace
  trace_next zero e = append-nil (seen p e)
  trace_next (suc n) e = ap (λ atoms. seen p e ++ atoms) (trace_next n (step p e)) ∙ sym (append_assoc (seen p e) (trace.trace p n (step p e)) (seen p (exec p n (step p e))))

  told_next : (n : ℕ) (m : Spot) → Told (suc n) m ≡ Told n m ++ shown_of place_of (event_next p (exec p n (live m)))
  told_next n m =
      ap (λ atoms. tells_in (trace_seen place_of atoms)) (trace_next n (live m))
      ∙ ap tells_in (seen_more place_of (trace.trace p n (live m)) (seen p (exec p n (live m))))
      ∙ tells_more (trace_seen place_of (trace.trace p n (live m))) (trace_seen place_of (seen p (exec p n (live m))))
      ∙ ap (λ es. Told n m ++ es) (step_told p place_of (exec p n (live m)))

  -- what is shown by then
  shown_told : (n : ℕ) (m : Spot) → tells_in (shown_by p place_of n m) ≡ Told n m ++ tells_in (end_seen (exec p n (live m)).ending)
  shown_told n m = tells_more (trace_seen place_of (trace.trace p n (live m))) (end_seen (exec p n (live m)).ending)

  no_next : (e : Ending) → nexts (tells_in (end_seen e)) ≡ []
  no_next Running = refl
  no_next Halted = refl
  no_next (Trapped code) = refl

  shown_nexts : (n : ℕ) (m : Spot) → nexts (tells_in (shown_by p place_of n m)) ≡ nexts (Told n m)
  shown_nexts n m =
      ap nexts (shown_told n m) ∙ nexts_more (Told n m) (tells_in (end_seen (exec p n (live m)).ending)) ∙ ap (λ ns. nexts (Told n m) ++ ns) (no_next (exec p n (live m)).ending) ∙ append-nil (nexts (Told n m))

  cut_told : (n : ℕ) (m : Spot) (s : State) (cut : Cuts n m s) → shown_events cut.front ≡ tells_in (shown_by p place_of n m)
  cut_told n m s cut = sym (smalls_told c scheme cut.front s) ∙ ap tells_in (sym cut.shown)

  -- fronts of one run with as many commits have the same
  same_states : (all f r g l : Smalls) → f ++ r ≡ all → g ++ l ≡ all → nexts (shown_events f) ≡ nexts (shown_events g) → commit_states x f ≡ commit_states x g
  same_states all f r g l one two same =
      front_states x f r ∙ (λ i. take (length (same i)) (commit_states x (one i))) ∙ sym (front_states x g l ∙ ap (λ ys. take (length (nexts (shown_events g))) (commit_states x ys)) two)

  -- a step that shows no commit
  quiet_step : (n : ℕ) (m : Spot) (s : State) (prev : Cuts n m s) (cut : Cuts (suc n) m s) (o : Option Event) → event_next p (exec p n (live m)) ≡ o → nexts (shown_of place_of o) ≡ []
      → commit_in o (step p (exec p n (live m))) ≡ [] → AreCommitted p x.rules scheme (commits_in p n (live m)) (commit_states x prev.front) → AreCommitted p x.rules scheme (commits_in p (suc n) (live m)) (commit_states x cut.front)
  quiet_step n m s prev cut o is none empty h =
      let e : machine.State = exec p n (live m) in
      let told : nexts (Told (suc n) m) ≡ nexts (Told n m) =
      ap nexts (told_next n m) ∙ nexts_more (Told n m) (shown_of place_of (event_next p e)) ∙ ap (λ ns. nexts (Told n m) ++ ns) (ap (λ o. nexts (shown_of place_of o)) is ∙ none) ∙ append-nil (nexts (Told n m)) in
      let same : nexts (shown_events cut.front) ≡ nexts (shown_events prev.front) =
      ap nexts (cut_told (suc n) m s cut) ∙ shown_nexts (suc n) m ∙ told ∙ sym (shown_nexts n m) ∙ ap nexts (sym (cut_told n m s prev)) in
      let more = front_more x (suc n) (suc (suc n)) s prev.front prev.rest (omega arith) prev.whole in
      let states : commit_states x cut.front ≡ commit_states x prev.front = same_states (boot_run x (suc (suc n)) s) cut.front cut.rest prev.front more.left cut.whole more.all same in
      let on : commits_in p (suc n) (live m) ≡ commits_in p n (live m) = commits_next p n (live m) ∙ ap (λ xs. commits_in p n (live m) ++ xs) (ap (λ o. commit_in o (step p e)) is ∙ empty) ∙ append-nil (commits_in p n (live m)) in
      subst (AreCommitted p x.rules scheme (commits_in p (suc n) (live m))) (sym states) (subst (λ xs. AreCommitted p x.rules scheme xs (commit_states x prev.front)) (sym on) h)

  -- ---- a step that shows one

  running_shows : (e : machine.State) (ev : Event) → event_next p e ≡ Some ev → e.ending ≡ Running
  unfolding event_next
  running_shows e ev is = by e.ending refl
    where
      by : (k : Ending) → e.ending ≡ k → e.ending ≡ Running
      by Running at_work = at_work
      by Halted at_work = absurd (let clash : None ≡ Some ev = sym (ap (λ k. event_at p k e) at_work) ∙ is in cc clash)
      by (Trapped code) at_work = absurd (let clash : None ≡ Some ev = sym (ap (λ k. event_at p k e) at_work) ∙ is in cc clash)

  goes_on_shows : (e : machine.State) (ev : Event) → event_next p e ≡ Some ev → (k : Ending) → (step p e).ending ≡ k → (step p e).ending ≡ Running
  goes_on_shows e ev is Running ends = ends
  goes_on_shows e ev is Halted ends = absurd (let clash : None ≡ Some ev = sym (halt_quiet p unmarked e (running_shows e ev is) ends) ∙ is in cc clash)
  goes_on_shows e ev is (Trapped code) ends = absurd (let clash : None ≡ Some ev = sym (trap_quiet p e code (running_shows e ev is) ends) ∙ is in cc clash)

  still_told : (n : ℕ) (m : Spot) → (exec p n (live m)).ending ≡ Running → tells_in (shown_by p place_of n m) ≡ Told n m
  still_told n m on = shown_told n m ∙ ap (λ k. Told n m ++ tells_in (end_seen k)) on ∙ append-nil (Told n m)

  commit_step : (n : ℕ) (m : Spot) (s : State) (prev : Cuts n m s) (cut : Cuts (suc n) m s) (next : ℕ) → event_next p (exec p n (live m)) ≡ Some (Commit next)
      → AreCommitted p x.rules scheme (commits_in p n (live m)) (commit_states x prev.front) → AreCommitted p x.rules scheme (commits_in p (suc n) (live m)) (commit_states x cut.front)
  commit_step n m s prev cut next is h =
      let e : machine.State = exec p n (live m) in
      let to : exec p (suc n) (live m) ≡ step p e = exec_next n (live m) in
      let on : e.ending ≡ Running = running_shows e (Commit next) is in
      let still : (exec p (suc n) (live m)).ending ≡ Running = ap (λ k. k.ending) to ∙ goes_on_shows e (Commit next) is (step p e).ending refl in
      let before : shown_events prev.front ≡ Told n m = cut_told n m s prev ∙ still_told n m on in
      let shown : shown_events cut.front ≡ Told n m ++ commits next ∷ [] = cut_told (suc n) m s cut ∙ still_told (suc n) m still ∙ told_next n m ∙ ap (λ o. Told n m ++ shown_of place_of o) is in
      let last : EndsBy (commits next) (Told n m) cut.front = ends_by (commits next) (Told n m) cut.front shown in
      let ends : CommitsEnd cut.front = front_ends cut.front cut.rest (subst CommitsEnd (sym cut.whole) (boot_ends c world scheme (suc (suc n)) s)) in
      let stays : StaysThere next s last.last last.front last.behind = commit_stays next s last.last last.front last.behind last.event (subst CommitsEnd (sym last.whole) ends) last.quiet in
      let more = front_more x (suc n) (suc (suc n)) s prev.front prev.rest (omega arith) prev.whole in
      let split : last.front ++ (last.last ∷ last.behind ++ cut.rest) ≡ boot_run x (suc (suc n)) s = sym (append_assoc last.front (last.last ∷ last.behind) cut.rest) ∙ ap (λ ys. ys ++ cut.rest) last.whole ∙ cut.whole in
      let states : commit_states x last.front ≡ commit_states x prev.front =
      same_states (boot_run x (suc (suc n)) s) last.front (last.last ∷ last.behind ++ cut.rest) prev.front more.left split more.all (ap nexts (last.shown ∙ sym before)) in
      let w : walked.State = record { next = last.last.after.task; words = committed_words scheme c last.last.after } in
      let one : commit_states x (last.last ∷ last.behind) ≡ w ∷ [] = ap (λ o. if_commit o w (commit_states x last.behind)) last.event ∙ ap (λ ss. w ∷ ss) (silent_states x last.behind last.quiet) in
      let all : commit_states x cut.front ≡ commit_states x prev.front ++ w ∷ [] =
      ap (commit_states x) (sym last.whole) ∙ states_more x last.front (last.last ∷ last.behind) ∙ (λ i. states i ++ one i) in
      let here : IsCommitted p x.rules scheme next (step p e) w = record {
        told = stays.task;
        state = after s cut.front;
        lasts = subst (λ k. Lasts p x.rules scheme k (after s cut.front)) to cut.stood;
        words = ap (committed_words scheme c) (ap (after s) (sym last.whole) ∙ stays.same);
      } in
      let commits_are : commits_in p (suc n) (live m) ≡ commits_in p n (live m) ++ (next, step p e) ∷ [] = commits_next p n (live m) ∙ ap (λ o. commits_in p n (live m) ++ commit_in o (step p e)) is in
      subst (AreCommitted p x.rules scheme (commits_in p (suc n) (live m))) (sym all)
      (subst (λ xs. AreCommitted p x.rules scheme xs (commit_states x prev.front ++ w ∷ [])) (sym commits_are)
      (committed_more p x.rules scheme (commits_in p n (live m)) ((next, step p e) ∷ []) (commit_states x prev.front) (w ∷ []) h (here, tt)))

  any_step : (n : ℕ) (m : Spot) (s : State) (prev : Cuts n m s) (cut : Cuts (suc n) m s) (o : Option Event) → event_next p (exec p n (live m)) ≡ o
      → AreCommitted p x.rules scheme (commits_in p n (live m)) (commit_states x prev.front) → AreCommitted p x.rules scheme (commits_in p (suc n) (live m)) (commit_states x cut.front)
  any_step n m s prev cut None is h = quiet_step n m s prev cut None is refl refl h
  any_step n m s prev cut (Some (Begin task)) is h = quiet_step n m s prev cut (Some (Begin task)) is refl refl h
  any_step n m s prev cut (Some (Look site time)) is h = quiet_step n m s prev cut (Some (Look site time)) is refl refl h
  any_step n m s prev cut (Some (Kept site value)) is h = quiet_step n m s prev cut (Some (Kept site value)) is refl refl h
  any_step n m s prev cut (Some (Dropped site)) is h = quiet_step n m s prev cut (Some (Dropped site)) is refl refl h
  any_step n m s prev cut (Some (Issued site q args reading)) is h = quiet_step n m s prev cut (Some (Issued site q args reading)) is refl refl h
  any_step n m s prev cut (Some (Sealed site)) is h = quiet_step n m s prev cut (Some (Sealed site)) is refl refl h
  any_step n m s prev cut (Some (Copied site from to words)) is h = quiet_step n m s prev cut (Some (Copied site from to words)) is refl refl h
  any_step n m s prev cut (Some (Commit next)) is h = commit_step n m s prev cut next is h

  -- ---- a boot

  first_cut : (m : Spot) (s : State) (cut : Cuts 0 m s) → AreCommitted p x.rules scheme (commits_in p 0 (live m)) (commit_states x cut.front)
  unfolding commits_in trace.trace exec
  first_cut m s cut = subst (AreCommitted p x.rules scheme []) (sym (silent_states x cut.front (cut_told 0 m s cut))) tt

  pub boot_commits : (most : ℕ) (m : Spot) (s : State) → ((n : ℕ) → n < most → Cuts n m s) → (n : ℕ) → n ≤ most → (cut : Cuts n m s) → AreCommitted p x.rules scheme (commits_in p n (live m)) (commit_states x cut.front)
  boot_commits most m s cuts zero few cut = first_cut m s cut
  boot_commits most m s cuts (suc n) few cut =
      let prev : Cuts n m s = cuts n (omega (arith, few)) in
      any_step n m s prev cut (event_next p (exec p n (live m))) refl (boot_commits most m s cuts n (omega (arith, few)) prev)
