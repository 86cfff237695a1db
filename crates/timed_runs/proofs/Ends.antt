-- A machine halts only where no task is next, and where none is it halts in time.
use Rattle.std.specs.Prelude.{◌⊎◌, nat_lt, nat_le, length, slice_get, if◌then◌else◌}
use Rattle.std.proofs.Common.{◌≡◌, ◌∙◌, ℕ, zero, suc, ◌+◌, ◌-◌, ◌<◌, ◌≤◌, inl, inr, Bool, true, false, List, [], ◌∷◌, ◌++◌, map, Option, Some, None, refl, sym, ap, subst, arith}
use Rattle.std.proofs.lemmas.Bool.Decides.{nat_tests}
use Rattle.devices.specs.Journal.{Boot, JournalEvent, Place, begins, looks, keeps, drops, issues, seals, copies, commits, traps, placed}
use Rattle.devices.specs.declared.event.Event.{Event}
use Rattle.devices.specs.declared.event.Event.TheVariants as the
use Rattle.devices.specs.declared.event.RunEnd.{RunEnd}
use Rattle.devices.specs.declared.event.RunEnd.TheVariants as run
use Rattle.devices.specs.declared.world.PowerRow.{PowerRow}
use Rattle.task_ast.specs.declared.core_form.Core.{Core}
use Rattle.task_attempts.specs.Boots.{task_of}
use Rattle.task_attempts.specs.Sound.{AllEndWell, EndsWell, Reached, reached, reached_by}
use Rattle.word_machine.specs.Events.{event_next, stepped_next, told}
use Rattle.word_machine.specs.RunLaws.{exec_more, stays_halted, stays_trapped}
use Rattle.word_machine.specs.Runs.{boots, end_of, fail_behind, fail_behind_at, is_running, journal_event, last_ending, numbered, steps_done, told_event, total_steps}
use Rattle.word_machine.specs.State as machine
use Rattle.word_machine.specs.State.{Program}
use Rattle.word_machine.specs.Step.{exec, fail_at, step, step_at}
use Rattle.word_machine.specs.Straight.{Spot, live}
use Rattle.word_machine.specs.Traces as trace
use Rattle.word_machine.specs.declared.ending.Ending.{Ending}
use Rattle.word_machine.specs.declared.ending.Ending.TheVariants.{Running, Halted, Trapped}
use Rattle.run_plan.specs.Cells as cells
use Rattle.run_plan.specs.Cells.{State}
use Rattle.run_plan.specs.Runs.{Planned, after, boot_run}
use Rattle.act_refines.specs.Seen.{Seen, puts, tells, trace_seen}
use Rattle.code_cuts.specs.Boots.{RunsPlan}
use Rattle.code_cuts.specs.Lasting.{Lasts, task_behind, task_by}
use Rattle.code_cuts.specs.Runs.{Cut, end_seen, shown_by, smalls_seen}
use Rattle.power_runs.specs.Due.{FailsWell, HaltsUnmarked}
use Rattle.power_runs.specs.Followed.{AreFollowed, begun_again}
use Rattle.power_runs.specs.Journals.{events_seen, fails_live, tells_in, unnumbered}

-- ---- the task that is next, by the events

abbrev next_told : List JournalEvent → ℕ → ℕ
next_told [] task = task
next_told (e ∷ es) task = next_told es (task_by e task)

behind_told : (seen : List Seen) (task : ℕ) → task_behind seen task ≡ next_told (tells_in seen) task
behind_told [] task = refl
behind_told (puts at word ∷ seen) task = behind_told seen task
behind_told (tells e ∷ seen) task = behind_told seen (task_by e task)

one_reached : (r : Reached) (number : ℕ) (e : JournalEvent) → (reached_by r (number, e)).next ≡ task_by e r.next
one_reached r number (begins t) = refl
one_reached r number (looks k t) = refl
one_reached r number (keeps k value) = refl
one_reached r number (drops k) = refl
one_reached r number (issues k q args reading) = refl
one_reached r number (seals k) = refl
one_reached r number (copies k from to n) = refl
one_reached r number (commits next) = refl
one_reached r number (traps code) = refl

reached_told : (r : Reached) (es : List (ℕ × JournalEvent)) → (reached r es).next ≡ next_told (unnumbered es) r.next
reached_told r [] = refl
reached_told r (e ∷ es) = reached_told (reached_by r e) es ∙ ap (next_told (unnumbered es)) (one_reached r e.0 e.1)

reached_more : (r : Reached) (a b : List (ℕ × JournalEvent)) → reached r (a ++ b) ≡ reached (reached r a) b
reached_more r [] b = refl
reached_more r (e ∷ a) b = reached_more (reached_by r e) a b

-- ---- when it was told that none is next

-- it was so before, or a commit told it behind so many steps
record Stops (p : Program) (before n : ℕ) (e : machine.State) (since : ℕ) : Type 0 where
  at : ℕ
  early : at < n
  on : (exec p at e).ending ≡ Running
  commits : event_next p (exec p at e) ≡ Some (the.Commit 0)
  told : since ≡ suc (before + at)

abbrev SinceWhen : (p : Program) (before n : ℕ) (e : machine.State) (r after : Reached) → Type 0
SinceWhen p before n e r after = ((after.since ≡ r.since) × (r.next ≡ 0)) ⊎ Stops p before n e after.since

-- of one step: what was reached is as before, or the step commits
abbrev StepTells : (p : Program) (before : ℕ) (e : machine.State) (r after : Reached) → Type 0
StepTells p before e r after = (after.next ≡ 0) → ((after.since ≡ r.since) × (r.next ≡ 0)) ⊎ ((e.ending ≡ Running) × (event_next p e ≡ Some (the.Commit 0)) × (after.since ≡ suc before))

event_tells : (place_of : ℕ → Place) (p : Program) (before : ℕ) (e : machine.State) (r : Reached) → e.ending ≡ Running → (x : Event) → event_next p e ≡ Some x
    → StepTells p before e r (reached_by r (suc before, placed place_of x))
event_tells place_of p before e r on (the.Begin task) is none = inl (refl, none)
event_tells place_of p before e r on (the.Look site time) is none = inl (refl, none)
event_tells place_of p before e r on (the.Kept site value) is none = inl (refl, none)
event_tells place_of p before e r on (the.Dropped site) is none = inl (refl, none)
event_tells place_of p before e r on (the.Issued site q args reading) is none = inl (refl, none)
event_tells place_of p before e r on (the.Sealed site) is none = inl (refl, none)
event_tells place_of p before e r on (the.Copied site from to words) is none = inl (refl, none)
event_tells place_of p before e r on (the.Commit next) is none = inr (on, is ∙ ap (λ n. Some (the.Commit n)) none, refl)

told_tells : (place_of : ℕ → Place) (p : Program) (before : ℕ) (e : machine.State) (r : Reached) → e.ending ≡ Running → (ending : Ending) (o : Option Event) → event_next p e ≡ o
    → StepTells p before e r (reached r (map (λ x. (suc before, x)) (told_event place_of (told ending o))))
told_tells place_of p before e r on Running None is none = inl (refl, none)
told_tells place_of p before e r on Running (Some x) is none = event_tells place_of p before e r on x is none
told_tells place_of p before e r on Halted o is none = inl (refl, none)
told_tells place_of p before e r on (Trapped code) o is none = inl (refl, none)

step_tells : (place_of : ℕ → Place) (p : Program) (before : ℕ) (e : machine.State) (r : Reached) → StepTells p before e r (reached r (map (λ x. (suc before, x)) (journal_event place_of p e)))
unfolding stepped_next
step_tells place_of p before e r = by e.ending refl
  where
    by : (ending : Ending) → e.ending ≡ ending → StepTells p before e r (reached r (map (λ x. (suc before, x)) (if is_running ending then told_event place_of (stepped_next p e) else [])))
    by Running is = told_tells place_of p before e r is (step p e).ending (event_next p e) refl
    by Halted is = λ none. inl (refl, none)
    by (Trapped code) is = λ none. inl (refl, none)

since_when : (place_of : ℕ → Place) (p : Program) (before n : ℕ) (e : machine.State) (r : Reached) → (reached r (numbered place_of p before n e)).next ≡ 0 → SinceWhen p before n e r (reached r (numbered place_of p before n e))
unfolding numbered exec
since_when place_of p before zero e r none = inl (refl, none)
since_when place_of p before (suc n) e r none = subst (SinceWhen p before (suc n) e r) (sym split) (by_rest (since_when place_of p (suc before) n (step p e) one (sym (ap (λ x. x.next) split) ∙ none)))
  where
    one : Reached
    one = reached r (map (λ x. (suc before, x)) (journal_event place_of p e))

    split : reached r (map (λ x. (suc before, x)) (journal_event place_of p e) ++ numbered place_of p (suc before) n (step p e)) ≡ reached one (numbered place_of p (suc before) n (step p e))
    split = reached_more r (map (λ x. (suc before, x)) (journal_event place_of p e)) (numbered place_of p (suc before) n (step p e))

    by_first : (since : ℕ) → since ≡ one.since → ((one.since ≡ r.since) × (r.next ≡ 0)) ⊎ ((e.ending ≡ Running) × (event_next p e ≡ Some (the.Commit 0)) × (one.since ≡ suc before))
        → ((since ≡ r.since) × (r.next ≡ 0)) ⊎ Stops p before (suc n) e since
    by_first since is (inl h) = inl (is ∙ h.0, h.1)
    by_first since is (inr h) = inr (record { at = 0; early = omega arith; on = h.0; commits = h.1; told = omega (arith, is, h.2) })

    by_rest : SinceWhen p (suc before) n (step p e) one (reached one (numbered place_of p (suc before) n (step p e))) → SinceWhen p before (suc n) e r (reached one (numbered place_of p (suc before) n (step p e)))
    by_rest (inl h) = by_first (reached one (numbered place_of p (suc before) n (step p e))).since h.0 (step_tells place_of p before e r h.1)
    by_rest (inr h) = inr (record { at = suc h.at; early = omega (arith, h.early); on = h.on; commits = h.commits; told = omega (arith, h.told) })

-- ---- by when it has halted

-- so many steps from a boot's beginning the machine has halted, not long behind when none was next
record HaltsBy (p : Program) (before : ℕ) (e : machine.State) (since : ℕ) : Type 0 where
  by : ℕ
  halted : (exec p by e).ending ≡ Halted
  soon : before + by ≤ since + 64

is_none : (c : Core) (task : ℕ) → task_of c task ≡ None → task ≤ length c.tasks → task ≡ 0
is_none c zero none there = refl
is_none c (suc n) none there = absurd (missing c.tasks n none (omega (arith, there)))
  where
    missing : {A : Type 0} (xs : List A) (i : ℕ) → slice_get xs i ≡ None → i < length xs → ⊥
    missing [] i is less = omega (arith, less)
    missing (x ∷ xs) zero is less = cc is
    missing (x ∷ xs) (suc i) is less = missing xs i is (omega (arith, less))

module _ (p : Program) (place_of : ℕ → Place) (x : Planned) (plan : RunsPlan p place_of x) where
  halts_by : (before n : ℕ) (m : Spot) (s : State) → m.pc ≡ 0 → Lasts p x.rules x.plan.scheme (live m) s
      → let r = reached (record { next = s.task; since = before }) (numbered place_of p before n (live m)) in r.next ≡ 0 → HaltsBy p before (live m) r.since
  halts_by before n m s pc lasts none = by (since_when place_of p before n (live m) (record { next = s.task; since = before }) none)
    where
      r : Reached
      r = reached (record { next = s.task; since = before }) (numbered place_of p before n (live m))

      by : SinceWhen p before n (live m) (record { next = s.task; since = before }) r → HaltsBy p before (live m) r.since
      by (inl h) = record { by = 64; halted = plan.none m s pc lasts h.1; soon = omega (arith, h.0) }
      by (inr h) = record {
        by = h.at + 33;
        halted = ap (λ t. t.ending) (exec_more p h.at 33 (live m)) ∙ plan.stops (exec p h.at (live m)) h.on h.commits;
        soon = omega (arith, h.told);
      }

-- a machine that still goes on hasn't come so far, and one that trapped never halts
later : (p : Program) (few many : ℕ) (e : machine.State) → few ≤ many → exec p many e ≡ exec p (many - few) (exec p few e)
later p few many e less = let whole : many ≡ few + (many - few) = omega (arith, less) in ap (λ j. exec p j e) whole ∙ exec_more p few (many - few) e

still_early : (p : Program) (n by : ℕ) (e : machine.State) → (exec p n e).ending ≡ Running → (exec p by e).ending ≡ Halted → n < by
still_early p n by e on halted = at (nat_lt n by) refl
  where
    at : (b : Bool) → nat_lt n by ≡ b → n < by
    at true is = grind (arith, nat_tests, is)
    at false is =
        let far : by ≤ n = grind (arith, nat_tests, is) in
        let ended : (exec p n e).ending ≡ Halted = ap (λ t. t.ending) (later p by n e far ∙ stays_halted p (n - by) (exec p by e) halted) ∙ halted in
        let clash : Running ≡ Halted = sym on ∙ ended in
        absurd (cc clash)

never_both : (p : Program) (n by code : ℕ) (e : machine.State) → (exec p n e).ending ≡ Trapped code → (exec p by e).ending ≡ Halted → ⊥
never_both p n by code e trapped halted = at (nat_le n by) refl
  where
    at : (b : Bool) → nat_le n by ≡ b → ⊥
    at true is =
        let far : n ≤ by = grind (arith, nat_tests, is) in
        let ended : (exec p by e).ending ≡ Trapped code = ap (λ t. t.ending) (later p n by e far ∙ stays_trapped p (by - n) code (exec p n e) trapped) ∙ trapped in
        let clash : Halted ≡ Trapped code = sym halted ∙ ended in
        cc clash
    at false is =
        let far : by ≤ n = grind (arith, nat_tests, is) in
        let ended : (exec p n e).ending ≡ Halted = ap (λ t. t.ending) (later p by n e far ∙ stays_halted p (n - by) (exec p by e) halted) ∙ halted in
        let clash : Halted ≡ Trapped code = sym ended ∙ trapped in
        cc clash

-- ---- the steps that are done

steps_running : (p : Program) (n : ℕ) (e : machine.State) → (exec p n e).ending ≡ Running → steps_done p n e ≡ n
unfolding steps_done exec step
steps_running p zero e on = refl
steps_running p (suc n) e on = by e.ending refl (steps_running p n (step p e) on)
  where
    by : (ending : Ending) → e.ending ≡ ending → steps_done p n (step p e) ≡ n → (if is_running ending then suc (steps_done p n (step p e)) else 0) ≡ suc n
    by Running is rest = ap suc rest
    by Halted is rest = let ended : (exec p (suc n) e).ending ≡ Halted = ap (λ t. t.ending) (stays_halted p (suc n) e is) ∙ is in let clash : Running ≡ Halted = sym on ∙ ended in absurd (cc clash)
    by (Trapped code) is rest =
        let ended : (exec p (suc n) e).ending ≡ Trapped code = ap (λ t. t.ending) (stays_trapped p (suc n) code e is) ∙ is in
        let clash : Running ≡ Trapped code = sym on ∙ ended in
        absurd (cc clash)

-- no more than until it has halted
steps_halted : (p : Program) (n by : ℕ) (e : machine.State) → (exec p by e).ending ≡ Halted → steps_done p n e ≤ by
unfolding steps_done exec
steps_halted p zero by e halted = omega arith
steps_halted p (suc n) by e halted = at e.ending refl (λ k h. steps_halted p n k (step p e) h) by halted
  where
    at : (ending : Ending) → e.ending ≡ ending → ((k : ℕ) → (exec p k (step p e)).ending ≡ Halted → steps_done p n (step p e) ≤ k) → (k : ℕ) → (exec p k e).ending ≡ Halted → (if is_running ending then suc (steps_done p n (step p e)) else 0) ≤ k
    at Running is rest zero h = let clash : Running ≡ Halted = sym is ∙ h in absurd (cc clash)
    at Running is rest (suc k) h = omega (arith, rest k h)
    at Halted is rest k h = omega arith
    at (Trapped code) is rest k h = omega arith

none_halted : (p : Program) (n : ℕ) (e : machine.State) → e.ending ≡ Halted → steps_done p n e ≡ 0
unfolding steps_done
none_halted p zero e is = refl
none_halted p (suc n) e is = ap (λ k. if is_running k then suc (steps_done p n (step p e)) else 0) is

none_trapped : (p : Program) (n code : ℕ) (e : machine.State) → e.ending ≡ Trapped code → steps_done p n e ≡ 0
unfolding steps_done
none_trapped p zero code e is = refl
none_trapped p (suc n) code e is = ap (λ k. if is_running k then suc (steps_done p n (step p e)) else 0) is

halted_behind : (p : Program) (row : PowerRow) (e : machine.State) → e.ending ≡ Halted → fail_behind row (exec p row.on e) ≡ e
halted_behind p row e is = ap (fail_behind row) (stays_halted p row.on e is) ∙ ap (λ k. fail_behind_at k row e) is

trapped_behind : (p : Program) (row : PowerRow) (code : ℕ) (e : machine.State) → e.ending ≡ Trapped code → fail_behind row (exec p row.on e) ≡ e
trapped_behind p row code e is = ap (fail_behind row) (stays_trapped p row.on code e is) ∙ ap (λ k. fail_behind_at k row e) is

halted_total : (p : Program) (rows : List PowerRow) (e : machine.State) → e.ending ≡ Halted → (total_steps p rows e ≡ 0) × (last_ending p rows e ≡ Halted)
unfolding total_steps last_ending
halted_total p [] e is = (refl, is)
halted_total p (row ∷ rows) e is =
    let behind : fail_behind row (exec p row.on e) ≡ e = halted_behind p row e is in
    let rest = halted_total p rows e is in
    let none : total_steps p rows (fail_behind row (exec p row.on e)) ≡ 0 = ap (total_steps p rows) behind ∙ rest.0 in
    (omega (arith, none_halted p row.on e is, none), ap (last_ending p rows) behind ∙ rest.1)

trapped_total : (p : Program) (rows : List PowerRow) (code : ℕ) (e : machine.State) → e.ending ≡ Trapped code → (total_steps p rows e ≡ 0) × (last_ending p rows e ≡ Trapped code)
unfolding total_steps last_ending
trapped_total p [] code e is = (refl, is)
trapped_total p (row ∷ rows) code e is =
    let behind : fail_behind row (exec p row.on e) ≡ e = trapped_behind p row code e is in
    let rest = trapped_total p rows code e is in
    let none : total_steps p rows (fail_behind row (exec p row.on e)) ≡ 0 = ap (total_steps p rows) behind ∙ rest.0 in
    (omega (arith, none_trapped p row.on code e is, none), ap (last_ending p rows) behind ∙ rest.1)

-- ---- one boot

module _ (p : Program) (place_of : ℕ → Place) (x : Planned) (plan : RunsPlan p place_of x) (unmarked : HaltsUnmarked p) where
  -- what was reached at a boot's end
  abbrev came : (before n : ℕ) → Spot → State → Reached
  came before n m s = reached (record { next = s.task; since = before }) (numbered place_of p before n (live m))

  abbrev Followed : (n : ℕ) → Spot → State → Type 0
  Followed n m s = Cut p place_of x.rules.core x.plan.scheme (Lasts p x.rules x.plan.scheme) n 0 m s (boot_run x (suc n) s)

  -- the plan's next task is the one that was told
  next_is : (before n : ℕ) (m : Spot) (s : State) (cut : Followed n m s) → (came before n m s).next ≡ (after s cut.front).task
  next_is before n m s cut =
      reached_told (record { next = s.task; since = before }) (numbered place_of p before n (live m)) ∙ ap (λ (es : List JournalEvent). next_told es s.task) (events_seen p place_of unmarked before n (live m) refl)
      ∙ sym (behind_told (shown_by p place_of n m) s.task) ∙ ap (λ (seen : List Seen). task_behind seen s.task) cut.shown ∙ sym cut.near.task

  -- a boot that its power ends
  power_ends : (before n : ℕ) (m : Spot) (s : State) → m.pc ≡ 0 → Lasts p x.rules x.plan.scheme (live m) s → (exec p n (live m)).ending ≡ Running
      → (next : ℕ) → (came before n m s).next ≡ next → EndsWell next (came before n m s).since (before + n) run.Power
  power_ends before n m s pc lasts on zero is =
      let h = halts_by p place_of x plan before n m s pc lasts is in
      let early : n < h.by = still_early p n h.by (live m) on h.halted in
      omega (arith, early, h.soon)
  power_ends before n m s pc lasts on (suc next) is = tt

  -- one that halts
  halt_ends : (before n : ℕ) (m : Spot) (s : State) → m.pc ≡ 0 → Lasts p x.rules x.plan.scheme (live m) s → s.task ≤ length x.rules.core.tasks → (cut : Followed n m s) → (exec p n (live m)).ending ≡ Halted
      → (next : ℕ) → (came before n m s).next ≡ next → EndsWell next (came before n m s).since (before + steps_done p n (live m)) run.Halted
  halt_ends before n m s pc lasts there cut halted zero is =
      let h = halts_by p place_of x plan before n m s pc lasts is in
      omega (arith, steps_halted p n h.by (live m) h.halted, h.soon)
  halt_ends before n m s pc lasts there cut halted (suc next) is =
      let none : (after s cut.front).task ≡ 0 = is_none x.rules.core (after s cut.front).task (cut.on halted) (cut.near.there there) in
      let next_of : (came before n m s).next ≡ (after s cut.front).task = next_is before n m s cut in
      absurd (omega (arith, is, none, next_of))

  -- and one that traps
  trap_ends : (before n code : ℕ) (m : Spot) (s : State) → m.pc ≡ 0 → Lasts p x.rules x.plan.scheme (live m) s → (exec p n (live m)).ending ≡ Trapped code → (ends : ℕ)
      → (next : ℕ) → (came before n m s).next ≡ next → EndsWell next (came before n m s).since ends (run.Trapped code)
  trap_ends before n code m s pc lasts trapped ends zero is =
      let h = halts_by p place_of x plan before n m s pc lasts is in
      never_both p n h.by code (live m) trapped h.halted
  trap_ends before n code m s pc lasts trapped ends (suc next) is = tt

  -- ---- all boots

  -- a boot in which the machine ended is the last
  last_boot : (rows : List PowerRow) (row : PowerRow) (before : ℕ) (m : Spot) (s : State) → m.pc ≡ 0 → Lasts p x.rules x.plan.scheme (live m) s → s.task ≤ length x.rules.core.tasks → (cut : Followed row.on m s)
      → (ending : Ending) → (exec p row.on (live m)).ending ≡ ending → (ending ≡ Running → rows ≡ [])
      → EndsWell (came before row.on m s).next (came before row.on m s).since (before + total_steps p (row ∷ rows) (live m)) (end_of (last_ending p (row ∷ rows) (live m)))
  unfolding total_steps last_ending
  last_boot rows row before m s pc lasts there cut Running is last =
      let behind : (fail_behind row (exec p row.on (live m))).ending ≡ Running = ap (λ k. k.ending) (fails_live row (exec p row.on (live m)) is) in
      let done : steps_done p row.on (live m) ≡ row.on = steps_running p row.on (live m) is in
      let steps : total_steps p rows (fail_behind row (exec p row.on (live m))) ≡ 0 = ap (λ (r : List PowerRow). total_steps p r (fail_behind row (exec p row.on (live m)))) (last refl) in
      let ends : before + row.on ≡ before + (steps_done p row.on (live m) + total_steps p rows (fail_behind row (exec p row.on (live m)))) = omega (arith, done, steps) in
      let how : last_ending p rows (fail_behind row (exec p row.on (live m))) ≡ Running = ap (λ (r : List PowerRow). last_ending p r (fail_behind row (exec p row.on (live m)))) (last refl) ∙ behind in
      subst (λ k. EndsWell (came before row.on m s).next (came before row.on m s).since k (end_of (last_ending p rows (fail_behind row (exec p row.on (live m)))))) ends
      (subst (λ k. EndsWell (came before row.on m s).next (came before row.on m s).since (before + row.on) (end_of k)) (sym how) (power_ends before row.on m s pc lasts is (came before row.on m s).next refl))
  last_boot rows row before m s pc lasts there cut Halted is last =
      let stays : fail_behind row (exec p row.on (live m)) ≡ exec p row.on (live m) = ap (λ k. fail_behind_at k row (exec p row.on (live m))) is in
      let rest = halted_total p rows (exec p row.on (live m)) is in
      let steps : total_steps p rows (fail_behind row (exec p row.on (live m))) ≡ 0 = ap (total_steps p rows) stays ∙ rest.0 in
      let ends : before + steps_done p row.on (live m) ≡ before + (steps_done p row.on (live m) + total_steps p rows (fail_behind row (exec p row.on (live m)))) = omega (arith, steps) in
      let how : last_ending p rows (fail_behind row (exec p row.on (live m))) ≡ Halted = ap (last_ending p rows) stays ∙ rest.1 in
      subst (λ k. EndsWell (came before row.on m s).next (came before row.on m s).since k (end_of (last_ending p rows (fail_behind row (exec p row.on (live m)))))) ends
      (subst (λ k. EndsWell (came before row.on m s).next (came before row.on m s).since (before + steps_done p row.on (live m)) (end_of k)) (sym how)
      (halt_ends before row.on m s pc lasts there cut is (came before row.on m s).next refl))
  last_boot rows row before m s pc lasts there cut (Trapped code) is last =
      let stays : fail_behind row (exec p row.on (live m)) ≡ exec p row.on (live m) = ap (λ k. fail_behind_at k row (exec p row.on (live m))) is in
      let rest = trapped_total p rows code (exec p row.on (live m)) is in
      let how : last_ending p rows (fail_behind row (exec p row.on (live m))) ≡ Trapped code = ap (last_ending p rows) stays ∙ rest.1 in
      subst (λ k. EndsWell (came before row.on m s).next (came before row.on m s).since (before + (steps_done p row.on (live m) + total_steps p rows (fail_behind row (exec p row.on (live m))))) (end_of k)) (sym how)
      (trap_ends before row.on code m s pc lasts is (before + (steps_done p row.on (live m) + total_steps p rows (fail_behind row (exec p row.on (live m))))) (came before row.on m s).next refl)

  -- a boot behind which nothing comes, either way
  alone : (again : Bool) (next ends : ℕ) (b : Boot) (how : RunEnd) → let r = reached (record { next = next; since = b.begun_at }) b.events in EndsWell r.next r.since ends how
      → AllEndWell next ends (b ∷ (if again then [] else [])) how
  alone true next ends b how h = h
  alone false next ends b how h = h

  abbrev Goal : (row next : PowerRow) (rows : List PowerRow) (before : ℕ) → Spot → State → Bool → machine.State → Type 0
  Goal row next rows before m s again e =
      AllEndWell s.task (before + (steps_done p row.on (live m) + total_steps p (next ∷ rows) e))
      (record { begun_at = before; events = numbered place_of p before row.on (live m) } ∷ (if again then boots place_of p (next ∷ rows) (before + row.on) e else [])) (end_of (last_ending p (next ∷ rows) e))

  -- a boot behind which another comes
  two_boots : (row next : PowerRow) (rows : List PowerRow) (before : ℕ) (m there : Spot) (s to : State) → m.pc ≡ 0 → Lasts p x.rules x.plan.scheme (live m) s → (exec p row.on (live m)).ending ≡ Running
      → (came before row.on m s).next ≡ to.task
      → AllEndWell to.task (before + row.on + total_steps p (next ∷ rows) (live there)) (boots place_of p (next ∷ rows) (before + row.on) (live there)) (end_of (last_ending p (next ∷ rows) (live there)))
      → Goal row next rows before m s true (live there)
  unfolding boots
  two_boots row next rows before m there s to pc lasts on told rest =
      let done : steps_done p row.on (live m) ≡ row.on = steps_running p row.on (live m) on in
      let ends : before + row.on + total_steps p (next ∷ rows) (live there) ≡ before + (steps_done p row.on (live m) + total_steps p (next ∷ rows) (live there)) = omega (arith, done) in (
        power_ends before row.on m s pc lasts on (came before row.on m s).next refl,
        subst (λ k. AllEndWell k (before + (steps_done p row.on (live m) + total_steps p (next ∷ rows) (live there))) (boots place_of p (next ∷ rows) (before + row.on) (live there)) (end_of (last_ending p (next ∷ rows) (live there)))) (sym told)
            (subst (λ k. AllEndWell to.task k (boots place_of p (next ∷ rows) (before + row.on) (live there)) (end_of (last_ending p (next ∷ rows) (live there)))) ends rest),
      )

  pub ends_well : FailsWell p x.rules x.plan.scheme → (rows : List PowerRow) (before : ℕ) (m : Spot) (s : State) → m.pc ≡ 0 → Lasts p x.rules x.plan.scheme (live m) s → s.task ≤ length x.rules.core.tasks
      → AreFollowed p place_of x rows m s → AllEndWell s.task (before + total_steps p rows (live m)) (boots place_of p rows before (live m)) (end_of (last_ending p rows (live m)))
  unfolding boots total_steps last_ending
  ends_well fails [] before m s pc lasts there h = tt
  ends_well fails (row ∷ []) before m s pc lasts there h =
      alone (is_running (exec p row.on (live m)).ending) s.task (before + total_steps p (row ∷ []) (live m)) (record { begun_at = before; events = numbered place_of p before row.on (live m) }) (end_of (last_ending p (row ∷ []) (live m)))
      (last_boot [] row before m s pc lasts there h.last (exec p row.on (live m)).ending refl (λ on. refl))
  ends_well fails (row ∷ next ∷ rows) before m s pc lasts there h =
      by (exec p row.on (live m)).ending refl
      (λ on. ends_well fails (next ∷ rows) (before + row.on) (begun_again row (exec p row.on (live m))) (cells.failed x.rules.core (after s h.last.front)) refl (fails (exec p row.on (live m)) (after s h.last.front) row on h.last.stood)
      (h.last.near.there there) (h.rest on))
    where
      to : State
      to = cells.failed x.rules.core (after s h.last.front)

      again : Spot
      again = begun_again row (exec p row.on (live m))

      ended : (e : Ending) → (exec p row.on (live m)).ending ≡ e → (e ≡ Running → ⊥) → is_running e ≡ false
          → AllEndWell s.task (before + total_steps p (row ∷ next ∷ rows) (live m)) (boots place_of p (row ∷ next ∷ rows) before (live m)) (end_of (last_ending p (row ∷ next ∷ rows) (live m)))
      ended e is over not =
          subst (λ q. AllEndWell s.task (before + total_steps p (row ∷ next ∷ rows) (live m))
          (record { begun_at = before; events = numbered place_of p before row.on (live m) } ∷ (if q then boots place_of p (next ∷ rows) (before + row.on) (fail_behind row (exec p row.on (live m))) else [])) (end_of (last_ending p (row ∷ next ∷ rows) (live m))))
          (sym (ap is_running is ∙ not)) (last_boot (next ∷ rows) row before m s pc lasts there h.last e is (λ on. absurd (over on)))

      by : (e : Ending) → (exec p row.on (live m)).ending ≡ e
          → ((exec p row.on (live m)).ending ≡ Running → AllEndWell to.task (before + row.on + total_steps p (next ∷ rows) (live again)) (boots place_of p (next ∷ rows) (before + row.on) (live again)) (end_of (last_ending p (next ∷ rows) (live again))))
          → AllEndWell s.task (before + total_steps p (row ∷ next ∷ rows) (live m)) (boots place_of p (row ∷ next ∷ rows) before (live m)) (end_of (last_ending p (row ∷ next ∷ rows) (live m)))
      by Running is rest =
          subst (λ q. Goal row next rows before m s q (fail_behind row (exec p row.on (live m)))) (sym (ap is_running is))
          (subst (Goal row next rows before m s true) (sym (fails_live row (exec p row.on (live m)) is)) (two_boots row next rows before m again s to pc lasts is (next_is before row.on m s h.last) (rest is)))
      by Halted is rest = ended Halted is (λ on. cc on) refl
      by (Trapped code) is rest = ended (Trapped code) is (λ on. cc on) refl
