-- The steps of a power row: what is left of it, counted from here, is what all its steps give.
use Rattle.std.specs.Prelude.{if◌then◌else◌}
use Rattle.std.proofs.Common.{◌≡◌, ◌∙◌, ℕ, zero, suc, ◌+◌, ◌≤◌, false, Option, Some, None, refl, sym, ap, subst, arith}
use Rattle.devices.specs.declared.event.Event.{Event}
use Rattle.devices.specs.declared.event.Event.TheVariants.{Begin, Look, Kept, Dropped, Issued, Sealed, Copied, Commit}
use Rattle.devices.specs.declared.event.RunEnd.{RunEnd}
use Rattle.power_trace.specs.Run.{end_told, end_in}
use Rattle.soak_run.specs.Steps.{with_shown, with_told, with_steps, AreWithin}
use Rattle.soak_run.specs.declared.counts.Counts.{Counts}
use Rattle.word_machine.specs.Events.{told, event_next, stepped_next}
use Rattle.word_machine.specs.RunLaws.{stays_halted, stays_trapped}
use Rattle.word_machine.specs.Runs.{is_running}
use Rattle.word_machine.specs.State.{Program, State}
use Rattle.word_machine.specs.Step.{step, exec}
use Rattle.word_machine.specs.declared.ending.Ending.{Ending}
use Rattle.word_machine.specs.declared.ending.Ending.TheVariants.{Running, Halted, Trapped}
use Rattle.word_machine.specs.declared.stepped.Stepped.{Stepped}
use Rattle.word_machine.specs.declared.stepped.Stepped.TheVariants as stepped

-- the end that an answer tells is that of the machine behind the step
end_is : (e : Ending) (event : Option Event) → end_told (told e event) ≡ end_in e
end_is Running event = refl
end_is Halted event = refl
end_is (Trapped code) event = refl

-- a machine without an end goes on
pub goes_on : (e : Ending) → end_in e ≡ None → e ≡ Running
goes_on Running none = refl
goes_on Halted none = cc
goes_on (Trapped code) none = cc

running_is : (e : Ending) (end : RunEnd) → end_in e ≡ Some end → is_running e ≡ false
running_is Running end is = cc
running_is Halted end is = refl
running_is (Trapped code) end is = refl

-- an ended machine stays as it is
pub ended_stays : (p : Program) (n : ℕ) (t : State) → is_running t.ending ≡ false → exec p n t ≡ t
ended_stays p n t ended = by t.ending refl ended
  where
    by : (e : Ending) → t.ending ≡ e → is_running e ≡ false → exec p n t ≡ t
    by Running is h = cc
    by Halted is h = stays_halted p n t is
    by (Trapped code) is h = stays_trapped p n code t is

one_stays : (p : Program) (t : State) → is_running t.ending ≡ false → step p t ≡ t
unfolding exec
one_stays p t ended = ended_stays p 1 t ended

-- and adds nothing
ended_adds : (p : Program) (n : ℕ) (t : State) (c : Counts) → is_running t.ending ≡ false → with_steps p n t c ≡ c
unfolding with_steps
ended_adds p zero t c ended = refl
ended_adds p (suc n) t c ended =
    ap (λ b. with_steps p n (step p t) (if b then with_told (stepped_next p t) c else c)) ended
    ∙ ap (λ u. with_steps p n u c) (one_stays p t ended)
    ∙ ended_adds p n t c ended

-- counts are within more, too
pub within_more : (n m : ℕ) (c : Counts) → n ≤ m → AreWithin n c → AreWithin m c
within_more n m c less within = record {
  commits = omega (arith, less, within.commits);
  issued = omega (arith, less, within.issued);
  kept = omega (arith, less, within.kept);
  copies = omega (arith, less, within.copies);
}

-- an event adds at most one to each
within_shown : (e : Event) (n m : ℕ) (c : Counts) → m ≡ n + 1 → AreWithin n c → AreWithin m (with_shown e c)
within_shown (Begin task) n m c is within = within_more n m c (omega (arith, is)) within
within_shown (Look site time) n m c is within = within_more n m c (omega (arith, is)) within
within_shown (Kept site value) n m c is within = record { commits = omega (arith, is, within.commits); issued = omega (arith, is, within.issued); kept = omega (arith, is, within.kept); copies = omega (arith, is, within.copies) }
within_shown (Dropped site) n m c is within = within_more n m c (omega (arith, is)) within
within_shown (Issued site peripheral args reading) n m c is within = record { commits = omega (arith, is, within.commits); issued = omega (arith, is, within.issued); kept = omega (arith, is, within.kept); copies = omega (arith, is, within.copies) }
within_shown (Sealed site) n m c is within = within_more n m c (omega (arith, is)) within
within_shown (Copied site from to words) n m c is within = record { commits = omega (arith, is, within.commits); issued = omega (arith, is, within.issued); kept = omega (arith, is, within.kept); copies = omega (arith, is, within.copies) }
within_shown (Commit next) n m c is within = record { commits = omega (arith, is, within.commits); issued = omega (arith, is, within.issued); kept = omega (arith, is, within.kept); copies = omega (arith, is, within.copies) }

within_told : (a : Stepped) (n m : ℕ) (c : Counts) → m ≡ n + 1 → AreWithin n c → AreWithin m (with_told a c)
within_told (stepped.Ran None) n m c is within = within_more n m c (omega (arith, is)) within
within_told (stepped.Ran (Some e)) n m c is within = within_shown e n m c is within
within_told stepped.Halted n m c is within = within_more n m c (omega (arith, is)) within
within_told (stepped.Trapped code) n m c is within = within_more n m c (omega (arith, is)) within

-- and no boot
boots_shown : (e : Event) (c : Counts) → (with_shown e c).boots ≡ c.boots
boots_shown (Begin task) c = refl
boots_shown (Look site time) c = refl
boots_shown (Kept site value) c = refl
boots_shown (Dropped site) c = refl
boots_shown (Issued site peripheral args reading) c = refl
boots_shown (Sealed site) c = refl
boots_shown (Copied site from to words) c = refl
boots_shown (Commit next) c = refl

boots_told : (a : Stepped) (c : Counts) → (with_told a c).boots ≡ c.boots
boots_told (stepped.Ran None) c = refl
boots_told (stepped.Ran (Some e)) c = boots_shown e c
boots_told stepped.Halted c = refl
boots_told (stepped.Trapped code) c = refl

-- a row that is under way
pub record IsInRow (p : Program) (on : ℕ) (s0 : State) (c0 : Counts) (n0 left n : ℕ) (s : State) (c : Counts) : Type 0 where
  pub running : s.ending ≡ Running
  pub state : exec p left s ≡ exec p on s0
  pub counts : with_steps p left s c ≡ with_steps p on s0 c0
  pub did : n + left ≡ n0 + on
  pub room : n + left ≤ 4194304
  pub clock : s.clock + left ≤ 4294967295
  pub within : AreWithin n c
  pub boots : c.boots ≡ c0.boots

-- at its beginning
pub row_begins : (p : Program) (on left n : ℕ) (s : State) (c : Counts)
    → s.ending ≡ Running → left ≡ on → n + on ≤ 4194304 → s.clock + on ≤ 4294967295 → AreWithin n c → IsInRow p on s c n left n s c
row_begins p on left n s c running all room clock within = record {
  running = running;
  state = ap (λ k. exec p k s) all;
  counts = ap (λ k. with_steps p k s c) all;
  did = omega (arith, all);
  room = omega (arith, all, room);
  clock = omega (arith, all, clock);
  within = within;
  boots = refl;
}

rising : (p : Program) (s : State) → s.ending ≡ Running → (step p s).clock ≡ s.clock + 1
unfolding step
rising p s is = rw is

state_more : (p : Program) (m : ℕ) (s : State) → exec p (suc m) s ≡ exec p m (step p s)
unfolding exec
state_more p m s = refl

counts_more : (p : Program) (m : ℕ) (s : State) (c : Counts) → s.ending ≡ Running → with_steps p (suc m) s c ≡ with_steps p m (step p s) (with_told (stepped_next p s) c)
unfolding with_steps
counts_more p m s c running = ap (λ e. with_steps p m (step p s) (if is_running e then with_told (stepped_next p s) c else c)) running

-- the end of the machine behind a step, by what the step answered
end_behind : (p : Program) (s : State) (answer : Stepped) → answer ≡ stepped_next p s → end_in (step p s).ending ≡ end_told answer
unfolding stepped_next
end_behind p s answer is = sym (ap end_told is ∙ end_is (step p s).ending (event_next p s))

-- a step of a row
pub record Steps (p q : Program) (left m n k : ℕ) (s after : State) (c d : Counts) (answer : Stepped) : Type 0 where
  pub more : left ≡ suc m
  pub counted : k ≡ n + 1
  pub same : q ≡ p
  pub answered : answer ≡ stepped_next q s
  pub next : after ≡ step q s
  pub noted : d ≡ with_told answer c

-- what is left to count, where a step is done
counts_left : (p q : Program) (on : ℕ) (s0 : State) (c0 : Counts) (n0 left m n k : ℕ) (s after : State) (c d : Counts) (answer : Stepped)
    → IsInRow p on s0 c0 n0 left n s c → Steps p q left m n k s after c d answer → with_steps p m (step p s) d ≡ with_steps p on s0 c0
counts_left p q on s0 c0 n0 left m n k s after c d answer row does =
    let told : answer ≡ stepped_next p s = does.answered ∙ ap (λ r. stepped_next r s) does.same in
    ap (with_steps p m (step p s)) (does.noted ∙ ap (λ a. with_told a c) told)
    ∙ sym (ap (λ k. with_steps p k s c) does.more ∙ counts_more p m s c row.running)
    ∙ row.counts

-- one that isn't the last
pub row_on : (p q : Program) (on : ℕ) (s0 : State) (c0 : Counts) (n0 left m n k : ℕ) (s after : State) (c d : Counts) (answer : Stepped)
    → IsInRow p on s0 c0 n0 left n s c → Steps p q left m n k s after c d answer → end_told answer ≡ None → IsInRow p on s0 c0 n0 m k after d
row_on p q on s0 c0 n0 left m n k s after c d answer row does none =
    let at : step p s ≡ after = sym (does.next ∙ ap (λ r. step r s) does.same) in
    let told : answer ≡ stepped_next p s = does.answered ∙ ap (λ r. stepped_next r s) does.same in
    let runs : (step p s).ending ≡ Running = goes_on (step p s).ending (end_behind p s answer told ∙ none) in
    let clock : (step p s).clock ≡ s.clock + 1 = rising p s row.running in
    let same_boots : d.boots ≡ c.boots = ap (λ (x : Counts). x.boots) does.noted ∙ boots_told answer c in
    subst (λ t. IsInRow p on s0 c0 n0 m k t d) at (record {
      running = runs;
      state = sym (ap (λ k. exec p k s) does.more ∙ state_more p m s) ∙ row.state;
      counts = counts_left p q on s0 c0 n0 left m n k s after c d answer row does;
      did = omega (arith, row.did, does.more, does.counted);
      room = omega (arith, row.room, does.more, does.counted);
      clock = omega (arith, row.clock, does.more, clock);
      within = subst (AreWithin k) (sym does.noted) (within_told answer n k c does.counted row.within);
      boots = same_boots ∙ row.boots;
    })

-- what a row leaves
pub record IsRowDone (p : Program) (on : ℕ) (s0 : State) (c0 : Counts) (n0 n : ℕ) (after : State) (c : Counts) (end : Option RunEnd) : Type 0 where
  pub state : after ≡ exec p on s0
  pub counts : c ≡ with_steps p on s0 c0
  pub ended : end ≡ end_in (exec p on s0).ending
  pub steps : n ≤ n0 + on
  pub within : AreWithin n c
  pub boots : c.boots ≡ c0.boots

-- a step with which the machine ends
pub row_ends : (p q : Program) (on : ℕ) (s0 : State) (c0 : Counts) (n0 left m n k : ℕ) (s after : State) (c d : Counts) (answer : Stepped) (end : RunEnd)
    → IsInRow p on s0 c0 n0 left n s c → Steps p q left m n k s after c d answer → end_told answer ≡ Some end → IsRowDone p on s0 c0 n0 k after d (Some end)
row_ends p q on s0 c0 n0 left m n k s after c d answer end row does some =
    let at : after ≡ step p s = does.next ∙ ap (λ r. step r s) does.same in
    let told : answer ≡ stepped_next p s = does.answered ∙ ap (λ r. stepped_next r s) does.same in
    let told_end : end_in (step p s).ending ≡ Some end = end_behind p s answer told ∙ some in
    let over : is_running (step p s).ending ≡ false = running_is (step p s).ending end told_end in
    let state : step p s ≡ exec p on s0 = sym (ended_stays p m (step p s) over) ∙ sym (ap (λ k. exec p k s) does.more ∙ state_more p m s) ∙ row.state in
    let same_boots : d.boots ≡ c.boots = ap (λ (x : Counts). x.boots) does.noted ∙ boots_told answer c in
    record {
      state = at ∙ state;
      counts = sym (ended_adds p m (step p s) d over) ∙ counts_left p q on s0 c0 n0 left m n k s after c d answer row does;
      ended = sym (ap (λ (t : State). end_in t.ending) (sym state) ∙ told_end);
      steps = omega (arith, row.did, does.more, does.counted);
      within = subst (AreWithin k) (sym does.noted) (within_told answer n k c does.counted row.within);
      boots = same_boots ∙ row.boots;
    }

-- all steps are done
pub row_over : (p : Program) (on : ℕ) (s0 : State) (c0 : Counts) (n0 left n : ℕ) (s : State) (c : Counts) → IsInRow p on s0 c0 n0 left n s c → left ≡ 0 → IsRowDone p on s0 c0 n0 n s c None
unfolding exec with_steps
row_over p on s0 c0 n0 left n s c row none =
    let state : s ≡ exec p on s0 = sym (ap (λ k. exec p k s) none) ∙ row.state in
    record {
      state = state;
      counts = sym (ap (λ k. with_steps p k s c) none) ∙ row.counts;
      ended = sym (ap (λ (t : State). end_in t.ending) (sym state) ∙ ap end_in row.running);
      steps = omega (arith, row.did, none);
      within = row.within;
      boots = row.boots;
    }
