-- The end of a machine's journal fits its power: how it ended, in which step, and what comes before that.
use Rattle.std.specs.Prelude.{if◌then◌else◌, map}
use Rattle.std.proofs.Common.{◌≡◌, ◌∙◌, ℕ, zero, suc, ◌+◌, ◌<◌, ◌≤◌, Bool, true, false, List, [], ◌∷◌, ◌++◌, length, take, refl, sym, ap, subst, arith}
use Rattle.std.proofs.lemmas.Bool.{false≢true}
use Rattle.std.proofs.lemmas.List.Sums.{sum_by-cons}
use Rattle.std.specs.List.{AllByRecursion}
use Rattle.devices.specs.Journal.{Boot, JournalEvent, Place, traps}
use Rattle.devices.specs.World.{steps_of}
use Rattle.devices.specs.declared.world.PowerRow.{PowerRow}
use Rattle.task_attempts.specs.Laws.{EndsWith}
use Rattle.audit_check.specs.Ended.{ComesBefore, TrapsAt}
use Rattle.audit_check.specs.Fits.{has_trap}
use Rattle.word_machine.specs.Events.{event_next, stepped_next, told}
use Rattle.word_machine.specs.Runs.{boots, fail_behind, is_running, last_ending, numbered, steps_done, told_event, total_steps}
use Rattle.word_machine.specs.State.{Program, State}
use Rattle.word_machine.specs.Step.{exec, step}
use Rattle.word_machine.specs.declared.ending.Ending.{Ending}
use Rattle.word_machine.specs.declared.ending.Ending.TheVariants.{Halted, Trapped}
use Rattle.journal_fits.proofs.Ended.{ended_does, ended_last, ended_shows, ended_stays, ended_total, failure_leaves, failure_runs, goes_on}
use Rattle.journal_fits.proofs.Steps.{trap_ends}

-- ---- lists

ends_behind : {A : Type 0} (P : A → Type 0) (x : A) (xs : List A) → EndsWith P xs → EndsWith P (x ∷ xs)
ends_behind P x [] h = absurd h
ends_behind P x (y ∷ xs) h = h

ends_after : {A : Type 0} (P : A → Type 0) (xs ys : List A) → EndsWith P ys → EndsWith P (xs ++ ys)
ends_after P [] ys h = h
ends_after P (x ∷ xs) ys h = ends_behind P x (xs ++ ys) (ends_after P xs ys h)

all_behind : {A : Type 0} (P : A → Type 0) (xs ys : List A) → AllByRecursion P xs → AllByRecursion P ys → AllByRecursion P (xs ++ ys)
all_behind P [] ys a b = b
all_behind P (x ∷ xs) ys a b = (a.0, all_behind P xs ys a.1 b)

all_at : (k number : ℕ) (es : List JournalEvent) → number < k → AllByRecursion (λ (e : ℕ × JournalEvent). e.0 < k) (map (λ e. (number, e)) es)
all_at k number [] low = tt
all_at k number (e ∷ es) low = (low, all_at k number es low)

-- ---- a step of a machine that goes on

done_more : (p : Program) (n : ℕ) (s : State) → is_running s.ending ≡ true → steps_done p (suc n) s ≡ suc (steps_done p n (step p s))
unfolding steps_done
done_more p n s on = ap (λ b. if b then suc (steps_done p n (step p s)) else 0) on

-- it shows what its step tells
shown_on : (place_of : ℕ → Place) (p : Program) (before n : ℕ) (s : State) → is_running s.ending ≡ true
    → numbered place_of p before (suc n) s ≡ map (λ e. (suc before, e)) (told_event place_of (told (step p s).ending (event_next p s))) ++ numbered place_of p (suc before) n (step p s)
unfolding numbered stepped_next
shown_on place_of p before n s on =
    ap (λ b. map (λ (x : JournalEvent). (suc before, x)) (if b then told_event place_of (told (step p s).ending (event_next p s)) else []) ++ numbered place_of p (suc before) n (step p s)) on

-- it may have gone on, and done all steps, where it goes on behind them
pub went_on : (p : Program) (n : ℕ) (s : State) → is_running (exec p n s).ending ≡ true → is_running s.ending ≡ true
went_on p n s on = by (is_running s.ending) refl
  where
    by : (b : Bool) → is_running s.ending ≡ b → b ≡ true
    by true is = refl
    by false ended = absurd (false≢true (sym ended ∙ sym (ap (λ t. is_running t.ending) (ended_stays p n s ended)) ∙ on))

pub all_done : (p : Program) (n : ℕ) (s : State) → is_running (exec p n s).ending ≡ true → steps_done p n s ≡ n
unfolding steps_done exec
all_done p zero s on = refl
all_done p (suc n) s on = done_more p n s (went_on p (suc n) s on) ∙ ap suc (all_done p n (step p s) on)

-- at most all of them
pub done_within : (p : Program) (n : ℕ) (s : State) → steps_done p n s ≤ n
unfolding steps_done
done_within p zero s = omega arith
done_within p (suc n) s = by (is_running s.ending) (done_within p n (step p s))
  where
    by : (b : Bool) → steps_done p n (step p s) ≤ n → (if b then suc (steps_done p n (step p s)) else 0) ≤ suc n
    by true h = omega (arith, h)
    by false h = omega arith

-- the ending behind steps, where the first one ends it
ended_first : (p : Program) (n : ℕ) (s : State) → is_running (step p s).ending ≡ false → (step p s).ending ≡ (exec p (suc n) s).ending
unfolding exec
ended_first p n s ended = sym (ap (λ t. t.ending) (ended_stays p n (step p s) ended))

-- ---- a boot in which the machine ends

-- the step that ends it is the last
one_step : (p : Program) (before n : ℕ) (s : State) → is_running s.ending ≡ true → is_running (step p s).ending ≡ false → before + steps_done p (suc n) s ≡ suc before
one_step p before n s on ended = omega (arith, done_more p n s on, ended_does p n (step p s) ended)

later_step : (p : Program) (before n : ℕ) (s : State) → is_running s.ending ≡ true → suc before + steps_done p n (step p s) ≡ before + steps_done p (suc n) s
later_step p before n s on = omega (arith, done_more p n s on)

-- and what it shows is the last that is shown
shown_last : (place_of : ℕ → Place) (p : Program) (before n : ℕ) (s : State) (ending : Ending) → is_running s.ending ≡ true → (step p s).ending ≡ ending → is_running ending ≡ false
    → numbered place_of p before (suc n) s ≡ map (λ e. (suc before, e)) (told_event place_of (told ending (event_next p s))) ++ []
shown_last place_of p before n s ending on is ended =
    shown_on place_of p before n s on
    ∙ ap (λ es. map (λ e. (suc before, e)) (told_event place_of (told (step p s).ending (event_next p s))) ++ es) (ended_shows place_of p (suc before) n (step p s) (ap is_running is ∙ ended))
    ∙ ap (λ k. map (λ (e : JournalEvent). (suc before, e)) (told_event place_of (told k (event_next p s))) ++ []) is

-- a trap at a step
abbrev IsTrapAt : (steps code : ℕ) → ℕ × JournalEvent → Type 0
IsTrapAt steps code e = (e.0 ≡ steps) × (e.1 ≡ traps code)

-- a trap is the last event
trap_last : (place_of : ℕ → Place) (p : Program) (before n code : ℕ) (s : State) → is_running s.ending ≡ true → (exec p n s).ending ≡ Trapped code
    → EndsWith (IsTrapAt (before + steps_done p n s) code) (numbered place_of p before n s)
unfolding exec
trap_last place_of p before zero code s on trapped = absurd (false≢true (sym (ap is_running trapped) ∙ on))
trap_last place_of p before (suc n) code s on trapped = by (is_running (step p s).ending) refl (λ still. trap_last place_of p (suc before) n code (step p s) still trapped)
  where
    by : (b : Bool) → is_running (step p s).ending ≡ b
        → (is_running (step p s).ending ≡ true → EndsWith (IsTrapAt (suc before + steps_done p n (step p s)) code) (numbered place_of p (suc before) n (step p s)))
        → EndsWith (IsTrapAt (before + steps_done p (suc n) s) code) (numbered place_of p before (suc n) s)
    by true still rest =
        subst (EndsWith (IsTrapAt (before + steps_done p (suc n) s) code)) (sym (shown_on place_of p before n s on))
        (ends_after (IsTrapAt (before + steps_done p (suc n) s) code) (map (λ e. (suc before, e)) (told_event place_of (told (step p s).ending (event_next p s)))) (numbered place_of p (suc before) n (step p s))
        (subst (λ k. EndsWith (IsTrapAt k code) (numbered place_of p (suc before) n (step p s))) (later_step p before n s on) (rest still)))
    by false ended rest =
        subst (EndsWith (IsTrapAt (before + steps_done p (suc n) s) code)) (sym (shown_last place_of p before n s (Trapped code) on (ended_first p n s ended ∙ trapped) refl))
        (sym (one_step p before n s on ended), refl)

-- a halt shows nothing, and all events come before it
abbrev AllBefore : (steps : ℕ) → List (ℕ × JournalEvent) → Type 0
AllBefore steps es = AllByRecursion (λ (e : ℕ × JournalEvent). e.0 < steps) es

halt_last : (place_of : ℕ → Place) (p : Program) (before n : ℕ) (s : State) → is_running s.ending ≡ true → (exec p n s).ending ≡ Halted
    → (0 < steps_done p n s) × AllBefore (before + steps_done p n s) (numbered place_of p before n s)
unfolding exec
halt_last place_of p before zero s on halted = absurd (false≢true (sym (ap is_running halted) ∙ on))
halt_last place_of p before (suc n) s on halted = by (is_running (step p s).ending) refl (λ still. halt_last place_of p (suc before) n (step p s) still halted)
  where
    by : (b : Bool) → is_running (step p s).ending ≡ b
        → (is_running (step p s).ending ≡ true → (0 < steps_done p n (step p s)) × AllBefore (suc before + steps_done p n (step p s)) (numbered place_of p (suc before) n (step p s)))
        → (0 < steps_done p (suc n) s) × AllBefore (before + steps_done p (suc n) s) (numbered place_of p before (suc n) s)
    by true still rest = (
      omega (arith, done_more p n s on),
      subst (AllBefore (before + steps_done p (suc n) s)) (sym (shown_on place_of p before n s on))
          (all_behind (λ (e : ℕ × JournalEvent). e.0 < before + steps_done p (suc n) s) (map (λ e. (suc before, e)) (told_event place_of (told (step p s).ending (event_next p s)))) (numbered place_of p (suc before) n (step p s))
          (all_at (before + steps_done p (suc n) s) (suc before) (told_event place_of (told (step p s).ending (event_next p s))) (omega (arith, done_more p n s on, (rest still).0)))
          (subst (λ k. AllBefore k (numbered place_of p (suc before) n (step p s))) (later_step p before n s on) (rest still).1)),
    )
    by false ended rest = (
      omega (arith, done_more p n s on),
      subst (AllBefore (before + steps_done p (suc n) s)) (sym (shown_last place_of p before n s Halted on (ended_first p n s ended ∙ halted) refl)) tt,
    )

-- ---- boots

abbrev boot_in : (ℕ → Place) → Program → PowerRow → (before : ℕ) → State → Boot
boot_in place_of p row before s = record { begun_at = before; events = numbered place_of p before row.on s }

-- a boot in which the machine doesn't end comes before others, one in which it ends is the last
boots_on : (place_of : ℕ → Place) (p : Program) (row : PowerRow) (rows : List PowerRow) (before : ℕ) (s : State) → is_running (exec p row.on s).ending ≡ true
    → boots place_of p (row ∷ rows) before s ≡ boot_in place_of p row before s ∷ boots place_of p rows (before + row.on) (fail_behind row (exec p row.on s))
unfolding boots
boots_on place_of p row rows before s on = ap (λ b. boot_in place_of p row before s ∷ (if b then boots place_of p rows (before + row.on) (fail_behind row (exec p row.on s)) else [])) on

boots_over : (place_of : ℕ → Place) (p : Program) (row : PowerRow) (rows : List PowerRow) (before : ℕ) (s : State) → is_running (exec p row.on s).ending ≡ false
    → boots place_of p (row ∷ rows) before s ≡ boot_in place_of p row before s ∷ []
unfolding boots
boots_over place_of p row rows before s over = ap (λ b. boot_in place_of p row before s ∷ (if b then boots place_of p rows (before + row.on) (fail_behind row (exec p row.on s)) else [])) over

-- the ending behind all rows, and all steps, where it ended in the first
last_over : (p : Program) (row : PowerRow) (rows : List PowerRow) (s : State) → is_running (exec p row.on s).ending ≡ false → last_ending p (row ∷ rows) s ≡ (exec p row.on s).ending
unfolding last_ending
last_over p row rows s over = ap (last_ending p rows) (failure_leaves row (exec p row.on s) over) ∙ ended_last p rows (exec p row.on s) over

total_over : (p : Program) (row : PowerRow) (rows : List PowerRow) (s : State) → is_running (exec p row.on s).ending ≡ false → total_steps p (row ∷ rows) s ≡ steps_done p row.on s
unfolding total_steps
total_over p row rows s over =
    let none : total_steps p rows (fail_behind row (exec p row.on s)) ≡ 0 = ap (total_steps p rows) (failure_leaves row (exec p row.on s) over) ∙ ended_total p rows (exec p row.on s) over in
    omega (arith, none)

total_on : (p : Program) (row : PowerRow) (rows : List PowerRow) (s : State) → is_running (exec p row.on s).ending ≡ true
    → total_steps p (row ∷ rows) s ≡ row.on + total_steps p rows (fail_behind row (exec p row.on s))
unfolding total_steps
total_on p row rows s on = omega (arith, all_done p row.on s on)

-- it goes on behind a row and its failure
runs_on : (p : Program) (row : PowerRow) (s : State) → is_running (exec p row.on s).ending ≡ true → is_running (fail_behind row (exec p row.on s)).ending ≡ true
runs_on p row s on = ap is_running (failure_runs row (exec p row.on s) (goes_on (exec p row.on s).ending on))

-- ---- with the power

no_trap_in : (place_of : ℕ → Place) (p : Program) (before n : ℕ) (s : State) → is_running (exec p n s).ending ≡ true → has_trap (numbered place_of p before n s) ≡ false
no_trap_in place_of p before n s on = by (has_trap (numbered place_of p before n s)) refl
  where
    by : (b : Bool) → has_trap (numbered place_of p before n s) ≡ b → b ≡ false
    by true is = absurd (false≢true (sym (trap_ends place_of p before n s is) ∙ on))
    by false is = refl

-- each row has its boot, all steps are done, and nothing traps
abbrev IsSpent : List PowerRow → List Boot → (steps : ℕ) → Type 0
IsSpent rows bs steps = (length bs ≡ length rows) × (steps ≡ steps_of rows) × AllByRecursion (λ (b : Boot). has_trap b.events ≡ false) bs

row_spent : (row : PowerRow) (rows : List PowerRow) (b : Boot) (bs : List Boot) (steps more : ℕ) → IsSpent rows bs more → has_trap b.events ≡ false → steps ≡ row.on + more → IsSpent (row ∷ rows) (b ∷ bs) steps
row_spent row rows b bs steps more h none is = (ap suc h.0, omega (arith, is, h.1, sum_by-cons (λ (r : PowerRow). r.on) row rows), (none, h.2))

pub spent : (place_of : ℕ → Place) (p : Program) (rows : List PowerRow) (before : ℕ) (s : State) → is_running (last_ending p rows s) ≡ true → IsSpent rows (boots place_of p rows before s) (total_steps p rows s)
unfolding boots last_ending total_steps
spent place_of p [] before s on = (refl, refl, tt)
spent place_of p (row ∷ rows) before s on = by (is_running (exec p row.on s).ending) refl (spent place_of p rows (before + row.on) (fail_behind row (exec p row.on s)) on)
  where
    by : (b : Bool) → is_running (exec p row.on s).ending ≡ b
        → IsSpent rows (boots place_of p rows (before + row.on) (fail_behind row (exec p row.on s))) (total_steps p rows (fail_behind row (exec p row.on s)))
        → IsSpent (row ∷ rows) (boots place_of p (row ∷ rows) before s) (total_steps p (row ∷ rows) s)
    by true is rest =
        subst (λ bs. IsSpent (row ∷ rows) bs (total_steps p (row ∷ rows) s)) (sym (boots_on place_of p row rows before s is))
        (row_spent row rows (boot_in place_of p row before s) (boots place_of p rows (before + row.on) (fail_behind row (exec p row.on s))) (total_steps p (row ∷ rows) s) (total_steps p rows (fail_behind row (exec p row.on s)))
        rest (no_trap_in place_of p before row.on s is) (total_on p row rows s is))
    by false over rest = absurd (false≢true (sym (ap is_running (last_over p row rows s over) ∙ over) ∙ on))

-- ---- with a trap

pub traps_in : (place_of : ℕ → Place) (p : Program) (rows : List PowerRow) (before code : ℕ) (s : State) → is_running s.ending ≡ true → last_ending p rows s ≡ Trapped code
    → EndsWith (TrapsAt (before + total_steps p rows s) code) (boots place_of p rows before s)
unfolding last_ending
traps_in place_of p [] before code s on trapped = absurd (false≢true (sym (ap is_running trapped) ∙ on))
traps_in place_of p (row ∷ rows) before code s on trapped =
    by (is_running (exec p row.on s).ending) refl (λ is. traps_in place_of p rows (before + row.on) code (fail_behind row (exec p row.on s)) (runs_on p row s is) trapped)
  where
    by : (b : Bool) → is_running (exec p row.on s).ending ≡ b
        → (is_running (exec p row.on s).ending ≡ true → EndsWith (TrapsAt (before + row.on + total_steps p rows (fail_behind row (exec p row.on s))) code) (boots place_of p rows (before + row.on) (fail_behind row (exec p row.on s))))
        → EndsWith (TrapsAt (before + total_steps p (row ∷ rows) s) code) (boots place_of p (row ∷ rows) before s)
    by true is rest =
        let steps : before + row.on + total_steps p rows (fail_behind row (exec p row.on s)) ≡ before + total_steps p (row ∷ rows) s = omega (arith, total_on p row rows s is) in
        subst (EndsWith (TrapsAt (before + total_steps p (row ∷ rows) s) code)) (sym (boots_on place_of p row rows before s is))
        (ends_behind (TrapsAt (before + total_steps p (row ∷ rows) s) code) (boot_in place_of p row before s) (boots place_of p rows (before + row.on) (fail_behind row (exec p row.on s)))
        (subst (λ k. EndsWith (TrapsAt k code) (boots place_of p rows (before + row.on) (fail_behind row (exec p row.on s)))) steps (rest is)))
    by false over rest =
        subst (EndsWith (TrapsAt (before + total_steps p (row ∷ rows) s) code)) (sym (boots_over place_of p row rows before s over))
        (subst (λ k. TrapsAt (before + k) code (boot_in place_of p row before s)) (sym (total_over p row rows s over))
        (trap_last place_of p before row.on code s on (sym (last_over p row rows s over) ∙ trapped)))

-- ---- with a halt

pub halts_in : (place_of : ℕ → Place) (p : Program) (rows : List PowerRow) (before : ℕ) (s : State) → is_running s.ending ≡ true → last_ending p rows s ≡ Halted
    → EndsWith (ComesBefore (before + total_steps p rows s)) (boots place_of p rows before s)
unfolding last_ending
halts_in place_of p [] before s on halted = absurd (false≢true (sym (ap is_running halted) ∙ on))
halts_in place_of p (row ∷ rows) before s on halted =
    by (is_running (exec p row.on s).ending) refl (λ is. halts_in place_of p rows (before + row.on) (fail_behind row (exec p row.on s)) (runs_on p row s is) halted)
  where
    by : (b : Bool) → is_running (exec p row.on s).ending ≡ b
        → (is_running (exec p row.on s).ending ≡ true → EndsWith (ComesBefore (before + row.on + total_steps p rows (fail_behind row (exec p row.on s)))) (boots place_of p rows (before + row.on) (fail_behind row (exec p row.on s))))
        → EndsWith (ComesBefore (before + total_steps p (row ∷ rows) s)) (boots place_of p (row ∷ rows) before s)
    by true is rest =
        let steps : before + row.on + total_steps p rows (fail_behind row (exec p row.on s)) ≡ before + total_steps p (row ∷ rows) s = omega (arith, total_on p row rows s is) in
        subst (EndsWith (ComesBefore (before + total_steps p (row ∷ rows) s))) (sym (boots_on place_of p row rows before s is))
        (ends_behind (ComesBefore (before + total_steps p (row ∷ rows) s)) (boot_in place_of p row before s) (boots place_of p rows (before + row.on) (fail_behind row (exec p row.on s)))
        (subst (λ k. EndsWith (ComesBefore k) (boots place_of p rows (before + row.on) (fail_behind row (exec p row.on s)))) steps (rest is)))
    by false over rest =
        let last = halt_last place_of p before row.on s on (sym (last_over p row rows s over) ∙ halted) in
        subst (EndsWith (ComesBefore (before + total_steps p (row ∷ rows) s))) (sym (boots_over place_of p row rows before s over))
        (subst (λ k. ComesBefore (before + k) (boot_in place_of p row before s)) (sym (total_over p row rows s over)) (omega (arith, last.0), last.1))

-- no more steps are done than those of the boots' rows
pub steps_within : (place_of : ℕ → Place) (p : Program) (rows : List PowerRow) (before : ℕ) (s : State) → total_steps p rows s ≤ steps_of (take (length (boots place_of p rows before s)) rows)
unfolding boots total_steps
steps_within place_of p [] before s = omega arith
steps_within place_of p (row ∷ rows) before s = by (is_running (exec p row.on s).ending) refl (steps_within place_of p rows (before + row.on) (fail_behind row (exec p row.on s)))
  where
    by : (b : Bool) → is_running (exec p row.on s).ending ≡ b
        → total_steps p rows (fail_behind row (exec p row.on s)) ≤ steps_of (take (length (boots place_of p rows (before + row.on) (fail_behind row (exec p row.on s)))) rows)
        → total_steps p (row ∷ rows) s ≤ steps_of (take (length (boots place_of p (row ∷ rows) before s)) (row ∷ rows))
    by true is rest =
        let some = take (length (boots place_of p rows (before + row.on) (fail_behind row (exec p row.on s)))) rows in
        subst (λ bs. total_steps p (row ∷ rows) s ≤ steps_of (take (length bs) (row ∷ rows))) (sym (boots_on place_of p row rows before s is))
        (omega (arith, rest, total_on p row rows s is, sum_by-cons (λ (r : PowerRow). r.on) row some))
    by false over rest =
        subst (λ bs. total_steps p (row ∷ rows) s ≤ steps_of (take (length bs) (row ∷ rows))) (sym (boots_over place_of p row rows before s over))
        (omega (arith, total_over p row rows s over, done_within p row.on s, sum_by-cons (λ (r : PowerRow). r.on) row []))
