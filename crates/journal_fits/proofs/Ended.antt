-- A machine that ended does nothing more, and shows nothing more.
use Rattle.std.specs.Prelude.{if◌then◌else◌, map}
use Rattle.std.proofs.Common.{◌≡◌, ◌∙◌, ℕ, zero, suc, true, false, List, [], ◌∷◌, ◌++◌, refl, ap, arith}
use Rattle.devices.specs.Journal.{JournalEvent, Place}
use Rattle.devices.specs.declared.world.PowerRow.{PowerRow}
use Rattle.word_machine.specs.Events.{stepped_next}
use Rattle.word_machine.specs.RunLaws.{stays_halted, stays_trapped}
use Rattle.word_machine.specs.Runs.{fail_behind, fail_behind_at, is_running, last_ending, numbered, steps_done, told_event, total_steps}
use Rattle.word_machine.specs.State.{Program, State}
use Rattle.word_machine.specs.Step.{exec, fail, fail_at, step}
use Rattle.word_machine.specs.declared.ending.Ending.{Ending}
use Rattle.word_machine.specs.declared.ending.Ending.TheVariants.{Running, Halted, Trapped}

-- an ending that is no end, and one that is
pub goes_on : (e : Ending) → is_running e ≡ true → e ≡ Running
goes_on Running is = refl
goes_on Halted is = absurd (cc is)
goes_on (Trapped code) is = absurd (cc is)

pub ended_stays : (p : Program) (n : ℕ) (s : State) → is_running s.ending ≡ false → exec p n s ≡ s
ended_stays p n s ended = by s.ending refl ended
  where
    by : (e : Ending) → s.ending ≡ e → is_running e ≡ false → exec p n s ≡ s
    by Running is h = absurd (cc h)
    by Halted is h = stays_halted p n s is
    by (Trapped code) is h = stays_trapped p n code s is

one_stays : (p : Program) (s : State) → is_running s.ending ≡ false → step p s ≡ s
unfolding exec
one_stays p s ended = ended_stays p 1 s ended

-- it does no step
pub ended_does : (p : Program) (n : ℕ) (s : State) → is_running s.ending ≡ false → steps_done p n s ≡ 0
unfolding steps_done
ended_does p zero s ended = refl
ended_does p (suc n) s ended = ap (λ b. if b then suc (steps_done p n (step p s)) else 0) ended

-- and shows no event
pub ended_shows : (place_of : ℕ → Place) (p : Program) (before n : ℕ) (s : State) → is_running s.ending ≡ false → numbered place_of p before n s ≡ []
unfolding numbered
ended_shows place_of p before zero s ended = refl
ended_shows place_of p before (suc n) s ended =
    ap (λ b. map (λ (e : JournalEvent). (suc before, e)) (if b then told_event place_of (stepped_next p s) else []) ++ numbered place_of p (suc before) n (step p s)) ended
    ∙ ap (numbered place_of p (suc before) n) (one_stays p s ended)
    ∙ ended_shows place_of p (suc before) n s ended

-- a failure leaves it as it is
pub failure_leaves : (row : PowerRow) (s : State) → is_running s.ending ≡ false → fail_behind row s ≡ s
unfolding fail
failure_leaves row s ended = by s.ending refl ended
  where
    by : (e : Ending) → s.ending ≡ e → is_running e ≡ false → fail_behind row s ≡ s
    by Running is h = absurd (cc h)
    by Halted is h = ap (λ e. fail_behind_at e row s) is
    by (Trapped code) is h = ap (λ e. fail_behind_at e row s) is

-- and so does a row
row_leaves : (p : Program) (row : PowerRow) (s : State) → is_running s.ending ≡ false → fail_behind row (exec p row.on s) ≡ s
row_leaves p row s ended = ap (fail_behind row) (ended_stays p row.on s ended) ∙ failure_leaves row s ended

-- a machine that goes on goes on behind a failure
pub failure_runs : (row : PowerRow) (s : State) → s.ending ≡ Running → (fail_behind row s).ending ≡ Running
unfolding fail
failure_runs row s is = ap (λ e. (fail_behind_at e row s).ending) is ∙ ap (λ e. (fail_at e row.fill s).ending) is ∙ is

-- behind all power rows it is as it was
pub ended_last : (p : Program) (rows : List PowerRow) (s : State) → is_running s.ending ≡ false → last_ending p rows s ≡ s.ending
unfolding last_ending
ended_last p [] s ended = refl
ended_last p (row ∷ rows) s ended = ap (λ t. last_ending p rows t) (row_leaves p row s ended) ∙ ended_last p rows s ended

-- and no more steps were done
pub ended_total : (p : Program) (rows : List PowerRow) (s : State) → is_running s.ending ≡ false → total_steps p rows s ≡ 0
unfolding total_steps
ended_total p [] s ended = refl
ended_total p (row ∷ rows) s ended =
    let behind : total_steps p rows (fail_behind row (exec p row.on s)) ≡ 0 = ap (λ t. total_steps p rows t) (row_leaves p row s ended) ∙ ended_total p rows s ended in
    omega (arith, ended_does p row.on s ended, behind)
