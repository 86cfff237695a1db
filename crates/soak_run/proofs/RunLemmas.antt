-- The boots of a run: what is left of the power rows, counted from here, is what all of them give.
use Rattle.std.specs.Prelude.{if◌then◌else◌}
use Rattle.std.proofs.Common.{◌≡◌, ◌∙◌, ℕ, suc, ◌+◌, ◌<◌, ◌≤◌, false, List, [], ◌∷◌, length, drop, get_or, Option, Some, None, refl, sym, ap, subst, arith}
use Rattle.std.proofs.Math.Seq.{drop-cons}
use Rattle.std.proofs.lemmas.List.Sums.{sum_by-cons}
use Rattle.devices.specs.World.{steps_of, ticks_of}
use Rattle.devices.specs.declared.event.RunEnd.{RunEnd}
use Rattle.devices.specs.declared.event.RunEnd.TheVariants as ended
use Rattle.devices.specs.declared.world.PowerRow.{PowerRow}
use Rattle.power_trace.specs.Run.{end_in}
use Rattle.soak_run.proofs.RowLemmas.{goes_on, ended_stays, IsRowDone}
use Rattle.soak_run.specs.Counts.{with_boot}
use Rattle.soak_run.specs.Ends.{last_state}
use Rattle.soak_run.specs.Steps.{with_steps, with_rows, AreWithin}
use Rattle.soak_run.specs.declared.counts.Counts.{Counts}
use Rattle.word_machine.specs.RunLaws.{clock_rises}
use Rattle.word_machine.specs.Runs.{is_running, last_ending, end_of, fail_behind_at, fail_behind}
use Rattle.word_machine.specs.State.{Program, State}
use Rattle.word_machine.specs.Step.{fail_at, fail, exec}
use Rattle.word_machine.specs.declared.ending.Ending.{Ending}
use Rattle.word_machine.specs.declared.ending.Ending.TheVariants.{Running, Halted, Trapped}

-- a failure leaves an ended machine as it is
ended_fails : (row : PowerRow) (t : State) → is_running t.ending ≡ false → fail_behind row t ≡ t
ended_fails row t over = by t.ending refl over
  where
    by : (e : Ending) → t.ending ≡ e → is_running e ≡ false → fail_behind_at e row t ≡ t
    by Running is h = cc
    by Halted is h = refl
    by (Trapped code) is h = refl

-- and so do all rows
ended_last : (p : Program) (rows : List PowerRow) (t : State) → is_running t.ending ≡ false → last_ending p rows t ≡ t.ending
unfolding last_ending
ended_last p [] t over = refl
ended_last p (row ∷ rows) t over =
    ap (λ u. last_ending p rows (fail_behind row u)) (ended_stays p row.on t over) ∙ ap (last_ending p rows) (ended_fails row t over) ∙ ended_last p rows t over

ended_state : (p : Program) (rows : List PowerRow) (t : State) → is_running t.ending ≡ false → last_state p rows t ≡ t
unfolding last_state
ended_state p [] t over = refl
ended_state p (row ∷ rows) t over =
    ap (λ u. last_state p rows (fail_behind row u)) (ended_stays p row.on t over) ∙ ap (last_state p rows) (ended_fails row t over) ∙ ended_state p rows t over

-- a failure of a machine that goes on
failed_runs : (row : PowerRow) (t : State) → t.ending ≡ Running → (fail_behind row t).ending ≡ Running
unfolding fail
failed_runs row t on = ap (λ e. (fail_behind_at e row t).ending) on ∙ ap (λ e. (fail_at e row.fill t).ending) on ∙ on

failed_clock : (row : PowerRow) (t : State) → t.ending ≡ Running → (fail_behind row t).clock ≡ t.clock + row.off
failed_clock row t on = ap (λ e. (fail_behind_at e row t).clock) on

-- one row more
last_more : (p : Program) (row : PowerRow) (rows : List PowerRow) (s : State) → last_ending p (row ∷ rows) s ≡ last_ending p rows (fail_behind row (exec p row.on s))
unfolding last_ending
last_more p row rows s = refl

state_more : (p : Program) (row : PowerRow) (rows : List PowerRow) (s : State) → last_state p (row ∷ rows) s ≡ last_state p rows (fail_behind row (exec p row.on s))
unfolding last_state
state_more p row rows s = refl

counts_more : (p : Program) (row : PowerRow) (rows : List PowerRow) (s : State) (c : Counts)
    → with_rows p (row ∷ rows) s c ≡ (if is_running (exec p row.on s).ending then with_rows p rows (fail_behind row (exec p row.on s)) (with_steps p row.on s (with_boot c)) else with_steps p row.on s (with_boot c))
unfolding with_rows
counts_more p row rows s c = refl

-- a run that is under way
pub record IsInRun (p : Program) (rows0 : List PowerRow) (s0 : State) (c0 : Counts) (rows : List PowerRow) (n : ℕ) (s : State) (c : Counts) : Type 0 where
  pub running : s.ending ≡ Running
  pub ending : last_ending p rows s ≡ last_ending p rows0 s0
  pub state : last_state p rows s ≡ last_state p rows0 s0
  pub counts : with_rows p rows s c ≡ with_rows p rows0 s0 c0
  pub room : n + steps_of rows ≤ 4194304
  pub clock : s.clock + ticks_of rows ≤ 4294967295
  pub within : AreWithin n c

pub run_begins : (p : Program) (rows : List PowerRow) (n : ℕ) (s : State) (c : Counts)
    → s.ending ≡ Running → n + steps_of rows ≤ 4194304 → s.clock + ticks_of rows ≤ 4294967295 → AreWithin n c → IsInRun p rows s c rows n s c
run_begins p rows n s c running room clock within = record { running = running; ending = refl; state = refl; counts = refl; room = room; clock = clock; within = within }

-- the row at a place, and those behind it
pub next_row : (rows : List PowerRow) (i : ℕ) (d : PowerRow) → i < length rows → drop i rows ≡ get_or rows i d ∷ drop (i + 1) rows
next_row rows i d there = let one : suc i ≡ i + 1 = omega arith in drop-cons rows i d there ∙ ap (λ k. get_or rows i d ∷ drop k rows) one

-- a row of the same program, with the same end
pub row_as : (p q : Program) (on : ℕ) (s0 : State) (c0 c1 : Counts) (n0 n : ℕ) (after : State) (c : Counts) (end told : Option RunEnd)
    → q ≡ p → c1 ≡ c0 → end ≡ told → IsRowDone q on s0 c1 n0 n after c end → IsRowDone p on s0 c0 n0 n after c told
row_as p q on s0 c0 c1 n0 n after c end told same counted is done =
    subst (IsRowDone p on s0 c0 n0 n after c) is (subst (λ x. IsRowDone p on s0 x n0 n after c end) counted (subst (λ r. IsRowDone r on s0 c1 n0 n after c end) same done))

-- there is room for the steps and the ticks of a row
pub row_room : (p : Program) (rows0 : List PowerRow) (s0 : State) (c0 : Counts) (row : PowerRow) (left rows : List PowerRow) (n : ℕ) (s : State) (c : Counts)
    → IsInRun p rows0 s0 c0 left n s c → left ≡ row ∷ rows → n + row.on ≤ 4194304
row_room p rows0 s0 c0 row left rows n s c run more =
    let total : steps_of left ≡ row.on + steps_of rows = ap steps_of more ∙ sum_by-cons (λ (r : PowerRow). r.on) row rows in
    omega (arith, run.room, total)

pub row_clock : (p : Program) (rows0 : List PowerRow) (s0 : State) (c0 : Counts) (row : PowerRow) (left rows : List PowerRow) (n : ℕ) (s : State) (c : Counts)
    → IsInRun p rows0 s0 c0 left n s c → left ≡ row ∷ rows → s.clock + row.on ≤ 4294967295
row_clock p rows0 s0 c0 row left rows n s c run more =
    let ticks : ticks_of left ≡ row.on + row.off + ticks_of rows = ap ticks_of more ∙ sum_by-cons (λ (r : PowerRow). r.on + r.off) row rows in
    omega (arith, run.clock, ticks)

-- the clock has room for the time without power behind a row
pub fail_room : (p : Program) (rows0 : List PowerRow) (s0 : State) (c0 : Counts) (row : PowerRow) (left rows : List PowerRow) (n k : ℕ) (s after : State) (c d : Counts)
    → IsInRun p rows0 s0 c0 left n s c → left ≡ row ∷ rows → IsRowDone p row.on s (with_boot c) n k after d None → after.clock + row.off ≤ 4294967295
fail_room p rows0 s0 c0 row left rows n k s after c d run more done =
    let on : (exec p row.on s).ending ≡ Running = goes_on (exec p row.on s).ending (sym done.ended) in
    let ticks : ticks_of left ≡ row.on + row.off + ticks_of rows = ap ticks_of more ∙ sum_by-cons (λ (r : PowerRow). r.on + r.off) row rows in
    let rose : after.clock ≡ s.clock + row.on = ap (λ (t : State). t.clock) done.state ∙ clock_rises p row.on s on in
    omega (arith, run.clock, ticks, rose)

-- a row behind which the run goes on
pub run_on : (p : Program) (rows0 : List PowerRow) (s0 : State) (c0 : Counts) (row : PowerRow) (left rows : List PowerRow) (n k : ℕ) (s after failed : State) (c d : Counts)
    → IsInRun p rows0 s0 c0 left n s c → left ≡ row ∷ rows → IsRowDone p row.on s (with_boot c) n k after d None → failed ≡ fail_behind row after
    → IsInRun p rows0 s0 c0 rows k failed d
run_on p rows0 s0 c0 row left rows n k s after failed c d run more done fails =
    let t = exec p row.on s in
    let on : t.ending ≡ Running = goes_on t.ending (sym done.ended) in
    let there : fail_behind row t ≡ failed = sym (fails ∙ ap (fail_behind row) done.state) in
    let total : steps_of left ≡ row.on + steps_of rows = ap steps_of more ∙ sum_by-cons (λ (r : PowerRow). r.on) row rows in
    let ticks : ticks_of left ≡ row.on + row.off + ticks_of rows = ap ticks_of more ∙ sum_by-cons (λ (r : PowerRow). r.on + r.off) row rows in
    let rose : t.clock ≡ s.clock + row.on = clock_rises p row.on s on in
    let counted : with_rows p left s c ≡ with_rows p rows (fail_behind row t) (with_steps p row.on s (with_boot c)) =
    ap (λ rs. with_rows p rs s c) more ∙ counts_more p row rows s c
    ∙ ap (λ e. if is_running e then with_rows p rows (fail_behind row t) (with_steps p row.on s (with_boot c)) else with_steps p row.on s (with_boot c)) on in
    subst (λ u. IsInRun p rows0 s0 c0 rows k u d) there (record {
      running = failed_runs row t on;
      ending = sym (ap (λ rs. last_ending p rs s) more ∙ last_more p row rows s) ∙ run.ending;
      state = sym (ap (λ rs. last_state p rs s) more ∙ state_more p row rows s) ∙ run.state;
      counts = ap (with_rows p rows (fail_behind row t)) done.counts ∙ sym counted ∙ run.counts;
      room = omega (arith, run.room, total, done.steps);
      clock = omega (arith, run.clock, ticks, rose, failed_clock row t on);
      within = done.within;
    })

-- what a run leaves
pub record IsRunDone (p : Program) (rows0 : List PowerRow) (s0 : State) (c0 : Counts) (s : State) (c : Counts) (told : RunEnd) : Type 0 where
  pub counts : c ≡ with_rows p rows0 s0 c0
  pub end : told ≡ end_of (last_ending p rows0 s0)
  pub state : s ≡ last_state p rows0 s0

end_same : (e : Ending) (end : RunEnd) → Some end ≡ end_in e → (is_running e ≡ false) × (end ≡ end_of e)
end_same Running end is = cc
end_same Halted end is = (refl, cc)
end_same (Trapped code) end is = (refl, cc)

-- a row in which the machine ends
pub run_ends : (p : Program) (rows0 : List PowerRow) (s0 : State) (c0 : Counts) (row : PowerRow) (left rows : List PowerRow) (n k : ℕ) (s after : State) (c d : Counts) (end : RunEnd)
    → IsInRun p rows0 s0 c0 left n s c → left ≡ row ∷ rows → IsRowDone p row.on s (with_boot c) n k after d (Some end) → IsRunDone p rows0 s0 c0 after d end
run_ends p rows0 s0 c0 row left rows n k s after c d end run more done =
    let t = exec p row.on s in
    let both = end_same t.ending end done.ended in
    let over : is_running t.ending ≡ false = both.0 in
    let stays : fail_behind row t ≡ t = ended_fails row t over in
    let last : last_ending p left s ≡ t.ending = ap (λ rs. last_ending p rs s) more ∙ last_more p row rows s ∙ ap (last_ending p rows) stays ∙ ended_last p rows t over in
    let there : last_state p left s ≡ t = ap (λ rs. last_state p rs s) more ∙ state_more p row rows s ∙ ap (last_state p rows) stays ∙ ended_state p rows t over in
    let counted : with_rows p left s c ≡ with_steps p row.on s (with_boot c) =
    ap (λ rs. with_rows p rs s c) more ∙ counts_more p row rows s c
    ∙ ap (λ b. if b then with_rows p rows (fail_behind row t) (with_steps p row.on s (with_boot c)) else with_steps p row.on s (with_boot c)) over in
    record {
      counts = done.counts ∙ sym counted ∙ run.counts;
      end = both.1 ∙ ap end_of (sym last ∙ run.ending);
      state = done.state ∙ sym there ∙ run.state;
    }

-- no row is left
pub run_over : (p : Program) (rows0 : List PowerRow) (s0 : State) (c0 : Counts) (left : List PowerRow) (n : ℕ) (s : State) (c : Counts)
    → IsInRun p rows0 s0 c0 left n s c → left ≡ [] → IsRunDone p rows0 s0 c0 s c ended.Power
unfolding last_ending last_state with_rows
run_over p rows0 s0 c0 left n s c run none =
    let last : last_ending p left s ≡ s.ending = ap (λ rs. last_ending p rs s) none in
    record {
      counts = sym (ap (λ rs. with_rows p rs s c) none) ∙ run.counts;
      end = ap end_of (sym run.running ∙ sym last ∙ run.ending);
      state = sym (ap (λ rs. last_state p rs s) none) ∙ run.state;
    }
