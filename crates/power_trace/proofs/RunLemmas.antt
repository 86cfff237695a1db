-- The boots of a run: each writes its lines, and what is left of the power rows is the rest.
use Rattle.std.specs.Prelude.{codes, if◌then◌else◌}
use Rattle.std.proofs.Common.{◌≡◌, ◌∙◌, ℕ, zero, suc, ◌+◌, ◌<◌, ◌≤◌, Bool, true, false, List, [], ◌∷◌, ◌++◌, length, drop, get_or, Option, Some, None, refl, sym, ap, subst, append_assoc, arith}
use Rattle.std.proofs.Math.Seq.{drop-cons}
use Rattle.std.proofs.lemmas.List.Sums.{sum_by-cons}
use Rattle.devices.specs.World.{steps_of, ticks_of}
use Rattle.devices.specs.declared.event.RunEnd.{RunEnd}
use Rattle.devices.specs.declared.event.RunEnd.TheVariants as ended
use Rattle.devices.specs.declared.world.PowerRow.{PowerRow}
use Rattle.power_trace.proofs.RowLemmas.{goes_on, ended_stays, ended_does, IsRowDone}
use Rattle.power_trace.specs.Way.{IsOnWay, way_begins, way_goes, way_ends}
use Rattle.power_trace.specs.Report.{style_of, place_in, event_lines, boots_lines, number, line}
use Rattle.power_trace.specs.Run.{end_in}
use Rattle.power_trace.specs.Writing.{Wrote}
use Rattle.word_isa.specs.declared.image.Image.{Image}
use Rattle.word_machine.specs.RunLaws.{clock_rises, stays_halted, stays_trapped}
use Rattle.word_machine.specs.Runs.{is_running, numbered, boots, steps_done, total_steps, last_ending, end_of, fail_behind_at, fail_behind}
use Rattle.word_machine.specs.State.{Program, State}
use Rattle.word_machine.specs.Step.{fail_at, fail, step, exec}
use Rattle.word_machine.specs.declared.ending.Ending.{Ending}
use Rattle.word_machine.specs.declared.ending.Ending.TheVariants.{Running, Halted, Trapped}

-- the lines of a row's boot but for the first
abbrev pub row_lines : Image → Bool → Program → (before : ℕ) → PowerRow → State → List ℕ
row_lines image brief p before row s = event_lines (style_of image brief) (numbered (place_in image) p before row.on s)

abbrev pub first_line : Image → Bool → (before k : ℕ) → List ℕ
first_line image brief before k = line (style_of image brief) before (codes "boot" ++ number k)

abbrev pub run_lines : Image → Bool → Program → List PowerRow → (k before : ℕ) → State → List ℕ
run_lines image brief p rows k before s = boots_lines (style_of image brief) k (boots (place_in image) p rows before s)

-- the lines behind a row
abbrev pub lines_behind : Image → Bool → Program → PowerRow → List PowerRow → (k before : ℕ) → State → List ℕ
lines_behind image brief p row rows k before s =
    if is_running (exec p row.on s).ending then run_lines image brief p rows (suc k) (before + row.on) (fail_behind row (exec p row.on s)) else []

-- the lines of all rows by their parts
run_opens : (image : Image) (brief : Bool) (p : Program) (row : PowerRow) (rows : List PowerRow) (k before : ℕ) (s : State)
    → run_lines image brief p (row ∷ rows) k before s ≡ first_line image brief before k ++ (row_lines image brief p before row s ++ lines_behind image brief p row rows k before s)
unfolding boots
run_opens image brief p row rows k before s =
    by (is_running (exec p row.on s).ending) ∙ append_assoc (first_line image brief before k) (row_lines image brief p before row s) (lines_behind image brief p row rows k before s)
  where
    by : (b : Bool) → first_line image brief before k ++ row_lines image brief p before row s
        ++ boots_lines (style_of image brief) (suc k) (if b then boots (place_in image) p rows (before + row.on) (fail_behind row (exec p row.on s)) else [])
        ≡ first_line image brief before k ++ row_lines image brief p before row s
        ++ (if b then run_lines image brief p rows (suc k) (before + row.on) (fail_behind row (exec p row.on s)) else [])
    by true = refl
    by false = refl

-- a machine that goes on has done all steps
all_done : (p : Program) (n : ℕ) (s : State) → (exec p n s).ending ≡ Running → steps_done p n s ≡ n
unfolding exec steps_done
all_done p zero s on = refl
all_done p (suc n) s on = by s.ending refl (all_done p n (step p s) on)
  where
    by : (e : Ending) → s.ending ≡ e → steps_done p n (step p s) ≡ n → (if is_running s.ending then suc (steps_done p n (step p s)) else 0) ≡ suc n
    by Running is rest = ap (λ e. if is_running e then suc (steps_done p n (step p s)) else 0) is ∙ ap suc rest
    by Halted is rest = let ended : (exec p n (step p s)).ending ≡ s.ending = ap (λ t. t.ending) (stays_halted p (suc n) s is) in cc
    by (Trapped code) is rest = let ended : (exec p n (step p s)).ending ≡ s.ending = ap (λ t. t.ending) (stays_trapped p (suc n) code s is) in cc

-- a failure leaves an ended machine as it is
ended_fails : (row : PowerRow) (t : State) → is_running t.ending ≡ false → fail_behind row t ≡ t
ended_fails row t over = by t.ending refl over
  where
    by : (e : Ending) → t.ending ≡ e → is_running e ≡ false → fail_behind_at e row t ≡ t
    by Running is h = cc
    by Halted is h = refl
    by (Trapped code) is h = refl

-- and so do all rows
ended_last : (p : Program) (rows : List PowerRow) (t : State) → is_running t.ending ≡ false → last_ending p rows t ≡ t.ending
unfolding last_ending
ended_last p [] t over = refl
ended_last p (row ∷ rows) t over =
    ap (λ u. last_ending p rows (fail_behind row u)) (ended_stays p row.on t over) ∙ ap (last_ending p rows) (ended_fails row t over) ∙ ended_last p rows t over

ended_total : (p : Program) (rows : List PowerRow) (t : State) → is_running t.ending ≡ false → total_steps p rows t ≡ 0
unfolding total_steps
ended_total p [] t over = refl
ended_total p (row ∷ rows) t over =
    let first : steps_done p row.on t ≡ 0 = ended_does p row.on t over in
    let rest : total_steps p rows (fail_behind row (exec p row.on t)) ≡ 0 =
    ap (λ u. total_steps p rows (fail_behind row u)) (ended_stays p row.on t over) ∙ ap (total_steps p rows) (ended_fails row t over) ∙ ended_total p rows t over in
    omega (arith, first, rest)

-- a failure of a machine that goes on
failed_runs : (row : PowerRow) (t : State) → t.ending ≡ Running → (fail_behind row t).ending ≡ Running
unfolding fail
failed_runs row t on = ap (λ e. (fail_behind_at e row t).ending) on ∙ ap (λ e. (fail_at e row.fill t).ending) on ∙ on

-- a run that is under way
pub record IsInRun (image : Image) (brief : Bool) (p : Program) (rows0 : List PowerRow) (before : ℕ) (s0 : State) (start : Option (List ℕ)) (f0 : ℕ) (rows : List PowerRow) (k steps : ℕ) (s : State) (now : Option (List ℕ)) (f1 : ℕ) : Type 0 where
  pub running : s.ending ≡ Running
  pub ending : last_ending p rows s ≡ last_ending p rows0 s0
  pub count : steps + total_steps p rows s ≡ before + total_steps p rows0 s0
  pub room : steps + steps_of rows ≤ 4194304
  pub clock : s.clock + ticks_of rows ≤ 4294967295
  pub way : IsOnWay start now f0 f1 (run_lines image brief p rows k steps s) (run_lines image brief p rows0 1 before s0)

pub run_begins : (image : Image) (brief : Bool) (p : Program) (rows : List PowerRow) (steps : ℕ) (s : State) (start : Option (List ℕ)) (f0 : ℕ)
    → s.ending ≡ Running → steps + steps_of rows ≤ 4194304 → s.clock + ticks_of rows ≤ 4294967295 → IsInRun image brief p rows steps s start f0 rows 1 steps s start f0
run_begins image brief p rows steps s start f0 running room clock = record {
  running = running;
  ending = refl;
  count = refl;
  room = room;
  clock = clock;
  way = way_begins start start f0 f0 _ _ refl refl refl;
}

last_more : (p : Program) (row : PowerRow) (rows : List PowerRow) (s : State) → last_ending p (row ∷ rows) s ≡ last_ending p rows (fail_behind row (exec p row.on s))
unfolding last_ending
last_more p row rows s = refl

total_more : (p : Program) (row : PowerRow) (rows : List PowerRow) (s : State) → total_steps p (row ∷ rows) s ≡ steps_done p row.on s + total_steps p rows (fail_behind row (exec p row.on s))
unfolding total_steps
total_more p row rows s = refl

failed_clock : (row : PowerRow) (t : State) → t.ending ≡ Running → (fail_behind row t).clock ≡ t.clock + row.off
failed_clock row t on = ap (λ e. (fail_behind_at e row t).clock) on

-- what is left, where a row is to run
pub way_boots : (image : Image) (brief : Bool) (p : Program) (rows0 : List PowerRow) (before : ℕ) (s0 : State) (start : Option (List ℕ)) (f0 : ℕ) (row : PowerRow) (left rows : List PowerRow) (k steps : ℕ) (s : State) (now : Option (List ℕ)) (f1 : ℕ)
    → IsInRun image brief p rows0 before s0 start f0 left k steps s now f1 → left ≡ row ∷ rows
    → IsOnWay start now f0 f1 (first_line image brief steps k ++ (row_lines image brief p steps row s ++ lines_behind image brief p row rows k steps s)) (run_lines image brief p rows0 1 before s0)
way_boots image brief p rows0 before s0 start f0 row left rows k steps s now f1 run more =
    subst (λ t. IsOnWay start now f0 f1 t (run_lines image brief p rows0 1 before s0)) (ap (λ rs. run_lines image brief p rs k steps s) more ∙ run_opens image brief p row rows k steps s) run.way

-- and where its boot's first line is written
pub way_row : (image : Image) (brief : Bool) (p : Program) (rows0 : List PowerRow) (before : ℕ) (s0 : State) (start : Option (List ℕ)) (f0 : ℕ) (row : PowerRow) (left rows : List PowerRow) (k steps : ℕ) (s : State) (now : Option (List ℕ)) (f1 : ℕ) (mid : Option (List ℕ)) (f2 : ℕ)
    → IsInRun image brief p rows0 before s0 start f0 left k steps s now f1 → left ≡ row ∷ rows → Wrote now mid f1 f2 (first_line image brief steps k)
    → IsOnWay start mid f0 f2 (row_lines image brief p steps row s ++ lines_behind image brief p row rows k steps s) (run_lines image brief p rows0 1 before s0)
way_row image brief p rows0 before s0 start f0 row left rows k steps s now f1 mid f2 run more boot =
    way_goes start now mid f0 f1 f2 (first_line image brief steps k) _ _ (way_boots image brief p rows0 before s0 start f0 row left rows k steps s now f1 run more) boot

-- a row behind which the run goes on
pub run_on : (image : Image) (brief : Bool) (p : Program) (rows0 : List PowerRow) (before : ℕ) (s0 : State) (start : Option (List ℕ)) (f0 : ℕ) (row : PowerRow) (left rows : List PowerRow) (k steps : ℕ) (s : State) (now : Option (List ℕ)) (f1 : ℕ) (mid : Option (List ℕ)) (f2 n : ℕ) (after failed : State) (new : Option (List ℕ)) (f3 : ℕ)
    → IsInRun image brief p rows0 before s0 start f0 left k steps s now f1 → left ≡ row ∷ rows → Wrote now mid f1 f2 (first_line image brief steps k)
    → IsRowDone image brief p row.on steps s mid f2 n after new f3 None → failed ≡ fail_behind row after
    → IsInRun image brief p rows0 before s0 start f0 rows (k + 1) n failed new f3
run_on image brief p rows0 before s0 start f0 row left rows k steps s now f1 mid f2 n after failed new f3 run more boot done fails =
    let t = exec p row.on s in
    let on : t.ending ≡ Running = goes_on t.ending (sym done.ended) in
    let all : steps_done p row.on s ≡ row.on = all_done p row.on s on in
    let counted : n ≡ steps + row.on = omega (arith, done.steps, all) in
    let there : fail_behind row t ≡ failed = sym (fails ∙ ap (fail_behind row) done.state) in
    let way = way_goes start mid new f0 f2 f3 (row_lines image brief p steps row s) _ _ (way_row image brief p rows0 before s0 start f0 row left rows k steps s now f1 mid f2 run more boot) done.text in
    let one : suc k ≡ k + 1 = omega arith in
    let rest : lines_behind image brief p row rows k steps s ≡ run_lines image brief p rows (k + 1) n (fail_behind row t) =
    ap (λ e. if is_running e then run_lines image brief p rows (suc k) (steps + row.on) (fail_behind row t) else []) on ∙ ap (λ m. run_lines image brief p rows (suc k) m (fail_behind row t)) (sym counted)
    ∙ ap (λ j. run_lines image brief p rows j n (fail_behind row t)) one in
    let total : steps_of left ≡ row.on + steps_of rows = ap steps_of more ∙ sum_by-cons (λ (r : PowerRow). r.on) row rows in
    let ticks : ticks_of left ≡ row.on + row.off + ticks_of rows = ap ticks_of more ∙ sum_by-cons (λ (r : PowerRow). r.on + r.off) row rows in
    let did : total_steps p left s ≡ steps_done p row.on s + total_steps p rows (fail_behind row t) = ap (λ rs. total_steps p rs s) more ∙ total_more p row rows s in
    let rose : t.clock ≡ s.clock + row.on = clock_rises p row.on s on in
    subst (λ u. IsInRun image brief p rows0 before s0 start f0 rows (k + 1) n u new f3) there (record {
      running = failed_runs row t on;
      ending = sym (ap (λ rs. last_ending p rs s) more ∙ last_more p row rows s) ∙ run.ending;
      count = omega (arith, run.count, did, done.steps);
      room = omega (arith, run.room, total, counted);
      clock = omega (arith, run.clock, ticks, rose, failed_clock row t on);
      way = subst (λ l. IsOnWay start new f0 f3 l (run_lines image brief p rows0 1 before s0)) rest way;
    })

-- what a run leaves
pub record IsRunDone (image : Image) (brief : Bool) (p : Program) (rows0 : List PowerRow) (before : ℕ) (s0 : State) (start : Option (List ℕ)) (f0 n : ℕ) (new : Option (List ℕ)) (f3 : ℕ) (told : RunEnd) : Type 0 where
  pub text : Wrote start new f0 f3 (run_lines image brief p rows0 1 before s0)
  pub end : told ≡ end_of (last_ending p rows0 s0)
  pub steps : n ≡ before + total_steps p rows0 s0

end_same : (e : Ending) (end : RunEnd) → Some end ≡ end_in e → (is_running e ≡ false) × (end ≡ end_of e)
end_same Running end is = cc
end_same Halted end is = (refl, cc)
end_same (Trapped code) end is = (refl, cc)

-- a row in which the machine ends
pub run_ends : (image : Image) (brief : Bool) (p : Program) (rows0 : List PowerRow) (before : ℕ) (s0 : State) (start : Option (List ℕ)) (f0 : ℕ) (row : PowerRow) (left rows : List PowerRow) (k steps : ℕ) (s : State) (now : Option (List ℕ)) (f1 : ℕ) (mid : Option (List ℕ)) (f2 n : ℕ) (after : State) (new : Option (List ℕ)) (f3 : ℕ) (end : RunEnd)
    → IsInRun image brief p rows0 before s0 start f0 left k steps s now f1 → left ≡ row ∷ rows → Wrote now mid f1 f2 (first_line image brief steps k)
    → IsRowDone image brief p row.on steps s mid f2 n after new f3 (Some end)
    → IsRunDone image brief p rows0 before s0 start f0 n new f3 end
run_ends image brief p rows0 before s0 start f0 row left rows k steps s now f1 mid f2 n after new f3 end run more boot done =
    let t = exec p row.on s in
    let both = end_same t.ending end done.ended in
    let over : is_running t.ending ≡ false = both.0 in
    let way = way_goes start mid new f0 f2 f3 (row_lines image brief p steps row s) _ _ (way_row image brief p rows0 before s0 start f0 row left rows k steps s now f1 mid f2 run more boot) done.text in
    let none : lines_behind image brief p row rows k steps s ≡ [] = ap (λ b. if b then run_lines image brief p rows (suc k) (steps + row.on) (fail_behind row t) else []) over in
    let stays : fail_behind row t ≡ t = ended_fails row t over in
    let last : last_ending p left s ≡ t.ending = ap (λ rs. last_ending p rs s) more ∙ last_more p row rows s ∙ ap (last_ending p rows) stays ∙ ended_last p rows t over in
    let did : total_steps p left s ≡ steps_done p row.on s + total_steps p rows (fail_behind row t) = ap (λ rs. total_steps p rs s) more ∙ total_more p row rows s in
    let nothing : total_steps p rows (fail_behind row t) ≡ 0 = ap (total_steps p rows) stays ∙ ended_total p rows t over in
    record {
      text = way_ends start new f0 f3 _ _ way none;
      end = both.1 ∙ ap end_of (sym last ∙ run.ending);
      steps = omega (arith, run.count, did, nothing, done.steps);
    }

-- no row is left
pub run_over : (image : Image) (brief : Bool) (p : Program) (rows0 : List PowerRow) (before : ℕ) (s0 : State) (start : Option (List ℕ)) (f0 : ℕ) (left : List PowerRow) (k steps : ℕ) (s : State) (now : Option (List ℕ)) (f1 : ℕ)
    → IsInRun image brief p rows0 before s0 start f0 left k steps s now f1 → left ≡ [] → IsRunDone image brief p rows0 before s0 start f0 steps now f1 ended.Power
unfolding boots last_ending total_steps
run_over image brief p rows0 before s0 start f0 left k steps s now f1 run none =
    let last : last_ending p left s ≡ s.ending = ap (λ rs. last_ending p rs s) none in
    let nothing : total_steps p left s ≡ 0 = ap (λ rs. total_steps p rs s) none in
    record {
      text = way_ends start now f0 f1 _ _ run.way (ap (λ rs. run_lines image brief p rs k steps s) none);
      end = ap end_of (sym run.running ∙ sym last ∙ run.ending);
      steps = omega (arith, run.count, nothing);
    }

-- the row at a place, and those behind it
pub next_row : (rows : List PowerRow) (i : ℕ) (d : PowerRow) → i < length rows → drop i rows ≡ get_or rows i d ∷ drop (i + 1) rows
next_row rows i d there = let one : suc i ≡ i + 1 = omega arith in drop-cons rows i d there ∙ ap (λ k. get_or rows i d ∷ drop k rows) one

-- a row of the same program, with the same end
pub row_as : (image : Image) (brief : Bool) (p q : Program) (on before : ℕ) (s0 : State) (start : Option (List ℕ)) (f0 n : ℕ) (after : State) (new : Option (List ℕ)) (f2 : ℕ) (end told : Option RunEnd)
    → q ≡ p → end ≡ told → IsRowDone image brief q on before s0 start f0 n after new f2 end → IsRowDone image brief p on before s0 start f0 n after new f2 told
row_as image brief p q on before s0 start f0 n after new f2 end told same is done =
    subst (IsRowDone image brief p on before s0 start f0 n after new f2) is (subst (λ r. IsRowDone image brief r on before s0 start f0 n after new f2 end) same done)

-- the clock has room for the time without power behind a row
pub fail_room : (image : Image) (brief : Bool) (p : Program) (rows0 : List PowerRow) (before : ℕ) (s0 : State) (start : Option (List ℕ)) (f0 : ℕ) (row : PowerRow) (left rows : List PowerRow) (k steps : ℕ) (s : State) (now : Option (List ℕ)) (f1 : ℕ) (mid : Option (List ℕ)) (f2 n : ℕ) (after : State) (new : Option (List ℕ)) (f3 : ℕ)
    → IsInRun image brief p rows0 before s0 start f0 left k steps s now f1 → left ≡ row ∷ rows → IsRowDone image brief p row.on steps s mid f2 n after new f3 None
    → after.clock + row.off ≤ 4294967295
fail_room image brief p rows0 before s0 start f0 row left rows k steps s now f1 mid f2 n after new f3 run more done =
    let on : (exec p row.on s).ending ≡ Running = goes_on (exec p row.on s).ending (sym done.ended) in
    let ticks : ticks_of left ≡ row.on + row.off + ticks_of rows = ap ticks_of more ∙ sum_by-cons (λ (r : PowerRow). r.on + r.off) row rows in
    let rose : after.clock ≡ s.clock + row.on = ap (λ t. t.clock) done.state ∙ clock_rises p row.on s on in
    omega (arith, run.clock, ticks, rose)
