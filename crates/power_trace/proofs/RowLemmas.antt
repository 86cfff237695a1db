-- The steps of a power row: each writes its line, and what is left of the row is the rest.
use Rattle.std.specs.Prelude.{map, if◌then◌else◌}
use Rattle.std.proofs.Common.{◌≡◌, ◌∙◌, ℕ, zero, suc, ◌+◌, ◌≤◌, Bool, false, List, [], ◌∷◌, ◌++◌, Option, Some, None, refl, sym, ap, subst, append_assoc, append-nil, arith}
use Rattle.devices.specs.Journal.{Place, JournalEvent}
use Rattle.devices.specs.declared.event.Event.{Event}
use Rattle.devices.specs.declared.event.RunEnd.{RunEnd}
use Rattle.power_trace.specs.Way.{IsOnWay, way_begins, way_goes, way_ends}
use Rattle.power_trace.specs.Report.{Style, style_of, place_in, event_lines, event_text, line}
use Rattle.power_trace.specs.Run.{told_text, end_told, end_in}
use Rattle.power_trace.specs.Writing.{Wrote}
use Rattle.word_isa.specs.declared.image.Image.{Image}
use Rattle.word_machine.specs.Events.{told, event_next, stepped_next}
use Rattle.word_machine.specs.RunLaws.{stays_halted, stays_trapped}
use Rattle.word_machine.specs.Runs.{is_running, told_event, journal_event, numbered, steps_done}
use Rattle.word_machine.specs.State.{Program, State}
use Rattle.word_machine.specs.Step.{step, exec}
use Rattle.word_machine.specs.declared.ending.Ending.{Ending}
use Rattle.word_machine.specs.declared.ending.Ending.TheVariants.{Running, Halted, Trapped}
use Rattle.word_machine.specs.declared.stepped.Stepped.{Stepped}
use Rattle.word_machine.specs.declared.stepped.Stepped.TheVariants as stepped

lines_more : (style : Style) (a b : List (ℕ × JournalEvent)) → event_lines style (a ++ b) ≡ event_lines style a ++ event_lines style b
lines_more style [] b = refl
lines_more style (e ∷ a) b =
    let first = line style e.0 (event_text style e.1) in
    ap (λ t. first ++ t) (lines_more style a b) ∙ sym (append_assoc first (event_lines style a) (event_lines style b))

-- the line of what a step answers is that of its event
told_lines : (image : Image) (brief : Bool) (n : ℕ) (answer : Stepped)
    → event_lines (style_of image brief) (map (λ e. (n, e)) (told_event (place_in image) answer)) ≡ told_text image brief n answer
told_lines image brief n (stepped.Ran None) = refl
told_lines image brief n (stepped.Ran (Some e)) = append-nil _
told_lines image brief n stepped.Halted = refl
told_lines image brief n (stepped.Trapped code) = append-nil _

-- the end that an answer tells is that of the machine behind the step
end_is : (e : Ending) (event : Option Event) → end_told (told e event) ≡ end_in e
end_is Running event = refl
end_is Halted event = refl
end_is (Trapped code) event = refl

-- a machine without an end goes on
pub goes_on : (e : Ending) → end_in e ≡ None → e ≡ Running
goes_on Running none = refl
goes_on Halted none = cc
goes_on (Trapped code) none = cc

running_is : (e : Ending) (end : RunEnd) → end_in e ≡ Some end → is_running e ≡ false
running_is Running end is = cc
running_is Halted end is = refl
running_is (Trapped code) end is = refl

-- an ended machine stays as it is
pub ended_stays : (p : Program) (n : ℕ) (t : State) → is_running t.ending ≡ false → exec p n t ≡ t
ended_stays p n t ended = by t.ending refl ended
  where
    by : (e : Ending) → t.ending ≡ e → is_running e ≡ false → exec p n t ≡ t
    by Running is h = cc
    by Halted is h = stays_halted p n t is
    by (Trapped code) is h = stays_trapped p n code t is

one_stays : (p : Program) (t : State) → is_running t.ending ≡ false → step p t ≡ t
unfolding exec
one_stays p t ended = ended_stays p 1 t ended

-- does no step
pub ended_does : (p : Program) (n : ℕ) (t : State) → is_running t.ending ≡ false → steps_done p n t ≡ 0
unfolding steps_done
ended_does p zero t ended = refl
ended_does p (suc n) t ended = ap (λ b. if b then suc (steps_done p n (step p t)) else 0) ended

-- and shows nothing
ended_shows : (place_of : ℕ → Place) (p : Program) (before n : ℕ) (t : State) → is_running t.ending ≡ false → numbered place_of p before n t ≡ []
unfolding numbered
ended_shows place_of p before zero t ended = refl
ended_shows place_of p before (suc n) t ended =
    ap (λ b. map (λ (e : JournalEvent). (suc before, e)) (if b then told_event place_of (stepped_next p t) else []) ++ numbered place_of p (suc before) n (step p t)) ended
    ∙ ap (numbered place_of p (suc before) n) (one_stays p t ended)
    ∙ ended_shows place_of p (suc before) n t ended

-- a row that is under way: what is written, with the lines of the steps that are left, is what all its steps write
pub record IsInRow (image : Image) (brief : Bool) (p : Program) (on before : ℕ) (s0 : State) (start : Option (List ℕ)) (f0 : ℕ) (left steps : ℕ) (s : State) (now : Option (List ℕ)) (f1 : ℕ) : Type 0 where
  pub running : s.ending ≡ Running
  pub state : exec p left s ≡ exec p on s0
  pub count : steps + steps_done p left s ≡ before + steps_done p on s0
  pub room : steps + left ≤ 4194304
  pub clock : s.clock + left ≤ 4294967295
  pub way : IsOnWay start now f0 f1 (event_lines (style_of image brief) (numbered (place_in image) p steps left s)) (event_lines (style_of image brief) (numbered (place_in image) p before on s0))

-- at its beginning
pub row_begins : (image : Image) (brief : Bool) (p : Program) (on left steps : ℕ) (s : State) (start : Option (List ℕ)) (f0 : ℕ)
    → s.ending ≡ Running → left ≡ on → steps + on ≤ 4194304 → s.clock + on ≤ 4294967295 → IsInRow image brief p on steps s start f0 left steps s start f0
row_begins image brief p on left steps s start f0 running all room clock = record {
  running = running;
  state = ap (λ n. exec p n s) all;
  count = ap (λ n. steps + steps_done p n s) all;
  room = omega (arith, all, room);
  clock = omega (arith, all, clock);
  way = way_begins start start f0 f0 _ _ refl refl (ap (λ n. event_lines (style_of image brief) (numbered (place_in image) p steps n s)) all);
}

-- the text that is left, at its next step
pub row_opens : (image : Image) (brief : Bool) (p : Program) (steps m : ℕ) (s : State) (answer : Stepped) → s.ending ≡ Running → answer ≡ stepped_next p s
    → event_lines (style_of image brief) (numbered (place_in image) p steps (suc m) s) ≡ told_text image brief (suc steps) answer ++ event_lines (style_of image brief) (numbered (place_in image) p (suc steps) m (step p s))
unfolding numbered
row_opens image brief p steps m s answer running is =
    let style = style_of image brief in
    let one : map (λ (e : JournalEvent). (suc steps, e)) (journal_event (place_in image) p s) ≡ map (λ e. (suc steps, e)) (told_event (place_in image) answer) =
    ap (λ e. map (λ (e : JournalEvent). (suc steps, e)) (if is_running e then told_event (place_in image) (stepped_next p s) else [])) running ∙ ap (λ a. map (λ (e : JournalEvent). (suc steps, e)) (told_event (place_in image) a)) (sym is) in
    lines_more style (map (λ (e : JournalEvent). (suc steps, e)) (journal_event (place_in image) p s)) (numbered (place_in image) p (suc steps) m (step p s))
    ∙ ap (λ es. event_lines style es ++ event_lines style (numbered (place_in image) p (suc steps) m (step p s))) one
    ∙ ap (λ t. t ++ event_lines style (numbered (place_in image) p (suc steps) m (step p s))) (told_lines image brief (suc steps) answer)

rising : (p : Program) (s : State) → s.ending ≡ Running → (step p s).clock ≡ s.clock + 1
unfolding step
rising p s is = rw is

done_more : (p : Program) (m : ℕ) (s : State) → s.ending ≡ Running → steps_done p (suc m) s ≡ suc (steps_done p m (step p s))
unfolding steps_done
done_more p m s running = ap (λ e. if is_running e then suc (steps_done p m (step p s)) else 0) running

state_more : (p : Program) (m : ℕ) (s : State) → exec p (suc m) s ≡ exec p m (step p s)
unfolding exec
state_more p m s = refl

-- the end of the machine behind a step, by what the step answered
pub end_behind : (p : Program) (s : State) (answer : Stepped) → answer ≡ stepped_next p s → end_in (step p s).ending ≡ end_told answer
unfolding stepped_next
end_behind p s answer is = sym (ap end_told is ∙ end_is (step p s).ending (event_next p s))

-- the text that is left, where a step is to do
pub way_opens : (image : Image) (brief : Bool) (p q : Program) (on before : ℕ) (s0 : State) (start : Option (List ℕ)) (f0 left m steps : ℕ) (s : State) (now : Option (List ℕ)) (f1 n : ℕ) (answer : Stepped)
    → IsInRow image brief p on before s0 start f0 left steps s now f1 → left ≡ suc m → n ≡ steps + 1 → q ≡ p → answer ≡ stepped_next q s
    → IsOnWay start now f0 f1 (told_text image brief n answer ++ event_lines (style_of image brief) (numbered (place_in image) p n m (step p s))) (event_lines (style_of image brief) (numbered (place_in image) p before on s0))
way_opens image brief p q on before s0 start f0 left m steps s now f1 n answer row more counted same is =
    let one : n ≡ suc steps = omega (arith, counted) in
    let opens : event_lines (style_of image brief) (numbered (place_in image) p steps left s)
    ≡ told_text image brief n answer ++ event_lines (style_of image brief) (numbered (place_in image) p n m (step p s)) =
    ap (λ k. event_lines (style_of image brief) (numbered (place_in image) p steps k s)) more
    ∙ row_opens image brief p steps m s answer row.running (is ∙ ap (λ r. stepped_next r s) same)
    ∙ ap (λ k. told_text image brief k answer ++ event_lines (style_of image brief) (numbered (place_in image) p k m (step p s))) (sym one) in
    subst (λ t. IsOnWay start now f0 f1 t (event_lines (style_of image brief) (numbered (place_in image) p before on s0))) opens row.way

-- a step that isn't the last
pub row_on : (image : Image) (brief : Bool) (p q : Program) (on before : ℕ) (s0 : State) (start : Option (List ℕ)) (f0 left m steps : ℕ) (s : State) (now : Option (List ℕ)) (f1 n : ℕ) (answer : Stepped) (after : State) (new : Option (List ℕ)) (f2 : ℕ)
    → IsInRow image brief p on before s0 start f0 left steps s now f1 → left ≡ suc m → n ≡ steps + 1 → q ≡ p → answer ≡ stepped_next q s → after ≡ step q s
    → Wrote now new f1 f2 (told_text image brief n answer) → end_told answer ≡ None
    → IsInRow image brief p on before s0 start f0 m n after new f2
row_on image brief p q on before s0 start f0 left m steps s now f1 n answer after new f2 row more counted same is next wrote none =
    let at : step p s ≡ after = sym (next ∙ ap (λ r. step r s) same) in
    let told : answer ≡ stepped_next p s = is ∙ ap (λ r. stepped_next r s) same in
    let on_way = way_goes start now new f0 f1 f2 (told_text image brief n answer) _ _ (way_opens image brief p q on before s0 start f0 left m steps s now f1 n answer row more counted same is) wrote in
    let runs : (step p s).ending ≡ Running = goes_on (step p s).ending (end_behind p s answer told ∙ none) in
    let clock : (step p s).clock ≡ s.clock + 1 = rising p s row.running in
    let done : steps_done p left s ≡ suc (steps_done p m (step p s)) = ap (λ k. steps_done p k s) more ∙ done_more p m s row.running in
    subst (λ t. IsInRow image brief p on before s0 start f0 m n t new f2) at (record {
      running = runs;
      state = sym (ap (λ k. exec p k s) more ∙ state_more p m s) ∙ row.state;
      count = omega (arith, row.count, done, counted);
      room = omega (arith, row.room, more, counted);
      clock = omega (arith, row.clock, more, clock);
      way = on_way;
    })

-- what a row leaves: the text is written, and the state, the end and the count of steps are those of all its steps
pub record IsRowDone (image : Image) (brief : Bool) (p : Program) (on before : ℕ) (s0 : State) (start : Option (List ℕ)) (f0 n : ℕ) (after : State) (new : Option (List ℕ)) (f2 : ℕ) (end : Option RunEnd) : Type 0 where
  pub text : Wrote start new f0 f2 (event_lines (style_of image brief) (numbered (place_in image) p before on s0))
  pub state : after ≡ exec p on s0
  pub ended : end ≡ end_in (exec p on s0).ending
  pub steps : n ≡ before + steps_done p on s0

-- a step with which the machine ends
pub row_ends : (image : Image) (brief : Bool) (p q : Program) (on before : ℕ) (s0 : State) (start : Option (List ℕ)) (f0 left m steps : ℕ) (s : State) (now : Option (List ℕ)) (f1 n : ℕ) (answer : Stepped) (after : State) (new : Option (List ℕ)) (f2 : ℕ) (end : RunEnd)
    → IsInRow image brief p on before s0 start f0 left steps s now f1 → left ≡ suc m → n ≡ steps + 1 → q ≡ p → answer ≡ stepped_next q s → after ≡ step q s
    → Wrote now new f1 f2 (told_text image brief n answer) → end_told answer ≡ Some end
    → IsRowDone image brief p on before s0 start f0 n after new f2 (Some end)
row_ends image brief p q on before s0 start f0 left m steps s now f1 n answer after new f2 end row more counted same is next wrote some =
    let at : after ≡ step p s = next ∙ ap (λ r. step r s) same in
    let told : answer ≡ stepped_next p s = is ∙ ap (λ r. stepped_next r s) same in
    let on_way = way_goes start now new f0 f1 f2 (told_text image brief n answer) _ _ (way_opens image brief p q on before s0 start f0 left m steps s now f1 n answer row more counted same is) wrote in
    let told_end : end_in (step p s).ending ≡ Some end = end_behind p s answer told ∙ some in
    let over : is_running (step p s).ending ≡ false = running_is (step p s).ending end told_end in
    let state : step p s ≡ exec p on s0 = sym (ended_stays p m (step p s) over) ∙ sym (ap (λ k. exec p k s) more ∙ state_more p m s) ∙ row.state in
    let done : steps_done p left s ≡ suc (steps_done p m (step p s)) = ap (λ k. steps_done p k s) more ∙ done_more p m s row.running in
    record {
      text = way_ends start new f0 f2 _ _ on_way (ap (event_lines (style_of image brief)) (ended_shows (place_in image) p n m (step p s) over));
      state = at ∙ state;
      ended = sym (ap (λ t. end_in t.ending) (sym state) ∙ told_end);
      steps = omega (arith, row.count, done, counted, ended_does p m (step p s) over);
    }

-- all steps are done
pub row_over : (image : Image) (brief : Bool) (p : Program) (on before : ℕ) (s0 : State) (start : Option (List ℕ)) (f0 left steps : ℕ) (s : State) (now : Option (List ℕ)) (f1 : ℕ)
    → IsInRow image brief p on before s0 start f0 left steps s now f1 → left ≡ 0 → IsRowDone image brief p on before s0 start f0 steps s now f1 None
unfolding exec steps_done numbered
row_over image brief p on before s0 start f0 left steps s now f1 row none =
    let state : s ≡ exec p on s0 = sym (ap (λ k. exec p k s) none) ∙ row.state in
    let nothing : steps_done p left s ≡ 0 = ap (λ k. steps_done p k s) none in
    record {
      text = way_ends start now f0 f1 _ _ row.way (ap (λ k. event_lines (style_of image brief) (numbered (place_in image) p steps k s)) none);
      state = state;
      ended = sym (ap (λ t. end_in t.ending) (sym state) ∙ ap end_in row.running);
      steps = omega (arith, row.count, nothing);
    }
