-- What each method of a debugger leaves, where its parts are known.
use Rattle.std.specs.Prelude.{if◌then◌else◌, ◌&&◌, not, nat_lt, Result, Ok, Err, IsErr}
use Rattle.std.proofs.Common.{◌≡◌, ◌∙◌, ℕ, ◌+◌, ◌-◌, ◌<◌, Bool, true, false, List, [], ◌∷◌, Option, refl, sym, ap, subst, arith}
use Rattle.std.proofs.lemmas.Bool.Decides.{nat_tests}
use Rattle.devices.specs.declared.world.PowerRow.{PowerRow}
use Rattle.ease_base.specs.declared.error.Failed.{Failed}
use Rattle.ease_debug.proofs.GoLemmas.{goes_on_same, spent_stands}
use Rattle.ease_debug.proofs.StepLemmas.{step_stands, stops_same, ending_told}
use Rattle.ease_debug.proofs.PastLemmas.{answer_is}
use Rattle.ease_debug.specs.Past.{boots, why}
use Rattle.ease_debug.specs.Shown.{why_line}
use Rattle.ease_debug.specs.declared.why.Why.{Why}
use Rattle.ease_debug.specs.Session.{Session, Did, nothing, failing, boot_text, stops, one_step, goes_on}
use Rattle.ease_debug.specs.Standing as held
use Rattle.ease_debug.specs.Standing.{Held, Stands, Steps, Goes, IsSound, trails_of, heard, ending_of}
use Rattle.ease_debug.specs.Stopping.{stops_by, Names}
use Rattle.ease_debug.specs.Trails.{Trails, trails_in, noted}
use Rattle.ease_debug.specs.declared.stop.Stop.{Stop}
use Rattle.power_trace.specs.Live.{state_of, program_in_live}
use Rattle.power_trace.specs.Run.{told_text}
use Rattle.power_trace.specs.Way.{way_begins, way_ends}
use Rattle.power_trace.specs.Writing.{Wrote, BrokeOff, Writes}
use Rattle.power_trace.specs.declared.live.Live.{Live}
use Rattle.word_isa.specs.declared.image.Image.{Image}
use Rattle.word_isa.specs.declared.mark.Mark.{Mark}
use Rattle.word_machine.specs.Events.{stepped_next}
use Rattle.word_machine.specs.Runs.{is_running, fail_behind, fail_behind_at}
use Rattle.word_machine.specs.State.{State}
use Rattle.word_machine.specs.Step.{step, fail_at, fail}
use Rattle.word_machine.specs.declared.ending.Ending.{Ending}
use Rattle.word_machine.specs.declared.ending.Ending.TheVariants.{Running, Halted, Trapped}
use Rattle.word_machine.specs.declared.stepped.Stepped.{Stepped}

-- a machine that goes on
pub running_is : (e : Ending) (spent : Bool) → (is_running e && not spent) ≡ true → e ≡ Running
running_is Running spent on = refl
running_is Halted spent on = cc
running_is (Trapped code) spent on = cc

-- the lines of a step, with the count behind it
told_same : (image : Image) (n m : ℕ) (a b : Stepped) → n ≡ m → a ≡ b → told_text image true n a ≡ told_text image true m b
told_same image n m a b e f = λ i. told_text image true (e i) (f i)

-- a step whose line was written
pub step_did : (h h0 g : Held) (stop : Stop) (tasks : List ℕ) (at : ℕ) (answer : Stepped) (b : Bool) (old new : Option (List ℕ)) (f0 f1 : ℕ) → h ≡ h0 → Names tasks h.image.marks → h.ending ≡ (state_of h.live).ending
    → at ≡ (state_of h.live).pc → answer ≡ stepped_next (program_in_live h.live) (state_of h.live) → state_of g.live ≡ step (program_in_live h.live) (state_of h.live) → g.live.steps ≡ h.live.steps + 1
    → g.ending ≡ ending_of answer → trails_in g.trails ≡ heard answer (trails_in h.trails) → g.boot ≡ h.boot → g.spent ≡ h.spent
    → b ≡ stops_by tasks stop at answer → Wrote old new f0 f1 (told_text h.image true g.live.steps answer)
    → (s : Session) → Stands h0 s → goes_on s ≡ true
    → (b ≡ stops h0.image stop (program_in_live h0.live) s.state) × Stands g (one_step h0.image (program_in_live h0.live) s).session × Wrote old new f0 f1 (one_step h0.image (program_in_live h0.live) s).lines
step_did h h0 g stop tasks at answer b old new f0 f1 same names ending here is state steps end trails boot spent stopping wrote =
    subst (λ (x : Held). (s : Session) → Stands x s → goes_on s ≡ true → (b ≡ stops x.image stop (program_in_live x.live) s.state) × Stands g (one_step x.image (program_in_live x.live) s).session
    × Wrote old new f0 f1 (one_step x.image (program_in_live x.live) s).lines) same (λ s stands on.
    let p = program_in_live h.live in
    let at_s : at ≡ s.state.pc = here ∙ ap (λ (t : State). t.pc) stands.state in
    let is_s : answer ≡ stepped_next p s.state = is ∙ ap (stepped_next p) stands.state in
    let runs : s.state.ending ≡ Running = running_is s.state.ending s.spent on in (
      stopping ∙ stops_same h.image tasks stop p s.state at answer names at_s is_s runs,
      step_stands h.image h g p s answer stands is state steps end trails boot spent,
      subst (Wrote old new f0 f1) (told_same h.image g.live.steps (s.steps + 1) answer (stepped_next p s.state) (steps ∙ ap (λ n. n + 1) stands.steps) is_s) wrote,
    ))

-- a step whose line wasn't
pub step_broke : (h h0 : Held) (n : ℕ) (answer : Stepped) (old new : Option (List ℕ)) (f0 f1 : ℕ) → h ≡ h0 → n ≡ h.live.steps + 1 → answer ≡ stepped_next (program_in_live h.live) (state_of h.live)
    → BrokeOff old new f0 f1 (told_text h.image true n answer) → (s : Session) → Stands h0 s → BrokeOff old new f0 f1 (one_step h0.image (program_in_live h0.live) s).lines
step_broke h h0 n answer old new f0 f1 same counted is off =
    subst (λ (x : Held). (s : Session) → Stands x s → BrokeOff old new f0 f1 (one_step x.image (program_in_live x.live) s).lines) same (λ s stands.
    let p = program_in_live h.live in
    subst (BrokeOff old new f0 f1) (told_same h.image n (s.steps + 1) answer (stepped_next p s.state) (counted ∙ ap (λ k. k + 1) stands.steps) (is ∙ ap (stepped_next p) stands.state)) off)

-- an answer that is an error, of a step and of a call
pub steps_err : (result : Result Bool Failed) (h : Held) (old new : Option (List ℕ)) (f0 f1 : ℕ) (b : Bool) (d : Did) → IsErr result → BrokeOff old new f0 f1 d.lines → Steps result h old new f0 f1 b d
steps_err (Ok x) h old new f0 f1 b d failed off = cc
steps_err (Err e) h old new f0 f1 b d failed off = off

pub goes_err : {A : Type 0} (result : Result A Failed) (h : Held) (old new : Option (List ℕ)) (f0 f1 : ℕ) (d : Did) → IsErr result → BrokeOff old new f0 f1 d.lines → Goes result h old new f0 f1 d
goes_err (Ok x) h old new f0 f1 d failed off = cc
goes_err (Err e) h old new f0 f1 d failed off = off

-- a call that wrote its lines, or a front of them
pub goes_by : {A : Type 0} (result : Result A Failed) (h : Held) (old new : Option (List ℕ)) (f0 f1 : ℕ) (d : Did) → Stands h d.session → Writes result old new f0 f1 d.lines → Goes result h old new f0 f1 d
goes_by (Ok x) h old new f0 f1 d stands wrote = (stands, wrote)
goes_by (Err e) h old new f0 f1 d stands wrote = wrote

-- what a debugger keeps, behind a step and behind a failure
pub sound_step : (tasks : List ℕ) (marks : List Mark) (old new : Live) (end : Ending) (answer : Stepped) → Names tasks marks → new.steps ≡ old.steps + 1 → old.steps < 4194304
    → answer ≡ stepped_next (program_in_live old) (state_of old) → state_of new ≡ step (program_in_live old) (state_of old) → end ≡ ending_of answer → IsSound new end tasks marks
sound_step tasks marks old new end answer names steps room is state ended = record {
  names = names;
  steps = omega (arith, steps, room);
  running = ended ∙ ending_told (program_in_live old) (state_of old) answer is ∙ ap (λ (t : State). t.ending) (sym state);
}

pub sees : (h h0 : Held) → h ≡ h0 → h0.live.steps < 4194304 → h.live.steps < 4194304
sees h h0 same room = subst (λ (x : Held). x.live.steps < 4194304) (sym same) room

-- a failure is that of a machine that goes on
pub fail_runs : (h h0 : Held) → h ≡ h0 → h.ending ≡ (state_of h.live).ending → true ≡ held.goes_on h0 → (state_of h.live).ending ≡ Running
fail_runs h h0 same running on = sym running ∙ running_is h.ending h.spent (ap held.goes_on same ∙ sym on)

fail_ending : (t : State) (row : PowerRow) → t.ending ≡ Running → (fail_behind row t).ending ≡ Running
unfolding fail
fail_ending t row on = ap (λ e. (fail_behind_at e row t).ending) on ∙ ap (λ e. (fail_at e row.fill t).ending) on ∙ on

pub fail_sound : (tasks : List ℕ) (marks : List Mark) (old new : Live) (end : Ending) (row : PowerRow) → IsSound old end tasks marks → new.steps ≡ old.steps → (state_of old).ending ≡ Running → state_of new ≡ fail_behind row (state_of old)
    → IsSound new end tasks marks
fail_sound tasks marks old new end row sound steps runs state = record {
  names = sound.names;
  steps = omega (arith, sound.steps, steps);
  running = sound.running ∙ runs ∙ sym (ap (λ (t : State). t.ending) state ∙ fail_ending (state_of old) row runs);
}

late : (clock off : ℕ) → (4294967295 - clock < off → ⊥) → clock < 4294967296 → nat_lt 4294967295 (clock + off) ≡ false
late clock off h fits = grind (arith, nat_tests)

early : (clock off : ℕ) → 4294967295 - clock < off → nat_lt 4294967295 (clock + off) ≡ true
early clock off h = grind (arith, nat_tests)

-- the definition's three cases
failing_over : (off fill : ℕ) (s : Session) → goes_on s ≡ false → failing off fill s ≡ nothing s
failing_over off fill s over = ap (λ b. if not b then nothing s else if nat_lt 4294967295 (s.state.clock + off) then nothing (record s { spent = true })
    else record { session = record s { state = fail_behind (record { on = 0; off = off; fill = fill }) s.state; boot = s.boot + 1; past = boots ∷ s.past }; lines = boot_text (s.boot + 1) }) over

failing_on : (off fill : ℕ) (s : Session) (late : Bool) → goes_on s ≡ true → nat_lt 4294967295 (s.state.clock + off) ≡ late
    → failing off fill s ≡ (if late then nothing (record s { spent = true })
    else record { session = record s { state = fail_behind (record { on = 0; off = off; fill = fill }) s.state; boot = s.boot + 1; past = boots ∷ s.past }; lines = boot_text (s.boot + 1) })
failing_on off fill s late on is = ap (λ b. if not b then nothing s else if nat_lt 4294967295 (s.state.clock + off) then nothing (record s { spent = true })
    else record { session = record s { state = fail_behind (record { on = 0; off = off; fill = fill }) s.state; boot = s.boot + 1; past = boots ∷ s.past }; lines = boot_text (s.boot + 1) }) on
    ∙ ap (λ b. if b then nothing (record s { spent = true })
    else record { session = record s { state = fail_behind (record { on = 0; off = off; fill = fill }) s.state; boot = s.boot + 1; past = boots ∷ s.past }; lines = boot_text (s.boot + 1) }) is

wrote_none : (old : Option (List ℕ)) (f : ℕ) → Wrote old old f f []
wrote_none old f = way_ends old old f f [] [] (way_begins old old f f [] [] refl refl refl) refl

-- a session that is over, or whose ticks don't allow the failure
pub fail_over : (h : Held) (off fill : ℕ) (old : Option (List ℕ)) (f : ℕ) → held.goes_on h ≡ false → (s : Session) → Stands h s → Stands h (failing off fill s).session × Wrote old old f f (failing off fill s).lines
fail_over h off fill old f over s stands =
    subst (λ (d : Did). Stands h d.session × Wrote old old f f d.lines) (sym (failing_over off fill s (sym (goes_on_same h s stands) ∙ over))) (stands, wrote_none old f)

pub fail_spends : (h g : Held) (off fill : ℕ) (old : Option (List ℕ)) (f : ℕ) → held.goes_on h ≡ true → 4294967295 - h.live.outside.clock < off → g ≡ record h { spent = true }
    → (s : Session) → Stands h s → Stands g (failing off fill s).session × Wrote old old f f (failing off fill s).lines
fail_spends h g off fill old f on past is s stands =
    let clock : h.live.outside.clock ≡ s.state.clock = ap (λ (t : State). t.clock) stands.state in
    let spends = failing_on off fill s true (sym (goes_on_same h s stands) ∙ on) (subst (λ n. nat_lt 4294967295 (n + off) ≡ true) clock (early h.live.outside.clock off past)) in
    subst (λ (d : Did). Stands g d.session × Wrote old old f f d.lines) (sym spends) (spent_stands h g s stands is, wrote_none old f)

-- a failure with its line
pub fail_did : {A : Type 0} (result : Result A Failed) (h h0 g : Held) (off fill : ℕ) (old new : Option (List ℕ)) (f0 f1 : ℕ) (slice : List ℕ) → h ≡ h0 → true ≡ held.goes_on h0 → (4294967295 - h.live.outside.clock < off → ⊥) → h.live.outside.clock < 4294967296
    → h.ending ≡ (state_of h.live).ending → g.live.steps ≡ h.live.steps → state_of g.live ≡ fail_behind (record { on = 0; off = off; fill = fill }) (state_of h.live) → g.ending ≡ h.ending
    → trails_in g.trails ≡ noted boots (trails_in h.trails) → g.boot ≡ h.boot + 1 → g.spent ≡ h.spent → slice ≡ boot_text (h.boot + 1) → Writes result old new f0 f1 slice
    → (s : Session) → Stands h0 s → Goes result g old new f0 f1 (failing off fill s)
unfolding trails_of
fail_did result h h0 g off fill old new f0 f1 slice same on past fits running steps state ending trails boot spent text wrote s stands0 =
    let stands : Stands h s = subst (λ (x : Held). Stands x s) (sym same) stands0 in
    let here : held.goes_on h ≡ true = ap held.goes_on same ∙ sym on in
    let clock : h.live.outside.clock ≡ s.state.clock = ap (λ (t : State). t.clock) stands.state in
    let runs : goes_on s ≡ true = sym (goes_on_same h s stands) ∙ here in
    let goes : s.state.ending ≡ Running = running_is s.state.ending s.spent runs in
    let does = failing_on off fill s false runs (subst (λ n. nat_lt 4294967295 (n + off) ≡ false) clock (late h.live.outside.clock off past fits)) in
    let row : PowerRow = record { on = 0; off = off; fill = fill } in
    let after : Session = record s { state = fail_behind row s.state; boot = s.boot + 1; past = boots ∷ s.past } in
    let there : Stands g after = record {
      state = state ∙ ap (fail_behind row) stands.state;
      steps = steps ∙ stands.steps;
      ending = ending ∙ stands.ending ∙ goes ∙ sym (fail_ending s.state row goes);
      trails = trails ∙ ap (noted boots) stands.trails;
      boot = boot ∙ ap (λ n. n + 1) stands.boot;
      spent = spent ∙ stands.spent;
    } in
    let line : slice ≡ boot_text (s.boot + 1) = text ∙ ap (λ n. boot_text (n + 1)) stands.boot in
    subst (λ (d : Did). Goes result g old new f0 f1 d) (sym does) (goes_by result g old new f0 f1 (record { session = after; lines = boot_text (s.boot + 1) }) there (subst (Writes result old new f0 f1) line wrote))

-- the line of a reason
pub why_wrote : {A : Type 0} (result : Result A Failed) (h h0 : Held) (old new : Option (List ℕ)) (f0 f1 : ℕ) (k : ℕ) (answer : Why) → h ≡ h0 → answer ≡ ((trails_in h.trails).trail k).answer → Writes result old new f0 f1 (why_line k answer)
    → (s : Session) → Stands h0 s → Writes result old new f0 f1 (why_line k (why k s.past))
why_wrote result h h0 old new f0 f1 k answer same is wrote s stands =
    let told : answer ≡ why k s.past = is ∙ ap (λ (x : Held). ((trails_in x.trails).trail k).answer) same ∙ ap (λ (t : Trails). (t.trail k).answer) stands.trails ∙ answer_is s.past k in
    subst (λ w. Writes result old new f0 f1 (why_line k w)) told wrote
