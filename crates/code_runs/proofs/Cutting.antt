-- An act's code at its place, cut anywhere.
use Rattle.std.specs.Prelude.{◌⊎◌, nat_lt}
use Rattle.std.proofs.Common.{◌≡◌, ◌∙◌, ℕ, zero, suc, ◌+◌, ◌-◌, ◌<◌, ◌≤◌, inl, inr, Bool, true, false, List, [], ◌∷◌, ◌++◌, refl, sym, ap, subst, append_assoc, append-nil, arith}
use Rattle.std.proofs.lemmas.Bool.Decides.{nat_tests}
use Rattle.devices.specs.Journal.{Place, traps}
use Rattle.task_ast.specs.declared.core_form.Core.{Core}
use Rattle.walk_run.specs.Trap.{code_of}
use Rattle.walk_run.specs.declared.trap.Trap.{Trap}
use Rattle.word_isa.specs.declared.parts.Scheme.{Scheme}
use Rattle.word_machine.specs.Events.{event_at, event_next}
use Rattle.word_machine.specs.RunLaws.{clock_rises, exec_more, stays_halted, stays_trapped, trace_more}
use Rattle.word_machine.specs.State as machine
use Rattle.word_machine.specs.State.{Program}
use Rattle.word_machine.specs.Step.{exec, step, step_at}
use Rattle.word_machine.specs.Straight.{Spot, live}
use Rattle.word_machine.specs.Traces as trace
use Rattle.word_machine.specs.declared.ending.Ending.{Ending}
use Rattle.word_machine.specs.declared.ending.Ending.TheVariants.{Running, Halted, Trapped}
use Rattle.run_plan.specs.declared.act.Act.{Act}
use Rattle.run_plan.specs.Cells.{State}
use Rattle.run_plan.specs.Deeds.{act_done}
use Rattle.run_plan.specs.Small.{Atom, Doing, Done, Way, after_atom, after_shown, core_of, does, fails, showing, stuck}
use Rattle.act_refines.specs.Between.{AreRelated}
use Rattle.act_refines.specs.Does.{Ends, GoesOn, RelatedBehind, Stops, frame_of, has_begun, way_at}
use Rattle.act_refines.specs.Seen.{IsFront, Seen, behind, event_seen, steps_seen, tells, trace_seen, write_seen}
use Rattle.code_cuts.specs.Acts.{AreWhole, CutsBy, IsQuiet, IsThrough, SoFar}
use Rattle.code_cuts.specs.Lasting.{IsNear}
use Rattle.code_cuts.specs.Runs.{end_seen, shown_by}
use Rattle.code_runs.specs.Cutting.{FitsThere, HasGone, KeepsBy}
use Rattle.code_runs.specs.Following.{IfMore, Inside, Passes, PassesBy, RunsIn}
use Rattle.code_runs.proofs.Near.{near_quiet, near_then, near_trap}
use Rattle.code_runs.proofs.Splitting.{seen_more, shown_behind}

pub is_less : (n m : ℕ) → nat_lt n m ≡ true → n < m
is_less n m is = grind (arith, nat_tests)

pub not_less : (n m : ℕ) → nat_lt n m ≡ false → m ≤ n
not_less n m is = grind (arith, nat_tests)

-- ---- small steps, one list behind another

steps_more : (c : Core) (scheme : Scheme) (a b : List Atom) (s : State) → steps_seen c scheme (a ++ b) s ≡ steps_seen c scheme a s ++ steps_seen c scheme b (behind c a s)
steps_more c scheme [] b s = refl
steps_more c scheme (x ∷ a) b s =
    let own : List Seen = write_seen c scheme (after_shown x.event s) x.write ++ event_seen x.event in
    ap (λ (ys : List Seen). own ++ ys) (steps_more c scheme a b (after_atom c x s)) ∙ sym (append_assoc own (steps_seen c scheme a (after_atom c x s)) (steps_seen c scheme b (behind c a (after_atom c x s))))

behind_more : (c : Core) (a b : List Atom) (s : State) → behind c (a ++ b) s ≡ behind c b (behind c a s)
behind_more c [] b s = refl
behind_more c (x ∷ a) b s = behind_more c a b (after_atom c x s)

-- ---- the machine

-- fewer steps show a front of what more of them show
front_of : (p : Program) (place_of : ℕ → Place) (n steps : ℕ) (m : Spot) (seen : List Seen) → n ≤ steps → trace_seen place_of (trace.trace p steps (live m)) ≡ seen → IsFront (trace_seen place_of (trace.trace p n (live m))) seen
front_of p place_of n steps m seen few is =
    let whole : n + (steps - n) ≡ steps = omega (arith, few) in
    record {
      rest = trace_seen place_of (trace.trace p (steps - n) (exec p n (live m)));
      joined = sym (seen_more place_of (trace.trace p n (live m)) (trace.trace p (steps - n) (exec p n (live m)))) ∙ ap (trace_seen place_of) (sym (trace_more p n (steps - n) (live m)))
          ∙ ap (λ j. trace_seen place_of (trace.trace p j (live m))) whole ∙ is;
    }

-- more steps are those behind fewer
more_steps : (p : Program) (n steps : ℕ) (m : Spot) → n ≤ steps → exec p steps (live m) ≡ exec p (steps - n) (exec p n (live m))
more_steps p n steps m few = let whole : steps ≡ n + (steps - n) = omega (arith, few) in ap (λ j. exec p j (live m)) whole ∙ exec_more p n (steps - n) (live m)

more_trace : (p : Program) (n steps : ℕ) (m : Spot) → n ≤ steps → trace.trace p steps (live m) ≡ trace.trace p n (live m) ++ trace.trace p (steps - n) (exec p n (live m))
more_trace p n steps m few = let whole : steps ≡ n + (steps - n) = omega (arith, few) in ap (λ j. trace.trace p j (live m)) whole ∙ trace_more p n (steps - n) (live m)

-- a machine that has trapped shows nothing more
trapped_trace : (p : Program) (k code : ℕ) (s : machine.State) → s.ending ≡ Trapped code → trace.trace p k s ≡ []
unfolding trace.trace trace.writes_next event_next step
trapped_trace p zero code s is = refl
trapped_trace p (suc k) code s is = (λ i. (trace.writes_at p (is i) s ++ trace.shows (event_at p (is i) s)) ++ trace.trace p k (step_at p (is i) s)) ∙ trapped_trace p k code s is

-- before a machine that goes on, it went on
pub running : (p : Program) (n steps : ℕ) (m there : Spot) → exec p steps (live m) ≡ live there → n ≤ steps → (exec p n (live m)).ending ≡ Running
running p n steps m there runs few = by (exec p n (live m)).ending refl
  where
    by : (e : Ending) → (exec p n (live m)).ending ≡ e → e ≡ Running
    by Running is = refl
    by Halted is =
        let stays : exec p steps (live m) ≡ exec p n (live m) = more_steps p n steps m few ∙ stays_halted p (steps - n) (exec p n (live m)) is in
        let ended : Running ≡ Halted = ap (λ t. t.ending) (sym runs ∙ stays) ∙ is in
        cc
    by (Trapped code) is =
        let stays : exec p steps (live m) ≡ exec p n (live m) = more_steps p n steps m few ∙ stays_trapped p (steps - n) code (exec p n (live m)) is in
        let ended : Running ≡ Trapped code = ap (λ t. t.ending) (sym runs ∙ stays) ∙ is in
        cc

-- and its clock has risen by one a step
pub clock_of : (p : Program) (steps : ℕ) (m there : Spot) → exec p steps (live m) ≡ live there → there.clock ≡ m.clock + steps
clock_of p steps m there runs = ap (λ (e : machine.State). e.clock) (sym runs) ∙ clock_rises p steps (live m) (ap (λ (e : machine.State). e.ending) runs)

-- ---- an act that goes on, and one that traps

-- within the steps in which the machine goes on
inside_running : (p : Program) (place_of : ℕ → Place) (c : Core) (scheme : Scheme) (Stood : machine.State → State → Type 0) (n : ℕ) (m : Spot) (s : State) (atoms : List Atom) (x : SoFar p place_of c scheme Stood n m s atoms)
    → (exec p n (live m)).ending ≡ Running → shown_by p place_of n m ≡ steps_seen c scheme x.front s
inside_running p place_of c scheme Stood n m s atoms x is =
    ap (λ e. trace_seen place_of (trace.trace p n (live m)) ++ end_seen e) is ∙ append-nil (trace_seen place_of (trace.trace p n (live m))) ∙ x.shown

if_more : (left : List Atom) (x : Atom) (claim : Type 0) → claim → IfMore (left ++ x ∷ []) claim
if_more [] x claim h = h
if_more (y ∷ left) x claim h = h

-- a machine that has trapped, or goes on, hasn't halted
trapped_goes_on : (code : ℕ) → Trapped code ≡ Halted → ⊥
trapped_goes_on code is = cc

pub running_goes_on : Running ≡ Halted → ⊥
running_goes_on is = cc

-- all of an act that traps
inside_trapped : (p : Program) (place_of : ℕ → Place) (c : Core) (scheme : Scheme) (Stood : machine.State → State → Type 0) (n most : ℕ) (m : Spot) (s : State) (atoms : List Atom) (why : Trap) → AreWhole p place_of c scheme Stood m s atoms
    → (exec p n (live m)).ending ≡ Trapped (code_of why) → trace_seen place_of (trace.trace p n (live m)) ≡ steps_seen c scheme atoms s → Inside p place_of c scheme Stood n most m s (fails atoms why)
inside_trapped p place_of c scheme Stood n most m s atoms why w ended all =
    let trap : List Atom = showing (traps (code_of why)) ∷ [] in
    let through : IsThrough p c scheme Stood n m s atoms = w.last n all in
    record {
      front = atoms ++ trap;
      left = [];
      whole = append-nil (atoms ++ trap);
      shown = (λ i. all i ++ end_seen (ended i)) ∙ sym (steps_more c scheme atoms trap s);
      stood = subst (Stood (exec p n (live m))) (sym (behind_more c atoms trap s)) through.stood;
      near = subst (IsNear c scheme n (steps_seen c scheme (atoms ++ trap) s) s) (sym (behind_more c atoms trap s))
          (subst (λ xs. IsNear c scheme n xs s (behind c atoms s)) (sym (steps_more c scheme atoms trap s))
          (near_then c scheme n 0 n (steps_seen c scheme atoms s) (tells (traps (code_of why)) ∷ []) s (behind c atoms s) (behind c atoms s) (omega arith) through.near (near_trap c scheme (code_of why) (behind c atoms s))));
      on = λ is. trapped_goes_on (code_of why) (sym ended ∙ is);
      in_time = tt;
    }

-- one that traps, before its trap and behind it
fails_by : (p : Program) (place_of : ℕ → Place) (c : Core) (scheme : Scheme) (Stood : machine.State → State → Type 0) (n most : ℕ) (m : Spot) (s : State) (atoms : List Atom) (why : Trap) → AreWhole p place_of c scheme Stood m s atoms
    → Stops p place_of most m (code_of why) (steps_seen c scheme atoms s) → Inside p place_of c scheme Stood n most m s (fails atoms why)
fails_by p place_of c scheme Stood n most m s atoms why w x = by (nat_lt n x.steps) refl
  where
    at : (e : Ending) → n < x.steps → (exec p n (live m)).ending ≡ e → Inside p place_of c scheme Stood n most m s (fails atoms why)
    at Running early is =
        let few : n ≤ x.steps = omega (arith, early) in
        let steps_few : x.steps ≤ most = x.few in
        let so = w.fronts n (front_of p place_of n x.steps m (steps_seen c scheme atoms s) few x.shown) in
        let trap : List Atom = showing (traps (code_of why)) ∷ [] in
        record {
          front = so.front;
          left = so.left ++ trap;
          whole = sym (append_assoc so.front so.left trap) ∙ ap (λ (ys : List Atom). ys ++ trap) so.whole;
          shown = inside_running p place_of c scheme Stood n m s atoms so is;
          stood = so.stood;
          near = so.near;
          on = λ halts. running_goes_on (sym is ∙ halts);
          in_time = if_more so.left (showing (traps (code_of why))) (n < most) (omega (arith, early, steps_few));
        }
    at Halted early is =
        let few : n ≤ x.steps = omega (arith, early) in
        let stays : exec p x.steps (live m) ≡ exec p n (live m) = more_steps p n x.steps m few ∙ stays_halted p (x.steps - n) (exec p n (live m)) is in
        let ended : Halted ≡ Trapped (code_of why) = sym is ∙ ap (λ t. t.ending) (sym stays) ∙ x.ended in
        cc
    at (Trapped code) early is =
        let few : n ≤ x.steps = omega (arith, early) in
        let stays : exec p x.steps (live m) ≡ exec p n (live m) = more_steps p n x.steps m few ∙ stays_trapped p (x.steps - n) code (exec p n (live m)) is in
        let same_trace : trace.trace p x.steps (live m) ≡ trace.trace p n (live m) =
        more_trace p n x.steps m few ∙ ap (λ (ys : List trace.Atom). trace.trace p n (live m) ++ ys) (trapped_trace p (x.steps - n) code (exec p n (live m)) is) ∙ append-nil (trace.trace p n (live m)) in
        inside_trapped p place_of c scheme Stood n most m s atoms why w (ap (λ t. t.ending) (sym stays) ∙ x.ended) (ap (trace_seen place_of) (sym same_trace) ∙ x.shown)

    by : (b : Bool) → nat_lt n x.steps ≡ b → Inside p place_of c scheme Stood n most m s (fails atoms why)
    by true is = at (exec p n (live m)).ending (is_less n x.steps is) refl
    by false is =
        let few : x.steps ≤ n = not_less n x.steps is in
        let stays : exec p n (live m) ≡ exec p x.steps (live m) = more_steps p x.steps n m few ∙ stays_trapped p (n - x.steps) (code_of why) (exec p x.steps (live m)) x.ended in
        let same_trace : trace.trace p n (live m) ≡ trace.trace p x.steps (live m) =
        more_trace p x.steps n m few ∙ ap (λ (ys : List trace.Atom). trace.trace p x.steps (live m) ++ ys) (trapped_trace p (n - x.steps) (code_of why) (exec p x.steps (live m)) x.ended) ∙ append-nil (trace.trace p x.steps (live m)) in
        inside_trapped p place_of c scheme Stood n most m s atoms why w (ap (λ t. t.ending) stays ∙ x.ended) (ap (trace_seen place_of) same_trace ∙ x.shown)

-- one that goes on, by whether it has gone its way
does_by : (p : Program) (place_of : ℕ → Place) (c : Core) (scheme : Scheme) (Stood : machine.State → State → Type 0) (After : Way → ℕ → Spot → State → Type 0) (Related : Spot → State → Type 0) (n most : ℕ) (to : Way → ℕ) (m : Spot) (s : State)
    (atoms : List Atom) (change : State → State) (way : Way) → AreWhole p place_of c scheme Stood m s atoms → IsQuiet (behind c atoms s) (change (behind c atoms s))
    → GoesOn p place_of most m (to way) (steps_seen c scheme atoms s) (λ there. Related there (change (behind c atoms s))) → KeepsBy p place_of c scheme Stood After n m s (does atoms change way)
    → Inside p place_of c scheme Stood n most m s (does atoms change way) ⊎ Passes p place_of c scheme (After way) Related n most (to way) m atoms s (change (behind c atoms s))
does_by p place_of c scheme Stood After Related n most to m s atoms change way w quiet g keeps = by (nat_lt n g.steps) refl
  where
    all : trace_seen place_of (trace.trace p g.steps (live m)) ≡ steps_seen c scheme atoms s
    all = ap (trace_seen place_of) g.goes.seen ∙ g.shown

    through : IsThrough p c scheme Stood g.steps m s atoms
    through = w.last g.steps all

    near : IsNear c scheme g.steps (steps_seen c scheme atoms s) s (change (behind c atoms s))
    near = near_quiet c scheme g.steps (steps_seen c scheme atoms s) s (behind c atoms s) (change (behind c atoms s)) through.near quiet

    gone : g.steps ≤ n → HasGone p place_of c scheme Stood n g.steps m g.there atoms s (change (behind c atoms s))
    gone few =
        let sum : g.steps + (n - g.steps) ≡ n = omega (arith, few) in
        record {
          few = few;
          clock = clock_of p g.steps m g.there g.goes.runs;
          near = near;
          stood = subst (λ e. Stood e (behind c atoms s)) g.goes.runs through.stood;
          quiet = quiet;
          shown = ap (λ j. shown_by p place_of j m) (sym sum) ∙ shown_behind p place_of g.steps (n - g.steps) m g.there g.atoms g.goes ∙ ap (λ (ys : List Seen). ys ++ shown_by p place_of (n - g.steps) g.there) g.shown;
        }

    by : (b : Bool) → nat_lt n g.steps ≡ b → Inside p place_of c scheme Stood n most m s (does atoms change way) ⊎ Passes p place_of c scheme (After way) Related n most (to way) m atoms s (change (behind c atoms s))
    by true is =
        let early : n < g.steps = is_less n g.steps is in
        let few : n ≤ g.steps = omega (arith, early) in
        let steps_few : g.steps ≤ most = g.few in
        let so = w.fronts n (front_of p place_of n g.steps m (steps_seen c scheme atoms s) few all) in
        let goes_on : (exec p n (live m)).ending ≡ Running = running p n g.steps m g.there g.goes.runs few in
        inl (record {
          front = so.front;
          left = so.left;
          whole = so.whole;
          shown = inside_running p place_of c scheme Stood n m s atoms so goes_on;
          stood = so.stood;
          near = so.near;
          on = λ halts. running_goes_on (sym goes_on ∙ halts);
          in_time = omega (arith, early, steps_few);
        })
    by false is =
        let few : g.steps ≤ n = not_less n g.steps is in
        inr (record { goes = g; few = few; near = near; holds = keeps g.steps g.there (gone few) })

-- ---- an act at its place

runs_by : (p : Program) (place_of : ℕ → Place) (d : Doing) (Stood : machine.State → State → Type 0) (After : Way → ℕ → Spot → State → Type 0) (a : Act) (n most : ℕ) (to : Way → ℕ) (m : Spot) (s : State) (done : Done)
    → CutsBy p place_of (core_of d) d.scheme Stood m s done → Ends p place_of d a most to m s done → KeepsBy p place_of (core_of d) d.scheme Stood After n m s done
    → Inside p place_of (core_of d) d.scheme Stood n most m s done ⊎ PassesBy p place_of (core_of d) d.scheme After (RelatedBehind p d a) n most to m s done
runs_by p place_of d Stood After a n most to m s (does atoms change way) cuts g keeps = does_by p place_of (core_of d) d.scheme Stood After (RelatedBehind p d a) n most to m s atoms change way cuts.0 cuts.1 g keeps
runs_by p place_of d Stood After a n most to m s (fails atoms why) cuts x keeps = inl (fails_by p place_of (core_of d) d.scheme Stood n most m s atoms why cuts x)
runs_by p place_of d Stood After a n most to m s stuck cuts x keeps = elim cuts [ ]

pub runs_in : (p : Program) (place_of : ℕ → Place) (d : Doing) (number : ℕ) (Stood : machine.State → State → Type 0) (Before : ℕ → Spot → State → Type 0) (After : Way → ℕ → Spot → State → Type 0) (most : State → ℕ) (a : Act) (at next : ℕ)
    → ((n : ℕ) (m : Spot) (s : State) → m.pc ≡ at → AreRelated p d (has_begun a) m s → Before n m s → FitsThere p place_of d number Stood After n (most s) a at next m s)
    → RunsIn p place_of d number Stood Before After most a at next
runs_in p place_of d number Stood Before After most a at next fits n m s pc related known =
    let here : FitsThere p place_of d number Stood After n (most s) a at next m s = fits n m s pc related known in
    runs_by p place_of d Stood After a n (most s) (way_at (frame_of d number) a at next) m s (act_done d a s) here.cuts here.ends here.keeps
