-- A look leads on: where it is seen it was due, and until then nothing is.
use Rattle.std.specs.Prelude.{◌⊎◌, ◌%◌, drop, nat_lt, Some}
use Rattle.std.proofs.Common.{◌≡◌, ◌∙◌, ℕ, suc, ◌+◌, ◌-◌, ◌^◌, ◌<◌, ◌≤◌, inl, inr, Bool, true, false, List, [], ◌∷◌, ◌++◌, refl, sym, ap, subst, append-nil, arith}
use Rattle.devices.specs.Journal.{Place, looks}
use Rattle.task_ast.specs.WellFormed.{IsWellFormed}
use Rattle.task_attempts.specs.Boots.{task_of}
use Rattle.task_attempts.specs.Told.{next_look}
use Rattle.word_machine.specs.RunLaws.{exec_more, stays_halted, stays_trapped, trace_more}
use Rattle.word_machine.specs.State as machine
use Rattle.word_machine.specs.State.{Program}
use Rattle.word_machine.specs.Step.{exec}
use Rattle.word_machine.specs.Straight.{Spot, live}
use Rattle.word_machine.specs.Traces as trace
use Rattle.word_machine.specs.declared.ending.Ending.{Ending}
use Rattle.word_machine.specs.declared.ending.Ending.TheVariants.{Running, Halted, Trapped}
use Rattle.line_laws.specs.Standing.{Lie}
use Rattle.run_plan.specs.declared.act.Act.TheVariants as act
use Rattle.run_plan.specs.Cells.{State}
use Rattle.run_plan.specs.Deeds.{look_done}
use Rattle.run_plan.specs.Runs.{Onward, act_steps, straight}
use Rattle.run_plan.specs.Small.{Doing, core_of, showing}
use Rattle.run_plan.specs.Weights.{weight}
use Rattle.word_code.specs.ActCode.{act_code}
use Rattle.word_code.specs.Frames.{Frame}
use Rattle.act_laws.specs.Codes.{Fixed}
use Rattle.act_laws.specs.Templates.{LookDoes}
use Rattle.act_refines.specs.Between.{AreRelated, fixed_in}
use Rattle.act_refines.specs.Does.{DoesAct, GoesOn, IsDue, Nothing, frame_of, way_at}
use Rattle.act_refines.specs.Seen.{Seen, steps_seen, tells, trace_seen}
use Rattle.act_refines.proofs.Going.{goes_on}
use Rattle.code_cuts.specs.Acts.{CutsAct, CutsWell}
use Rattle.code_cuts.specs.Boots.{AreDue, times_in}
use Rattle.code_cuts.specs.Lasting.{Lasts}
use Rattle.code_cuts.specs.Runs.{end_seen}
use Rattle.code_runs.specs.Following.{AnyWay, Inside, PassesBy, RunsAt}
use Rattle.code_runs.proofs.Cutting.{is_less, not_less, running_goes_on}
use Rattle.code_runs.proofs.Placing.{Keeps, Known, later, may_follow, placed}
use Rattle.code_runs.proofs.Splitting.{seen_more}
use Rattle.site_runs.specs.InAttempts.{In, IsLooked, LeadsOn, With}
use Rattle.site_runs.proofs.Behind.{attempt_behind, same_thing, something}
use Rattle.site_runs.proofs.Leading.{runs_lead}

-- the laws on a look's code, as an argument of what goes by them
pub record LookLaws (p : Program) (place_of : ℕ → Place) : Type 0 where
  pub looked : (x : Fixed) (f : Frame) (k next : ℕ) (m : Spot) → LookDoes p x f k next m
  pub looks : (d : Doing) (number k : ℕ) → DoesAct p place_of d number false (act.Look k) IsDue
  pub looks_cut : (d : Doing) (number k : ℕ) → CutsAct p place_of d number false (act.Look k) Nothing

-- ---- the machine

-- before a machine that goes on, it went on
running : (p : Program) (n k : ℕ) (m there : Spot) → exec p (n + k) (live m) ≡ live there → (exec p n (live m)).ending ≡ Running
running p n k m there runs = by (exec p n (live m)).ending refl
  where
    by : (e : Ending) → (exec p n (live m)).ending ≡ e → e ≡ Running
    by Running is = refl
    by Halted is =
        let stays : exec p (n + k) (live m) ≡ exec p n (live m) = exec_more p n k (live m) ∙ stays_halted p k (exec p n (live m)) is in
        let ended : Running ≡ Halted = ap (λ (t : machine.State). t.ending) (sym runs ∙ stays) ∙ is in
        cc
    by (Trapped code) is =
        let stays : exec p (n + k) (live m) ≡ exec p n (live m) = exec_more p n k (live m) ∙ stays_trapped p k code (exec p n (live m)) is in
        let ended : Running ≡ Trapped code = ap (λ (t : machine.State). t.ending) (sym runs ∙ stays) ∙ is in
        cc

-- what some steps and more of them show
seen_then : (p : Program) (place_of : ℕ → Place) (n k : ℕ) (m : Spot) → trace_seen place_of (trace.trace p (n + k) (live m)) ≡ trace_seen place_of (trace.trace p n (live m)) ++ trace_seen place_of (trace.trace p k (exec p n (live m)))
seen_then p place_of n k m = ap (trace_seen place_of) (trace_more p n k (live m)) ∙ seen_more place_of (trace.trace p n (live m)) (trace.trace p k (exec p n (live m)))

-- a front of one thing that is seen is nothing, or begins with it
abbrev first_of : List Seen → Seen → Seen
first_of [] x = x
first_of (y ∷ ys) x = y

front_of_one : (some rest : List Seen) (x : Seen) → some ++ rest ≡ x ∷ [] → (some ≡ []) ⊎ ((ys : List Seen) × (some ≡ x ∷ ys))
front_of_one [] rest x is = inl refl
front_of_one (y ∷ ys) rest x is = inr (ys, ap (λ (xs : List Seen). first_of xs x ∷ ys) is)

module _ (p : Program) (place_of : ℕ → Place) (law : LookLaws p place_of) (d : Doing) (number : ℕ) (well : IsWellFormed (core_of d)) (here : task_of (core_of d) number ≡ Some d.setting.task) where
  abbrev Shows : (k next : ℕ) → Spot → Type 0
  Shows k next m = GoesOn p place_of 3 m next (tells (looks k (m.clock % 2 ^ 32)) ∷ []) (λ there. Unit {0})

  -- a look's code shows the clock
  shows_clock : (k next : ℕ) (m : Spot) (s : State) → Lie p m.pc (act_code (frame_of d number) false (act.Look k) m.pc next) → AreRelated p d true m s → Shows k next m
  shows_clock k next m s lies related =
      goes_on p place_of (fixed_in d.scheme s) (fixed_in d.scheme s) 3 3 m _ next _ (λ there. Unit {0}) related.fixed (law.looked (fixed_in d.scheme s) (frame_of d number) k next m lies) (omega arith) refl refl (λ there fixed stored issued. tt)

  -- where a look is seen, it was the next of the plan's
  is_due : (n k u : ℕ) (m : Spot) (s : State) (rest : List Seen) → AreDue p place_of n m s.looks → trace_seen place_of (trace.trace p n (live m)) ≡ tells (looks k u) ∷ rest → next_look s.looks ≡ u
  is_due n k u m s rest due seen = ap next_look (due.due ∙ ap (λ (xs : List Seen). times_in (xs ++ end_seen (exec p n (live m)).ending) ++ due.later) seen)

  module _ (Before After : ℕ → Spot → State → Type 0) (k at next : ℕ) (knows : (n : ℕ) (m : Spot) (s : State) → Before n m s → Known p place_of d number n m s)
      (leaves : (n : ℕ) (m : Spot) (s : State) → AreRelated p d true m s → Before n m s → IsDue m s → Keeps p place_of d number (AnyWay After) n m s (look_done k s)) (lies : Lie p at (act_code (frame_of d number) false (act.Look k) at next)) where
    -- a look that is due
    due_runs : RunsAt p place_of d number (Lasts p d.setting.rules d.scheme) (With Before IsDue) (AnyWay After) (act.Look k) at next
    due_runs =
        placed p place_of d number well here false (With Before IsDue) (AnyWay After) IsDue Nothing (weight d (act.Look k)) (act.Look k) at next (law.looks d number k) (law.looks_cut d number k) (λ n m s h. knows n m s h.0) (λ n m s related h. (h.1, tt))
        (λ n m s related h. leaves n m s related h.0 h.1) lies

    abbrev Runs : ℕ → Spot → State → Type 0
    Runs n m s =
        Inside p place_of (core_of d) d.scheme (Lasts p d.setting.rules d.scheme) n 6 m s (look_done k s)
        ⊎ PassesBy p place_of (core_of d) d.scheme (AnyWay After) (λ there to. AreRelated p d true there to) n 6 (way_at (frame_of d number) (act.Look k) at next) m s (look_done k s)

    -- one that isn't seen yet
    unseen : (n k_more : ℕ) (m there : Spot) (s : State) → CutsWell p place_of d (act.Look k) m s → exec p (n + k_more) (live m) ≡ live there → n < 6 → trace_seen place_of (trace.trace p n (live m)) ≡ [] → Runs n m s
    unseen n k_more m there s cuts runs early none =
        let all : List Seen = steps_seen (core_of d) d.scheme (showing (looks k (next_look s.looks)) ∷ []) s in
        let so = cuts.0.fronts n (record { rest = all; joined = ap (λ (xs : List Seen). xs ++ all) none }) in
        let on : (exec p n (live m)).ending ≡ Running = running p n k_more m there runs in
        inl (record {
          front = so.front;
          left = so.left;
          whole = so.whole;
          shown = ap (λ e. trace_seen place_of (trace.trace p n (live m)) ++ end_seen e) on ∙ append-nil (trace_seen place_of (trace.trace p n (live m))) ∙ so.shown;
          stood = so.stood;
          near = so.near;
          on = λ halts. running_goes_on (sym on ∙ halts);
          in_time = early;
        })

    look_runs : RunsAt p place_of d number (Lasts p d.setting.rules d.scheme) Before (AnyWay After) (act.Look k) at next
    look_runs n m s pc related before =
        let laid : Lie p m.pc (act_code (frame_of d number) false (act.Look k) m.pc next) = subst (λ w. Lie p w (act_code (frame_of d number) false (act.Look k) w next)) (sym pc) lies in
        by (shows_clock k next m s laid related) (knows n m s before)
        (law.looks_cut d number k next m s well laid related (ap (task_of (core_of d)) (knows n m s before).task ∙ here) (may_follow p place_of d number well here n m s (knows n m s before)) tt)
      where
        seen : AreDue p place_of n m s.looks → (rest : List Seen) → trace_seen place_of (trace.trace p n (live m)) ≡ tells (looks k (m.clock % 2 ^ 32)) ∷ rest → Runs n m s
        seen due rest is = due_runs n m s pc related (before, is_due n k (m.clock % 2 ^ 32) m s rest due is)

        by_steps : (g : Shows k next m) → Known p place_of d number n m s → CutsWell p place_of d (act.Look k) m s → (b : Bool) → nat_lt n g.steps ≡ b → Runs n m s
        by_steps g known cuts true is =
            let early : n < g.steps = is_less n g.steps is in
            let few : g.steps ≤ 3 = g.few in
            let sum : n + (g.steps - n) ≡ g.steps = omega (arith, early) in
            let runs : exec p (n + (g.steps - n)) (live m) ≡ live g.there = ap (λ j. exec p j (live m)) sum ∙ g.goes.runs in
            let joined : trace_seen place_of (trace.trace p n (live m)) ++ trace_seen place_of (trace.trace p (g.steps - n) (exec p n (live m))) ≡ tells (looks k (m.clock % 2 ^ 32)) ∷ [] =
            sym (seen_then p place_of n (g.steps - n) m) ∙ ap (λ j. trace_seen place_of (trace.trace p j (live m))) sum ∙ ap (trace_seen place_of) g.goes.seen ∙ g.shown in
            by_front (front_of_one (trace_seen place_of (trace.trace p n (live m))) (trace_seen place_of (trace.trace p (g.steps - n) (exec p n (live m)))) (tells (looks k (m.clock % 2 ^ 32))) joined)
            (unseen n (g.steps - n) m g.there s cuts runs (omega (arith, early, few))) (seen known.due)
          where
            by_front : (trace_seen place_of (trace.trace p n (live m)) ≡ []) ⊎ ((ys : List Seen) × (trace_seen place_of (trace.trace p n (live m)) ≡ tells (looks k (m.clock % 2 ^ 32)) ∷ ys)) → (trace_seen place_of (trace.trace p n (live m)) ≡ [] → Runs n m s)
                → ((rest : List Seen) → trace_seen place_of (trace.trace p n (live m)) ≡ tells (looks k (m.clock % 2 ^ 32)) ∷ rest → Runs n m s) → Runs n m s
            by_front (inl none) without with_it = without none
            by_front (inr some) without with_it = with_it some.0 some.1
        by_steps g known cuts false is =
            let few : g.steps ≤ n = not_less n g.steps is in
            let sum : n ≡ g.steps + (n - g.steps) = omega (arith, few) in
            seen known.due (trace_seen place_of (trace.trace p (n - g.steps) (exec p g.steps (live m))))
            (ap (λ j. trace_seen place_of (trace.trace p j (live m))) sum ∙ seen_then p place_of g.steps (n - g.steps) m
            ∙ ap (λ (xs : List Seen). xs ++ trace_seen place_of (trace.trace p (n - g.steps) (exec p g.steps (live m)))) (ap (trace_seen place_of) g.goes.seen ∙ g.shown))

        by : Shows k next m → Known p place_of d number n m s → CutsWell p place_of d (act.Look k) m s → Runs n m s
        by g known cuts = by_steps g known cuts (nat_lt n g.steps) refl

    pub look_leads : (most : ℕ) (go : Onward) → LeadsOn p place_of d After (suc most) next go → LeadsOn p place_of d Before (suc most) at (act_steps d (act.Look k) (straight go))
    look_leads most go leads = runs_lead p place_of d number Before (AnyWay After) (act.Look k) at next most (straight go) (λ m s related. related) look_runs (λ way. leads)

  -- ---- behind a look

  -- its time is now's, and no stamp is later
  pub looked : (blocks : List ℕ) (n : ℕ) (m there : Spot) (s : State) → In p place_of d number blocks n m s → IsDue m s → m.clock ≤ there.clock → IsLooked there (record s { looks = drop 1 s.looks; frame = record s.frame { time = Some (next_look s.looks) } })
  looked blocks n m there s h due on =
      let ticks : m.clock + n < 2 ^ 32 = h.common.ticks in
      let now : next_look s.looks ≡ m.clock = (let whole : m.clock % 2 ^ 32 ≡ m.clock = omega (arith, ticks) in due ∙ whole) in
      record {
        time = something (next_look s.looks);
        past = λ u is. (let same : next_look s.looks ≡ u = same_thing (next_look s.looks) u is in omega (arith, now, same, on));
        stamps = λ u j is. (
            let same : next_look s.looks ≡ u = same_thing (next_look s.looks) u is in
            let past : s.cells.stamp j ≤ m.clock = (may_follow p place_of d number well here n m s h.common).past j in
            omega (arith, now, same, past));
      }

  -- so a look leads on in an attempt
  pub attempt_looks : (blocks : List ℕ) (k at next most : ℕ) (go : Onward) → Lie p at (act_code (frame_of d number) false (act.Look k) at next) → LeadsOn p place_of d (With (In p place_of d number blocks) IsLooked) (suc most) next go
      → LeadsOn p place_of d (In p place_of d number blocks) (suc most) at (act_steps d (act.Look k) (straight go))
  attempt_looks blocks k at next most go lies leads =
      look_leads (In p place_of d number blocks) (With (In p place_of d number blocks) IsLooked) k at next (λ n m s h. h.common)
      (λ n m s related h due steps there gone.
      (attempt_behind p place_of d number blocks n steps m there _ s _ h gone refl refl refl refl h.within, looked blocks n m there s h due (later p place_of d number n steps m there _ s _ gone))) lies most go leads
