-- From a commit to the next attempt through its stub, and so attempts one after another.
use Rattle.std.specs.Prelude.{Option, Some, None, length}
use Rattle.std.proofs.Common.{◌≡◌, ◌∙◌, ℕ, zero, suc, ◌+◌, ◌<◌, ◌≤◌, false, [], ◌∷◌, ◌++◌, refl, sym, ap, subst, arith}
use Rattle.devices.specs.Journal.{Place}
use Rattle.task_ast.specs.declared.core_form.Core.{Core}
use Rattle.task_ast.specs.declared.core_form.CoreTask.{CoreTask}
use Rattle.task_attempts.specs.Boots.{task_of}
use Rattle.task_attempts.specs.State.{Rules}
use Rattle.word_isa.specs.declared.instr.Instr.TheVariants.{Halt}
use Rattle.word_isa.specs.declared.parts.Scheme.{Scheme}
use Rattle.word_machine.specs.Events.{event, event_at, event_next}
use Rattle.word_machine.specs.RunLaws.{seen_of, stays_halted, step_halt}
use Rattle.word_machine.specs.State as machine
use Rattle.word_machine.specs.State.{Program}
use Rattle.word_machine.specs.Step.{exec, step, step_at}
use Rattle.word_machine.specs.Straight.{Spot, Stand, live}
use Rattle.word_machine.specs.Traces as trace
use Rattle.word_machine.specs.declared.ending.Ending.TheVariants.{Halted}
use Rattle.line_laws.specs.Standing.{Lie}
use Rattle.run_plan.specs.Cells.{State}
use Rattle.run_plan.specs.Runs.{At, Planned, Smalls, acts_run, after, at_task, attempt_if_there, attempts, doing, nothing}
use Rattle.word_code.specs.Acts.{jump}
use Rattle.word_code.specs.Frames.{stub_at}
use Rattle.act_laws.specs.CodeLaws.{goes_jmp}
use Rattle.act_laws.specs.Codes.{Goes}
use Rattle.act_refines.specs.Between.{AreRelated}
use Rattle.act_refines.specs.Seen.{trace_seen}
use Rattle.code_runs.specs.Attempts.{LeadsFirst}
use Rattle.code_cuts.specs.Lasting.{Lasts, doing_of}
use Rattle.code_cuts.specs.Runs.{Cut, IsInProgress, end_seen, shown_by, smalls_seen}
use Rattle.code_runs.specs.Claims.{Common}
use Rattle.code_runs.specs.Following.{LeadsAgain, RelatedNext}
use Rattle.code_runs.specs.Stubs.{AllStubsRun, StubRuns}
use Rattle.code_runs.proofs.Commons.{common_none, common_on, lasts_later}
use Rattle.code_runs.proofs.Near.{near_later, near_none}
use Rattle.code_runs.proofs.Splitting.{exec_behind, shown_behind}

-- ---- a step that shows nothing

pub fewer : (a b : ℕ) (rest : Smalls) → a ≤ b → IsInProgress b rest → IsInProgress a rest
fewer a b [] less h = tt
fewer a b (x ∷ rest) less h = omega (arith, less, h)

-- before it
pub cut_now : (p : Program) (place_of : ℕ → Place) (rules : Rules) (scheme : Scheme) (spent pc : ℕ) (m : Spot) (s : State) (xs : Smalls)
    → Cut p place_of rules.core scheme (Lasts p rules scheme) 0 (spent + 1) (record m { pc = pc }) s xs → Cut p place_of rules.core scheme (Lasts p rules scheme) 0 spent m s xs
unfolding exec trace.trace
cut_now p place_of rules scheme spent pc m s xs r = record {
  front = r.front;
  rest = r.rest;
  whole = r.whole;
  shown = r.shown;
  stood = λ t may. (let h = r.stood t may in record { memory = h.memory; follows = h.follows });
  near = r.near;
  on = r.on;
  within = fewer (spent + 0) (spent + 1 + 0) r.rest (omega arith) r.within;
}

-- and behind it
pub cut_later : (p : Program) (place_of : ℕ → Place) (c : Core) (scheme : Scheme) (Stood : machine.State → State → Type 0) (steps k n spent : ℕ) (m there : Spot) (s : State) (xs : Smalls) → Goes p steps m there [] → steps + k ≡ n
    → Cut p place_of c scheme Stood k (spent + steps) there s xs → Cut p place_of c scheme Stood n spent m s xs
cut_later p place_of c scheme Stood steps k n spent m there s xs goes sum r =
    let sum_is : spent + steps + k ≡ spent + n = omega (arith, sum) in
    let fewer_steps : k ≤ n = omega (arith, sum) in
    let ended : exec p n (live m) ≡ exec p k (live there) = ap (λ j. exec p j (live m)) (sym sum) ∙ exec_behind p steps k m there [] goes in
    record {
      front = r.front;
      rest = r.rest;
      whole = r.whole;
      shown = ap (λ j. shown_by p place_of j m) (sym sum) ∙ shown_behind p place_of steps k m there [] goes ∙ r.shown;
      stood = subst (λ e. Stood e (after s r.front)) (sym ended) r.stood;
      near = near_later c scheme k n (smalls_seen c scheme r.front s) s (after s r.front) fewer_steps r.near;
      on = λ is. r.on (ap (λ e. e.ending) (sym ended) ∙ is);
      within = subst (λ j. IsInProgress j r.rest) sum_is r.within;
    }

-- ---- the end

halted_trace : (p : Program) (k : ℕ) (s : machine.State) → s.ending ≡ Halted → trace.trace p k s ≡ []
unfolding trace.trace trace.writes_next event_next step
halted_trace p zero s is = refl
halted_trace p (suc k) s is = (λ i. (trace.writes_at p (is i) s ++ trace.shows (event_at p (is i) s)) ++ trace.trace p k (step_at p (is i) s)) ∙ halted_trace p k s is

-- where no task is next, a machine that halts shows nothing
pub halting : (p : Program) (place_of : ℕ → Place) (rules : Rules) (scheme : Scheme) (n spent : ℕ) (m : Spot) (s : State) → Stand p m.pc Halt → Lasts p rules scheme (live m) s → task_of rules.core s.task ≡ None
    → Cut p place_of rules.core scheme (Lasts p rules scheme) n spent m s []
unfolding exec trace.trace
halting p place_of rules scheme zero spent m s stand stood none = record { front = []; rest = []; whole = refl; shown = refl; stood = stood; near = near_none rules.core scheme s; on = λ is. none; within = tt }
halting p place_of rules scheme (suc k) spent m s stand stood none =
    let h : machine.State = record (live m) { pc = m.pc + 1; clock = m.clock + 1; ending = Halted } in
    let goes : step p (live m) ≡ h = step_halt p m stand.instr in
    let stays : exec p k (step p (live m)) ≡ h = ap (exec p k) goes ∙ stays_halted p k h refl in
    let nothing_seen : trace.seen p (live m) ≡ [] = seen_of p Halt m stand.instr refl ∙ ap (λ sign. trace.shows (event p.values sign Halt (live m))) stand.mark in
    let silent : trace.trace p k (step p (live m)) ≡ [] = ap (trace.trace p k) goes ∙ halted_trace p k h refl in
    let stood_there : Lasts p rules scheme h s = λ t may. lasts_later p (doing_of rules scheme t) (live m) h s refl refl (omega arith) (stood t may) in
    record {
      front = [];
      rest = [];
      whole = refl;
      shown = λ i. trace_seen place_of (nothing_seen i ++ silent i) ++ end_seen (stays i).ending;
      stood = subst (λ e. Lasts p rules scheme e s) (sym stays) stood_there;
      near = near_later rules.core scheme 0 (suc k) [] s s (omega arith) (near_none rules.core scheme s);
      on = λ is. none;
      within = tt;
    }

-- ---- attempts

module _ (p : Program) (place_of : ℕ → Place) (x : Planned) where
  abbrev Stood : machine.State → State → Type 0
  Stood = Lasts p x.rules x.plan.scheme

  abbrev Known : (number n : ℕ) → Spot → State → Type 0
  Known = Common p place_of x.rules x.plan.scheme

  at_stub : (number : ℕ) (task : CoreTask) (most t : ℕ) (o : Option CoreTask) → task_of x.rules.core t ≡ o → StubRuns p place_of x t o
      → ((u : CoreTask) → LeadsAgain p place_of (doing x t u) Stood Known most (attempts x most))
      → (n spent : ℕ) (m : Spot) (w : At) → n < suc most → m.pc ≡ stub_at (length x.rules.core.tasks) t → RelatedNext p (doing x number task) t m w.state → spent < w.weights → Known t n m w.state
      → Cut p place_of x.rules.core x.plan.scheme Stood n spent m w.state (attempt_if_there x (attempts x most) t o w)
  at_stub number task most t None none stand leads n spent m w soon pc related early holds =
      halting p place_of x.rules x.plan.scheme n spent m w.state (subst (λ a. Stand p a Halt) (sym pc) stand) (λ u may. record { memory = (related.1 u []).memory; follows = holds.follows u may }) (ap (task_of x.rules.core) related.0 ∙ none)
  at_stub number task most t (Some u) found r leads n spent m w soon pc related early holds = by n soon holds
    where
      Goal : ℕ → Smalls → Type 0
      Goal k xs = Cut p place_of x.rules.core x.plan.scheme Stood k spent m w.state xs

      there : Spot
      there = record m { pc = r.top; clock = m.clock + 1 }

      goes : Goes p 1 m there []
      goes = goes_jmp p r.top m (subst (λ a. Lie p a (jump r.top)) (sym pc) r.stub)

      related_at : (clock : ℕ) → AreRelated p (doing x t u) false (record m { pc = r.top; clock = clock }) w.state
      related_at clock = let is = related.1 u (at_task x.plan.firsts t []) in record { fixed = is.fixed; memory = is.memory }

      first : LeadsFirst p place_of (doing x t u) Stood (Known t) (suc most) r.top (acts_run (doing x t u) (attempts x most) (at_task x.plan.tasks t []) nothing)
      first = r.leads most (attempts x most) (leads u)

      enough : spent + 1 ≤ w.weights
      enough = omega (arith, early)

      by : (k : ℕ) → k < suc most → Known t k m w.state → Goal k (acts_run (doing x t u) (attempts x most) (at_task x.plan.tasks t []) nothing w)
      by zero less known =
          let now : Spot = record m { pc = r.top } in
          cut_now p place_of x.rules x.plan.scheme spent r.top m w.state _ (first 0 (spent + 1) now w less refl (related_at m.clock) enough (common_none p place_of x.rules x.plan.scheme t 0 m now w.state refl known))
      by (suc k) less known =
          let less_too : k < suc most = omega (arith, less) in
          let sum : 1 + k ≡ suc k = omega arith in
          cut_later p place_of x.rules.core x.plan.scheme Stood 1 k (suc k) spent m there w.state _ goes sum
          (first k (spent + 1) there w less_too refl (related_at (m.clock + 1)) enough (common_on p place_of x.rules x.plan.scheme t 1 k (suc k) m there w.state goes sum known))

  pub attempts_lead : (number : ℕ) (task : CoreTask) → AllStubsRun p place_of x → (most : ℕ) → LeadsAgain p place_of (doing x number task) Stood Known most (attempts x most)
  attempts_lead number task stubs zero t there n spent m w soon pc related early holds = absurd (omega (arith, soon))
  attempts_lead number task stubs (suc most) t there n spent m w soon pc related early holds =
      subst (λ k. Cut p place_of x.rules.core x.plan.scheme Stood n spent m w.state (attempt_if_there x (attempts x most) k (task_of x.rules.core k) w)) (sym related.0)
      (at_stub number task most t (task_of x.rules.core t) refl (stubs t there) (λ u. attempts_lead t u stubs most) n spent m w soon pc related early holds)
