-- A boot's start: the head finds the running task, and its boot stub leads to what restores its regions and to its attempt.
use Rattle.std.specs.Prelude.{◌==◌, length, nat_lt, slice_get, Option, Some, None, if◌then◌else◌}
use Rattle.std.proofs.Common.{◌≡◌, ◌∙◌, ℕ, zero, suc, ◌+◌, ◌-◌, ◌*◌, ◌/◌, ◌%◌, ◌^◌, ◌<◌, ◌≤◌, inl, inr, Bool, true, false, List, [], ◌∷◌, ◌++◌, refl, sym, ap, subst, arith}
use Rattle.std.proofs.lemmas.Bool.Decides.{nat_tests}
use Rattle.devices.specs.Journal.{Place}
use Rattle.fram_ram.specs.Memories.{is_fram}
use Rattle.task_ast.specs.declared.core_form.CoreExit.TheVariants as exit
use Rattle.task_ast.specs.declared.core_form.CoreTask.{CoreTask}
use Rattle.task_ast.specs.WellFormed.{IsWellFormed}
use Rattle.task_attempts.specs.Boots.{task_of}
use Rattle.task_attempts.specs.State.{Rules}
use Rattle.word_isa.specs.declared.instr.Instr.TheVariants.{Halt}
use Rattle.word_isa.specs.declared.parts.Scheme.{Scheme}
use Rattle.word_isa.specs.declared.parts.Scheme.TheVariants.{Undo, Bank}
use Rattle.word_machine.specs.RunLaws.{clock_rises, exec_more, stays_halted, step_halt, trace_more}
use Rattle.word_machine.specs.State as machine
use Rattle.word_machine.specs.State.{Program}
use Rattle.word_machine.specs.Step.{exec}
use Rattle.word_machine.specs.Straight.{Spot, Stand, live}
use Rattle.word_machine.specs.TraceLaws.{traced}
use Rattle.word_machine.specs.Traces as trace
use Rattle.word_machine.specs.Traces.{applied}
use Rattle.word_machine.specs.declared.ending.Ending.TheVariants.{Halted, Running}
use Rattle.run_plan.specs.Cells.{State}
use Rattle.run_plan.specs.Runs.{Planned, Smalls, acts_run, after, attempt_if_there, attempts, boot_run, booted, doing, nothing, restoring_if_there}
use Rattle.run_plan.specs.Small.{Doing}
use Rattle.line_laws.specs.Standing.{Lie}
use Rattle.word_code.specs.Acts.{jump}
use Rattle.word_code.specs.Frames.{halt_at, stride, stub_at}
use Rattle.word_code.specs.Heads.{boot_at}
use Rattle.act_laws.proofs.Counted.{counted, issued_traced}
use Rattle.act_laws.specs.CodeLaws.{goes_jmp, goes_then}
use Rattle.act_laws.specs.Codes.{Fixed, Goes, HasFixed}
use Rattle.act_laws.specs.Templates.{HeadDoes}
use Rattle.act_laws.specs.Words.{fixed_of, state_word}
use Rattle.cell_laws.specs.Standing.{worked}
use Rattle.act_refines.specs.Between.{IsBank, MemoryStands, committed_at, fixed_in}
use Rattle.act_refines.specs.Seen.{trace_seen}
use Rattle.code_cuts.specs.Boots.{BootsRun, IsBooted, RunsPlan}
use Rattle.code_cuts.specs.Lasting.{Lasts, doing_of}
use Rattle.code_cuts.specs.Runs.{Cut, end_seen, smalls_seen}
use Rattle.code_runs.specs.Attempts.{LeadsFirst}
use Rattle.code_runs.specs.Booting.{AllBootsRun, BootIfThere, BootRuns, StopsSoon}
use Rattle.code_runs.specs.Claims.{Common}
use Rattle.code_runs.specs.Stubs.{AllStubsRun, StubRuns, TaskRuns}
use Rattle.code_runs.proofs.Commons.{common_none, common_on, follow_like}
use Rattle.code_runs.proofs.Cutting.{clock_of, is_less, not_less, running, running_goes_on}
use Rattle.code_runs.proofs.InAttempts.{regions_follow}
use Rattle.code_runs.proofs.InStubs.{attempts_lead, cut_later, fewer, halting}
use Rattle.code_runs.proofs.Near.{near_later}

-- ---- the state word

bank_small : (scheme : Scheme) (bank : ℕ) → IsBank scheme bank → bank < 2
bank_small Undo bank is = omega (arith, is)
bank_small Bank bank (inl is) = omega (arith, is)
bank_small Bank bank (inr is) = omega (arith, is)

-- the fixed registers of a state word, by arithmetic and by the scheme
abbrev fixed_by : (stride e b : ℕ) → Fixed
fixed_by stride e b = record { committed = b * stride % 2 ^ 32; epoch = e; working = (if b == 0 then 1 else 0) * stride % 2 ^ 32 }

abbrev fixed_at : Scheme → (e b : ℕ) → Fixed
fixed_at scheme e b = record { committed = committed_at scheme b; epoch = e; working = worked scheme b }

fixed_word : (stride e t b : ℕ) → t < 128 → b < 2 → fixed_of stride (state_word e t b) ≡ fixed_by stride e b
fixed_word stride e t b few small =
    let low : state_word e t b % 2 ≡ b = omega (arith, small) in
    let high : state_word e t b / 2 ^ 8 ≡ e = omega (arith, small, few) in
    λ i. record { committed = low i * stride % 2 ^ 32; epoch = high i; working = (if low i == 0 then 1 else 0) * stride % 2 ^ 32 }

fixed_bank : (scheme : Scheme) (e b : ℕ) → IsBank scheme b → fixed_by (stride scheme) e b ≡ fixed_at scheme e b
fixed_bank Undo e b is = subst (λ b. fixed_by 0 e b ≡ fixed_at Undo e b) (sym is) refl
fixed_bank Bank e b (inl is) = subst (λ b. fixed_by 2048 e b ≡ fixed_at Bank e b) (sym is) refl
fixed_bank Bank e b (inr is) = subst (λ b. fixed_by 2048 e b ≡ fixed_at Bank e b) (sym is) refl

-- the task that it has
task_in : (e t b : ℕ) → t < 128 → b < 2 → state_word e t b % 256 / 2 ≡ t
task_in e t b few small = omega (arith, few, small)

-- ---- steps that show nothing

nothing_before : {A : Type 0} (a b : List A) → a ++ b ≡ [] → a ≡ []
nothing_before [] b is = refl
nothing_before (x ∷ a) b is = absurd (cc is)

fram_is : (a : ℕ) → a < 65536 → is_fram a ≡ true
fram_is a low = grind (arith, nat_tests, low)

-- fewer of them show nothing either
quiet_trace : (p : Program) (n steps : ℕ) (e : machine.State) → n ≤ steps → trace.trace p steps e ≡ [] → trace.trace p n e ≡ []
quiet_trace p n steps e few is =
    let whole : n + (steps - n) ≡ steps = omega (arith, few) in
    nothing_before (trace.trace p n e) (trace.trace p (steps - n) (exec p n e)) (sym (trace_more p n (steps - n) e) ∙ ap (λ j. trace.trace p j e) whole ∙ is)

-- where FRAM is the same, all that outlives a power failure is
abbrev FramKeeps : Type 0
FramKeeps = (p : Program) (d : Doing) (m n counts : ℕ → ℕ) (s : State) → IsWellFormed d.setting.rules.core → MemoryStands p d false m counts s → ((a : ℕ) → a < 65536 → n a ≡ m a) → MemoryStands p d false n counts s

lasts_like : FramKeeps → (p : Program) (rules : Rules) (scheme : Scheme) (e f : machine.State) (s : State) → IsWellFormed rules.core → ((a : ℕ) → a < 65536 → f.store a ≡ e.store a) → f.issued ≡ e.issued → e.clock ≤ f.clock
    → Lasts p rules scheme e s → Lasts p rules scheme f s
lasts_like fram p rules scheme e f s well words counts later h t may = record {
  memory = subst (λ k. MemoryStands p (doing_of rules scheme t) false f.store k s) (sym counts) (fram p (doing_of rules scheme t) e.store f.store e.issued s well (h t may).memory words);
  follows = follow_like (doing_of rules scheme t) e.clock f.clock s s refl refl later (h t may).follows;
}

-- steps that show nothing leave it so, at any later time
pub lasts_there : FramKeeps → (p : Program) (rules : Rules) (scheme : Scheme) (steps clock : ℕ) (m there : Spot) (s : State) → IsWellFormed rules.core → Goes p steps m there [] → m.clock ≤ clock → Lasts p rules scheme (live m) s
    → Lasts p rules scheme (live (record there { clock = clock })) s
lasts_there fram p rules scheme steps clock m there s well goes later h =
    lasts_like fram p rules scheme (live m) (live (record there { clock = clock })) s well
    (λ a low. ap (λ (e : machine.State). e.store a) (sym goes.runs) ∙ traced p steps (live m) a (fram_is a low) ∙ ap (λ atoms. applied atoms m.store a) goes.seen)
    (ap (λ (e : machine.State). e.issued) (sym goes.runs) ∙ issued_traced p steps (live m) ∙ ap (λ atoms. counted p atoms m.issued) goes.seen) later h

-- and back from where they lead, if it stands there at the time before them
lasts_before : FramKeeps → (p : Program) (rules : Rules) (scheme : Scheme) (n steps : ℕ) (m there : Spot) (s : State) → IsWellFormed rules.core → n ≤ steps → Goes p steps m there [] → (exec p n (live m)).ending ≡ Running
    → Lasts p rules scheme (live (record there { clock = m.clock })) s → Lasts p rules scheme (exec p n (live m)) s
lasts_before fram p rules scheme n steps m there s well few goes goes_on h =
    let none : trace.trace p n (live m) ≡ [] = quiet_trace p n steps (live m) few goes.seen in
    let clock : (exec p n (live m)).clock ≡ m.clock + n = clock_rises p n (live m) goes_on in
    lasts_like fram p rules scheme (live (record there { clock = m.clock })) (exec p n (live m)) s well
    (λ a low. traced p n (live m) a (fram_is a low) ∙ ap (λ atoms. applied atoms m.store a) none ∙ sym (ap (λ (e : machine.State). e.store a) (sym goes.runs) ∙ traced p steps (live m) a (fram_is a low) ∙ ap (λ atoms. applied atoms m.store a) goes.seen))
    (issued_traced p n (live m) ∙ ap (λ atoms. counted p atoms m.issued) none ∙ sym (ap (λ (e : machine.State). e.issued) (sym goes.runs) ∙ issued_traced p steps (live m) ∙ ap (λ atoms. counted p atoms m.issued) goes.seen)) (omega (arith, clock)) h

-- within them, a run is cut as where they lead
cut_early : FramKeeps → (p : Program) (place_of : ℕ → Place) (rules : Rules) (scheme : Scheme) (n steps spent : ℕ) (m there : Spot) (s : State) (xs : Smalls) → IsWellFormed rules.core → n ≤ steps → Goes p steps m there []
    → Cut p place_of rules.core scheme (Lasts p rules scheme) 0 (spent + steps) (record there { clock = m.clock }) s xs → Cut p place_of rules.core scheme (Lasts p rules scheme) n spent m s xs
unfolding exec trace.trace
cut_early fram p place_of rules scheme n steps spent m there s xs well few goes r =
    let none : trace.trace p n (live m) ≡ [] = quiet_trace p n steps (live m) few goes.seen in
    let goes_on : (exec p n (live m)).ending ≡ Running = running p n steps m there goes.runs few in
    record {
      front = r.front;
      rest = r.rest;
      whole = r.whole;
      shown = (λ i. trace_seen place_of (none i) ++ end_seen (goes_on i)) ∙ r.shown;
      stood = lasts_before fram p rules scheme n steps m there (after s r.front) well few goes goes_on r.stood;
      near = near_later rules.core scheme 0 n (smalls_seen rules.core scheme r.front s) s (after s r.front) (omega arith) r.near;
      on = λ is. absurd (running_goes_on (sym goes_on ∙ is));
      within = fewer (spent + n) (spent + steps + 0) r.rest (omega (arith, few)) r.within;
    }

-- and behind them it goes on from there
cut_through : FramKeeps → (p : Program) (place_of : ℕ → Place) (rules : Rules) (scheme : Scheme) (n steps spent : ℕ) (m there : Spot) (s : State) (xs : Smalls) → IsWellFormed rules.core → Goes p steps m there []
    → Cut p place_of rules.core scheme (Lasts p rules scheme) 0 (spent + steps) (record there { clock = m.clock }) s xs → (steps ≤ n → Cut p place_of rules.core scheme (Lasts p rules scheme) (n - steps) (spent + steps) there s xs)
    → Cut p place_of rules.core scheme (Lasts p rules scheme) n spent m s xs
cut_through fram p place_of rules scheme n steps spent m there s xs well goes now later = by (nat_lt n steps) refl
  where
    by : (b : Bool) → nat_lt n steps ≡ b → Cut p place_of rules.core scheme (Lasts p rules scheme) n spent m s xs
    by true is = let less : n < steps = is_less n steps is in cut_early fram p place_of rules scheme n steps spent m there s xs well (omega (arith, less)) goes now
    by false is =
        let few : steps ≤ n = not_less n steps is in
        cut_later p place_of rules.core scheme (Lasts p rules scheme) steps (n - steps) n spent m there s xs goes (omega (arith, few)) (later few)

-- a machine that stands before a halt
halts : (p : Program) (k : ℕ) (m : Spot) → Stand p m.pc Halt → (exec p (suc k) (live m)).ending ≡ Halted
unfolding exec
halts p k m stand =
    let h : machine.State = record (live m) { pc = m.pc + 1; clock = m.clock + 1; ending = Halted } in
    ap (λ (e : machine.State). e.ending) (ap (exec p k) (step_halt p m stand.instr) ∙ stays_halted p k h refl)

-- ---- the head

-- some task, where none is next
nobody : CoreTask
nobody = record { name = []; body = []; exit = exit.Stop; sites = [] }

-- where the head leads, in so many steps
pub record Found (p : Program) (x : Planned) (m : Spot) (s : State) : Type 0 where
  pub steps : ℕ
  pub few : steps ≤ 48
  pub there : Spot
  pub goes : Goes p steps m there []
  pub at : there.pc ≡ boot_at (length x.rules.core.tasks) s.task
  pub fixed : HasFixed (fixed_in x.plan.scheme s) there

module _ (head : (p : Program) (stride tasks task : ℕ) (s : Spot) → HeadDoes p stride tasks task s) (fram : FramKeeps) (p : Program) (place_of : ℕ → Place) (x : Planned) (well : IsWellFormed x.rules.core) (boots : AllBootsRun p place_of x) where
  any_task : (m : Spot) (s : State) (o : Option CoreTask) → task_of x.rules.core s.task ≡ o → Lasts p x.rules x.plan.scheme (live m) s → (t : CoreTask) × MemoryStands p (doing_of x.rules x.plan.scheme t) false m.store m.issued s
  any_task m s None none h = (nobody, (h nobody (inr none)).memory)
  any_task m s (Some t) found h = (t, (h t (inl found)).memory)

  finds : (m : Spot) (s : State) → m.pc ≡ 0 → s.task ≤ length x.rules.core.tasks → Lasts p x.rules x.plan.scheme (live m) s → Found p x m s
  finds m s pc there lasts =
      let some = any_task m s (task_of x.rules.core s.task) refl lasts in
      let memory = some.1 in
      let few_tasks : length x.rules.core.tasks ≤ 64 = well.few_tasks in
      let small : s.bank < 2 = bank_small x.plan.scheme s.bank memory.tidy.bank in
      let low : s.task < 128 = omega (arith, there, few_tasks) in
      let word : m.store 0 ≡ state_word s.epoch s.task s.bank = memory.cells.store.state in
      let acts = head p (stride x.plan.scheme) (length x.rules.core.tasks) s.task m pc few_tasks (ap (λ w. w % 256 / 2) word ∙ task_in s.epoch s.task s.bank low small) there boots.head in
      record {
        steps = acts.steps;
        few = acts.few;
        there = acts.there;
        goes = acts.goes;
        at = acts.at;
        fixed = subst (λ f. HasFixed f acts.there) (ap (fixed_of (stride x.plan.scheme)) word ∙ fixed_word (stride x.plan.scheme) s.epoch s.task s.bank low small ∙ fixed_bank x.plan.scheme s.epoch s.bank memory.tidy.bank) acts.fixed;
      }

  -- no number of a task misses it
  is_none : (A : Type 0) (xs : List A) (n : ℕ) → slice_get xs n ≡ None → length xs ≤ n
  is_none A [] n is = omega arith
  is_none A (y ∷ xs) zero is = absurd (cc is)
  is_none A (y ∷ xs) (suc n) is = omega (arith, is_none A xs n is)

  no_task : (number : ℕ) → task_of x.rules.core number ≡ None → number ≤ length x.rules.core.tasks → number ≡ 0
  no_task zero none few = refl
  no_task (suc n) none few = let long = is_none CoreTask x.rules.core.tasks n none in absurd (omega (arith, long, few))

  -- the stubs of attempts are among it
  stub_here : (number : ℕ) (o : Option CoreTask) → task_of x.rules.core number ≡ o → number ≤ length x.rules.core.tasks → BootIfThere p place_of x number o → StubRuns p place_of x number o
  stub_here number None none few b = subst (λ k. Stand p (stub_at (length x.rules.core.tasks) k) Halt) (sym (no_task number none few)) boots.halt
  stub_here number (Some t) found few b = b.attempt

  pub stubs : AllStubsRun p place_of x
  stubs number few = stub_here number (task_of x.rules.core number) refl few (boots.boots number few)

  abbrev Stood : machine.State → State → Type 0
  Stood = Lasts p x.rules x.plan.scheme

  abbrev Known : (number n : ℕ) → Spot → State → Type 0
  Known = Common p place_of x.rules x.plan.scheme

  -- behind what is restored comes the task's attempt
  attempt_leads : (number most : ℕ) (t : CoreTask) → task_of x.rules.core number ≡ Some t → (r : TaskRuns p place_of x number t)
      → LeadsFirst p place_of (doing x number t) Stood (Known number) (suc most) r.top (attempts x (suc most))
  attempt_leads number most t found r n spent m w less pc related few known =
      subst (λ k. Cut p place_of x.rules.core x.plan.scheme Stood n spent m w.state (attempt_if_there x (attempts x most) k (task_of x.rules.core k) w)) (sym known.task)
      (subst (λ o. Cut p place_of x.rules.core x.plan.scheme Stood n spent m w.state (attempt_if_there x (attempts x most) number o w)) (sym found)
      (r.leads most (attempts x most) (attempts_lead p place_of x number t stubs most) n spent m w less pc related few known))

  boot_leads : (number most : ℕ) (t : CoreTask) → task_of x.rules.core number ≡ Some t → (b : BootRuns p place_of x number t)
      → LeadsFirst p place_of (doing x number t) Stood (Known number) (suc most) b.top (acts_run (doing x number t) nothing x.plan.boot (attempts x (suc most)))
  boot_leads number most t found b =
      subst (λ acts. LeadsFirst p place_of (doing x number t) Stood (Known number) (suc most) b.top (acts_run (doing x number t) nothing acts (attempts x (suc most)))) (sym b.planned)
      (regions_follow p place_of (doing x number t) number Stood (Known number) most nothing b.rs b.top b.attempt.top (attempts x (suc most)) b.long b.behind b.runs (attempt_leads number most t found b.attempt))

  -- what memory has where the head has led
  lasts_found : (clock : ℕ) (m : Spot) (s : State) (f : Found p x m s) → m.clock ≤ clock → Lasts p x.rules x.plan.scheme (live m) s → Lasts p x.rules x.plan.scheme (live (record f.there { clock = clock })) s
  lasts_found clock m s f later h = lasts_there fram p x.rules x.plan.scheme f.steps clock m f.there s well f.goes later h

  halt_found : (m : Spot) (s : State) (f : Found p x m s) → s.task ≡ 0 → Stand p f.there.pc Halt
  halt_found m s f none = let here : f.there.pc ≡ halt_at (length x.rules.core.tasks) = f.at ∙ ap (boot_at (length x.rules.core.tasks)) none ∙ ends in subst (λ a. Stand p a Halt) (sym here) boots.halt
    where
      ends : boot_at (length x.rules.core.tasks) 0 ≡ halt_at (length x.rules.core.tasks)
      ends = omega arith

  -- what is known where a boot begins
  known_first : (n : ℕ) (m : Spot) (s : State) → IsBooted p place_of x n m s → Known s.task n m s
  known_first n m s is = record { room = is.room; ticks = is.ticks; task = refl; follows = λ t may. (is.lasts t may).follows; due = is.due }

  at_boot : (n most : ℕ) (m : Spot) (s : State) → n < suc most → IsBooted p place_of x n m s → (o : Option CoreTask) → task_of x.rules.core s.task ≡ o → BootIfThere p place_of x s.task o
      → Cut p place_of x.rules.core x.plan.scheme Stood n 0 m s (restoring_if_there x (attempts x (suc most)) s.task o (booted s))
  at_boot n most m s soon is None none b =
      let f : Found p x m s = finds m s is.pc is.next is.lasts in
      let no : s.task ≡ 0 = no_task s.task none is.next in
      let stand : Stand p f.there.pc Halt = halt_found m s f no in
      let clock : f.there.clock ≡ m.clock + f.steps = clock_of p f.steps m f.there f.goes.runs in
      cut_through fram p place_of x.rules x.plan.scheme n f.steps 0 m f.there s [] well f.goes
      (halting p place_of x.rules x.plan.scheme 0 (0 + f.steps) (record f.there { clock = m.clock }) s stand (lasts_found m.clock m s f (omega arith) is.lasts) none)
      (λ few. halting p place_of x.rules x.plan.scheme (n - f.steps) (0 + f.steps) f.there s stand (lasts_found f.there.clock m s f (omega (arith, clock)) is.lasts) none)
  at_boot n most m s soon is (Some t) found b =
      let f : Found p x m s = finds m s is.pc is.next is.lasts in
      let d : Doing = doing x s.task t in
      let there : Spot = record f.there { pc = b.top; clock = f.there.clock + 1 } in
      let now : Spot = record f.there { pc = b.top; clock = m.clock } in
      let jumps : Goes p 1 f.there there [] = goes_jmp p b.top f.there (subst (λ a. Lie p a (jump b.top)) (sym f.at) b.stub) in
      let goes : Goes p (f.steps + 1) m there [] = goes_then p f.steps 1 (f.steps + 1) m f.there there [] [] [] f.goes jumps refl refl in
      let memory : MemoryStands p (doing_of x.rules x.plan.scheme t) false f.there.store f.there.issued s = (lasts_found m.clock m s f (omega arith) is.lasts t (inl found)).memory in
      let few_steps : f.steps ≤ 48 = f.few in
      cut_through fram p place_of x.rules x.plan.scheme n (f.steps + 1) 0 m there s _ well goes
      (boot_leads s.task most t found b 0 (0 + (f.steps + 1)) now (booted s) (omega arith) refl
      (record { fixed = f.fixed; memory = record { cells = memory.cells; constants = memory.constants; ram = tt; readings = record { values = memory.readings.values; counts = memory.readings.counts }; tidy = memory.tidy } })
      (omega (arith, few_steps)) (common_none p place_of x.rules x.plan.scheme s.task n m now s refl (known_first n m s is)))
      (λ few.
      let sum : f.steps + 1 + (n - (f.steps + 1)) ≡ n = omega (arith, few) in
      boot_leads s.task most t found b (n - (f.steps + 1)) (0 + (f.steps + 1)) there (booted s) (omega (arith, soon)) refl
      (record { fixed = f.fixed; memory = record { cells = memory.cells; constants = memory.constants; ram = tt; readings = record { values = memory.readings.values; counts = memory.readings.counts }; tidy = memory.tidy } })
      (omega (arith, few_steps)) (common_on p place_of x.rules x.plan.scheme s.task (f.steps + 1) (n - (f.steps + 1)) n m there s goes sum (known_first n m s is)))

  -- each boot follows the plan's
  pub boots_follow : BootsRun p place_of x
  unfolding boot_run
  boots_follow n zero m s soon is = absurd (omega (arith, soon))
  boots_follow n (suc most) m s soon is = at_boot n most m s soon is (task_of x.rules.core s.task) refl (boots.boots s.task is.next)

  -- and one that finds no task halts
  pub none_halts : (m : Spot) (s : State) → m.pc ≡ 0 → Lasts p x.rules x.plan.scheme (live m) s → s.task ≡ 0 → (exec p 64 (live m)).ending ≡ Halted
  none_halts m s pc lasts none =
      let f : Found p x m s = finds m s pc (omega (arith, none)) lasts in
      let few : f.steps ≤ 48 = f.few in
      let sum : f.steps + suc (63 - f.steps) ≡ 64 = omega (arith, few) in
      ap (λ j. (exec p j (live m)).ending) (sym sum) ∙ ap (λ (e : machine.State). e.ending) (exec_more p f.steps (suc (63 - f.steps)) (live m)) ∙ ap (λ (e : machine.State). (exec p (suc (63 - f.steps)) e).ending) f.goes.runs
      ∙ halts p (63 - f.steps) f.there (halt_found m s f none)

  -- the code runs the plan
  pub plan_runs : StopsSoon p → RunsPlan p place_of x
  plan_runs stops = record { boots = boots_follow; none = none_halts; stops = stops }
