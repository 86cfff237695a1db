-- A machine in whose program the code of a plan lies tells a seal in time behind whatever must be sealed, boot by boot.
use Rattle.std.specs.Prelude.{map, slice_get, slice_index_or, Some}
use Rattle.std.specs.List.{AllByRecursion, range_with_len}
use Rattle.std.proofs.Common.{◌≡◌, ◌∙◌, ℕ, zero, suc, ◌+◌, ◌<◌, ◌≤◌, true, false, List, [], ◌∷◌, ◌++◌, length, refl, sym, ap, subst, arith}
use Rattle.devices.specs.Journal.{Boot, Place}
use Rattle.devices.specs.declared.world.PowerRow.{PowerRow}
use Rattle.fram_ram.specs.Memories.{failed}
use Rattle.line_code.specs.Sizes.{expr_size}
use Rattle.task_ast.specs.declared.core_form.Core.{Core}
use Rattle.task_ast.specs.declared.core_form.CoreExit.{CoreExit, end_of-CoreExit, more_of-CoreExit}
use Rattle.task_ast.specs.declared.core_form.CoreExit.TheVariants as exit
use Rattle.task_ast.specs.declared.core_form.CoreStmt.{CoreStmt}
use Rattle.task_ast.specs.declared.core_form.CoreTask.{CoreTask}
use Rattle.task_ast.specs.WellFormed.{IsCoreExit, IsCoreTask, IsWellFormed, Scope, scope_of}
use Rattle.task_attempts.specs.Boots.{expect}
use Rattle.task_attempts.specs.Journals.{all_events, cuts_of, events_of, looks_of}
use Rattle.task_attempts.specs.Sound.{AllSealed, ends_from}
use Rattle.task_attempts.specs.State.{Rules}
use Rattle.word_isa.specs.declared.parts.Scheme.{Scheme}
use Rattle.word_isa.specs.declared.parts.Scheme.TheVariants.{Undo, Bank}
use Rattle.word_machine.specs.Runs.{boots, fail_behind, fail_behind_at, is_running, journal, total_steps}
use Rattle.word_machine.specs.State.{Program, State, all_registers}
use Rattle.word_machine.specs.Step.{exec, fail, fail_at}
use Rattle.word_machine.specs.Straight.{Spot, live}
use Rattle.word_machine.specs.declared.ending.Ending.{Ending}
use Rattle.word_machine.specs.declared.ending.Ending.TheVariants.{Running, Halted, Trapped}
use Rattle.run_plan.specs.declared.act.Act.{Act}
use Rattle.run_plan.specs.declared.act.Act.TheVariants as act
use Rattle.run_plan.specs.PlanOf.{Around, around, body_acts, exit_act, most_regions, plan_of, restore_acts, save_acts, statement_acts, task_acts, tasks_acts}
use Rattle.run_plan.specs.Rows.{act_row_of}
use Rattle.word_code.specs.ActCode.{entry}
use Rattle.word_code.specs.ActLaws.{entry_of_acts}
use Rattle.word_code.specs.Acts.{count_of}
use Rattle.word_code.specs.CodeOf.{frame_at}
use Rattle.word_code.specs.Finding.{found, statement_at}
use Rattle.word_code.specs.Fitting.{IsShortSite}
use Rattle.word_code.specs.Frames.{Frame, halt_at, stub_at}
use Rattle.word_code.specs.Heads.{boot_at}
use Rattle.word_code.specs.Sizes.{acts_size, row_size}
use Rattle.word_code.proofs.FitLaws.{plan_fits}
use Rattle.word_code.proofs.ShortLaws.{body_found_short}
use Rattle.code_places.specs.Placed.{ActLies, ActsLie, IsPlaced, TaskLies}
use Rattle.code_places.proofs.ActGoods.{call_few}
use Rattle.seal_steps.specs.Soon.{AllFollow, AreSealedNext}
use Rattle.seal_steps.proofs.Acts.{Fixed, begin_flows, jump_fixed, lock_flows, save_flows, test_flows}
use Rattle.seal_steps.proofs.Flow.{Behind, HasFixed, behind_jump, is_on}
use Rattle.seal_steps.proofs.Journals.{BootsFollow, boots_sealed}
use Rattle.seal_steps.proofs.LogSeals.{expected_sealed}
use Rattle.seal_steps.proofs.Statements.{CopiesFlow, ListFlows, Split, and_then, lists_lie, none_flow, one_more, split, statement_flow}
use Rattle.seal_steps.proofs.Tasks.{Any, commit_flows, halt_flows, head_flows, restores_flow}

-- ---- lists

some_of : {A : Type 0} (x y : A) → Some x ≡ Some y → x ≡ y
some_of x y is = cc is

pub all_at : {A : Type 0} (P : A → Type 0) (xs : List A) (n : ℕ) (x : A) → AllByRecursion P xs → slice_get xs n ≡ Some x → P x
all_at P [] n x all there = absurd (cc there)
all_at P (y ∷ xs) zero x all there = subst P (some_of y x there) all.0
all_at P (y ∷ xs) (suc n) x all there = all_at P xs n x all.1 there

record Some_at {A : Type 0} (xs : List A) (n : ℕ) : Type 0 where
  item : A
  there : slice_get xs n ≡ Some item

some_at : {A : Type 0} (xs : List A) (n : ℕ) → n < length xs → Some_at xs n
some_at [] n few = absurd (omega (arith, few))
some_at (x ∷ xs) zero few = record { item = x; there = refl }
some_at (x ∷ xs) (suc n) few = let h = some_at xs n (omega (arith, few)) in record { item = h.item; there = h.there }

tasks_at : (scheme : Scheme) (k : ℕ) (tasks : List CoreTask) (n : ℕ) (t : CoreTask) → slice_get tasks n ≡ Some t → slice_index_or (tasks_acts scheme k tasks) n [] ≡ task_acts scheme (k + n) t
tasks_at scheme k [] n t there = absurd (cc there)
tasks_at scheme k (y ∷ tasks) zero t there = let same : k ≡ k + 0 = omega arith in (λ i. task_acts scheme (same i) (some_of y t there i))
tasks_at scheme k (y ∷ tasks) (suc n) t there = let same : k + 1 + n ≡ k + suc n = omega arith in tasks_at scheme (k + 1) tasks n t there ∙ ap (λ j. task_acts scheme j t) same

-- ---- a task

module _ (c : Core) (place_of : ℕ → Place) (p : Program) (f : Frame) (few : (k : ℕ) → count_of (statement_at f k) ≤ 4) (n : ℕ) where
  -- its exit goes to the stub of a task
  exit_ends : (s : Scope) (tasks level : ℕ) → ((t : ℕ) → t ≤ tasks → Fixed c place_of p n (stub_at (length f.core.tasks) t)) → (e : CoreExit) → IsCoreExit s tasks level e → (at next : ℕ) → ActLies p f false (exit_act e) at next → Fixed c place_of p n at
  exit_ends s tasks level stubs (exit.Next t) formed at next lies = commit_flows c place_of p f t at n lies (stubs t formed.1)
  exit_ends s tasks level stubs exit.Stop formed at next lies = commit_flows c place_of p f 0 at n lies (stubs 0 (omega arith))
  exit_ends s tasks level stubs (exit.Choose' e u (more_of-CoreExit a end_of-CoreExit) v (more_of-CoreExit b end_of-CoreExit)) formed at next lies =
      let yes_at : ℕ = at + expr_size e + 4 in
      let no_at : ℕ = yes_at + row_size f (act_row_of (exit_act a ∷ [])).1 in
      let yes_lies : ActsLie p f false (exit_act a ∷ []) yes_at next = lists_lie p f false yes_at next (exit_act a ∷ []) lies.1 in
      let no_lies : ActsLie p f false (exit_act b ∷ []) no_at next = lists_lie p f false no_at next (exit_act b ∷ []) lies.2 in
      test_flows c place_of p f e at (entry (act_row_of (exit_act a ∷ [])).1 yes_at next) (entry (act_row_of (exit_act b ∷ [])).1 no_at next) _ lies.0 n
      (subst (λ x. Fixed c place_of p n x) (sym (entry_of_acts yes_at next (exit_act a ∷ []))) (exit_ends s tasks (1 + level) stubs a formed.2 yes_at next yes_lies.0))
      (subst (λ x. Fixed c place_of p n x) (sym (entry_of_acts no_at next (exit_act b ∷ []))) (exit_ends s tasks (1 + level) stubs b formed.3 no_at next no_lies.0))

  save_list : (scheme : Scheme) (r : ℕ) → ListFlows c place_of p f few n false (save_acts scheme r)
  save_list Undo r =
      one_more c place_of p f few n false (act.Save r) (act.Lock r ∷ []) (λ at next lies behind. save_flows c place_of p f r at next lies n behind)
      (one_more c place_of p f few n false (act.Lock r) [] (λ at next lies behind. lock_flows c place_of p f r at next lies n behind) (none_flow c place_of p f few n false))
  save_list Bank r = none_flow c place_of p f few n false

  body_flow : (a : Around) (body : List CoreStmt) → AllByRecursion (CopiesFlow c place_of p f few n a) body → ListFlows c place_of p f few n false (body_acts a body)
  body_flow a [] copies = none_flow c place_of p f few n false
  body_flow a (s ∷ rest) copies = and_then c place_of p f few n false (statement_acts a s) (body_acts a rest) (statement_flow c place_of p f few n a s copies.0) (body_flow a rest copies.1)

  task_ends : (scheme : Scheme) (number : ℕ) (t : CoreTask) (s : Scope) (tasks level : ℕ) → ((t : ℕ) → t ≤ tasks → Fixed c place_of p n (stub_at (length f.core.tasks) t)) → IsCoreExit s tasks level t.exit
      → AllByRecursion (CopiesFlow c place_of p f few n (around scheme t)) t.body → (at next : ℕ) → ActsLie p f false (task_acts scheme number t) at next → Fixed c place_of p n at
  task_ends scheme number t s tasks level stubs formed copies at next lies =
      let front : List Act = act.Begin number ∷ (save_acts scheme 0 ++ body_acts (around scheme t) t.body) in
      let behind_at : ℕ = at + acts_size f front in
      let h : Split p f false front (exit_act t.exit ∷ []) at next = split p f false front (exit_act t.exit ∷ []) at next lies in
      let ended : Fixed c place_of p n behind_at = exit_ends s tasks level stubs t.exit formed behind_at next h.second.0 in
      one_more c place_of p f few n false (act.Begin number) (save_acts scheme 0 ++ body_acts (around scheme t) t.body) (λ at next lies behind. begin_flows c place_of p f number at next lies n behind)
      (and_then c place_of p f few n false (save_acts scheme 0) (body_acts (around scheme t) t.body) (save_list scheme 0) (body_flow (around scheme t) t.body copies)) at behind_at h.first ended

-- ---- all tasks

module _ (c : Core) (scheme : Scheme) (w : IsWellFormed c) (place_of : ℕ → Place) (p : Program) (placed : IsPlaced p (plan_of c scheme) c) where
  abbrev pub frame : (m : ℕ) → CoreTask → Frame
  frame m t = frame_at (plan_of c scheme) c m t

  abbrev count : ℕ
  count = length c.tasks

  task_of : (m : ℕ) (t : CoreTask) → slice_get c.tasks m ≡ Some t → IsCoreTask c t
  task_of m t there = all_at (IsCoreTask c) c.tasks m t w.tasks there

  pub few_args : (m : ℕ) (t : CoreTask) → slice_get c.tasks m ≡ Some t → (k : ℕ) → count_of (statement_at (frame m t) k) ≤ 4
  few_args m t there k =
      let short : IsShortSite (found k t.body) = body_found_short (scope_of c t) (plan_fits c scheme w).pointers 1 false [] k t.body (task_of m t there).body in
      call_few (found k t.body) short

  -- each copy's acts lead to what comes behind them
  abbrev pub CopiesLead : ℕ → Type 0
  CopiesLead n = (m : ℕ) (t : CoreTask) (there : slice_get c.tasks m ≡ Some t) → AllByRecursion (CopiesFlow c place_of p (frame m t) (few_args m t there) n (around scheme t)) t.body

  module _ (copies : (n : ℕ) → CopiesLead n) where
    none_yet : (at : ℕ) → Fixed c place_of p 0 at
    unfolding AllFollow
    none_yet at zero m few pc fixed = tt
    none_yet at (suc j) m few pc fixed = absurd (omega (arith, few))

    -- a task's attempt
    attempt_ends : (n m : ℕ) (t : CoreTask) (there : slice_get c.tasks m ≡ Some t) → ((k : ℕ) → k ≤ count → Fixed c place_of p n (stub_at count k)) → (h : TaskLies p (plan_of c scheme) c m t)
        → Fixed c place_of p n (h.top + acts_size (frame m t) (restore_acts scheme (most_regions c.tasks)))
    attempt_ends n m t there stubs h =
        task_ends c place_of p (frame m t) (few_args m t there) n scheme (1 + m) t (scope_of c t) count 1 stubs (task_of m t there).exit (copies n m t there) _ 0
        (subst (λ acts. ActsLie p (frame m t) false acts (h.top + acts_size (frame m t) (restore_acts scheme (most_regions c.tasks))) 0) (tasks_at scheme 1 c.tasks m t there) h.acts)

    stubs_flow : (n k : ℕ) → k ≤ count → Fixed c place_of p n (stub_at count k)
    stubs_flow zero k few = none_yet (stub_at count k)
    stubs_flow (suc n) zero few = halt_flows c place_of p (suc n) (halt_at count) placed.halt
    stubs_flow (suc n) (suc m) few =
        let found = some_at c.tasks m few in
        let h : TaskLies p (plan_of c scheme) c m found.item = placed.tasks m found.item found.there in
        let same : m + 1 ≡ suc m = omega arith in
        let top : Fixed c place_of p n (h.top + acts_size (frame m found.item) (restore_acts scheme (most_regions c.tasks))) = attempt_ends n m found.item found.there (stubs_flow n) h in
        subst (λ k. Fixed c place_of p (suc n) (stub_at count k)) same
        (behind_jump c place_of p HasFixed n (stub_at count (m + 1)) (h.top + acts_size (frame m found.item) (restore_acts scheme (most_regions c.tasks))) (λ x fixed. fixed) h.stub.0.instr top)

    restored : (f : Frame) (x : Scheme) (k top n : ℕ) → ActsLie p f false (restore_acts x k) top (top + acts_size f (restore_acts x k)) → Fixed c place_of p n (top + acts_size f (restore_acts x k)) → Fixed c place_of p n top
    restored f Undo k top n lies behind = restores_flow c place_of p f (range_with_len 0 k) top _ n refl lies behind
    restored f Bank k top n lies behind = restores_flow c place_of p f [] top _ n refl lies behind

    boots_flow : (n k : ℕ) → k ≤ count → Fixed c place_of p n (boot_at count k)
    boots_flow n zero few = let same : halt_at count ≡ boot_at count 0 = omega arith in subst (λ x. Fixed c place_of p n x) same (halt_flows c place_of p n (halt_at count) placed.halt)
    boots_flow n (suc m) few =
        let found = some_at c.tasks m few in
        let h : TaskLies p (plan_of c scheme) c m found.item = placed.tasks m found.item found.there in
        let same : m + 1 ≡ suc m = omega arith in
        let top : Fixed c place_of p n h.top = restored (frame m found.item) scheme (most_regions c.tasks) h.top n h.boot (attempt_ends n m found.item found.there (stubs_flow n) h) in
        subst (λ k. Fixed c place_of p n (boot_at count k)) same (jump_fixed c place_of p n (boot_at count (m + 1)) h.top h.boot_stub.0.instr top)

    pub boot_follows : (n : ℕ) → Behind c place_of p (Any c place_of p) n 0
    boot_follows n = head_flows c place_of p _ count n placed.head (boots_flow n)

    -- ---- boot by boot

    -- where a machine that goes on begins again
    abbrev again : PowerRow → State → Spot
    again row e = record { pc = 0; regs = all_registers row.fill; store = failed e.store row.fill; clock = e.clock + row.off; issued = e.issued }

    running_of : (k : Ending) → is_running k ≡ true → k ≡ Running
    running_of Running on = refl
    running_of Halted on = absurd (cc on)
    running_of (Trapped code) on = absurd (cc on)

    begins_again : (row : PowerRow) (e : State) → is_on e ≡ true → fail_behind row e ≡ live (again row e)
    unfolding fail
    begins_again row e on =
        let is : e.ending ≡ Running = running_of e.ending on in
        ap (λ k. fail_behind_at k row e) is
        ∙ ap (λ k. record (fail_at k row.fill e) { clock = e.clock + row.off }) is
        ∙ ap (λ k. record (live (again row e)) { ending = k }) is

    pub all_follow : (rows : List PowerRow) (m : Spot) → m.pc ≡ 0 → BootsFollow c place_of p rows (live m)
    all_follow [] m pc = tt
    all_follow (row ∷ rows) m pc =
        (boot_follows row.on row.on m (omega arith) pc tt, λ on. subst (BootsFollow c place_of p rows) (sym (begins_again row (exec p row.on (live m)) on)) (all_follow rows (again row (exec p row.on (live m))) refl))

    -- ---- its journal

    events_sealed : (bs : List Boot) → AllByRecursion (AreSealedNext c) (map events_of bs) → AllByRecursion (λ (b : Boot). AreSealedNext c (events_of b)) bs
    events_sealed [] all = tt
    events_sealed (b ∷ bs) all = (all.0, events_sealed bs all.1)

    pub journal_sealed : (rules : Rules) → rules.core ≡ c → (rows : List PowerRow) (m : Spot) → m.pc ≡ 0 → all_events (journal place_of p rows (live m)) ≡ expect rules (cuts_of (journal place_of p rows (live m))) (looks_of (journal place_of p rows (live m)))
        → AllSealed c (journal place_of p rows (live m)).boots (ends_from (journal place_of p rows (live m)).boots (journal place_of p rows (live m)).steps)
    journal_sealed rules same rows m pc legal =
        let told = expected_sealed rules (cuts_of (journal place_of p rows (live m))) (looks_of (journal place_of p rows (live m))) in
        let all : AllByRecursion (AreSealedNext c) (all_events (journal place_of p rows (live m))) = subst (AllByRecursion (AreSealedNext c)) (sym legal) (subst (λ x. AllByRecursion (AreSealedNext x) (expect rules (cuts_of (journal place_of p rows (live m))) (looks_of (journal place_of p rows (live m))))) same told) in
        boots_sealed c place_of p rows 0 (total_steps p rows (live m)) (live m) (omega arith) (all_follow rows m pc) (events_sealed (boots place_of p rows 0 (live m)) all)
