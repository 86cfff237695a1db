-- An attempt whose followed records agree does what the unbroken run does with its readings, up to its commit and behind it.
use Rattle.std.proofs.Common.{◌≡◌, ◌≢◌, ℕ, zero, suc, ◌+◌, Bool, true, false, List, [], ◌∷◌, ◌++◌, length, take, Option, Some, None, Result, Ok, Err, refl, sym, ap, subst, ◌∙◌, append_assoc, append-nil, leb, leb-true, if◌then◌else◌}
use Rattle.std.specs.Prelude.{⊤, slice_get}
use Rattle.task_ast.specs.declared.core_form.CoreExpr.{CoreExpr, end_of-CoreExpr, more_of-CoreExpr}
use Rattle.task_ast.specs.declared.core_form.CoreTarget.{CoreTarget}
use Rattle.task_ast.specs.declared.core_form.CoreEnd.{CoreEnd}
use Rattle.task_ast.specs.declared.core_form.CoreStmt.{CoreStmt, Row_of-CoreStmt, end_of-CoreStmt, more_of-CoreStmt}
use Rattle.task_ast.specs.declared.core_form.CoreStmt.TheVariants as stmt
use Rattle.task_ast.specs.declared.core_form.CoreExit.{CoreExit, end_of-CoreExit, more_of-CoreExit}
use Rattle.task_ast.specs.declared.core_form.CoreExit.TheVariants as exit
use Rattle.task_ast.specs.declared.core_form.CoreTask.{CoreTask}
use Rattle.io_annot.specs.declared.choice.Mode.{Mode}
use Rattle.io_annot.specs.declared.choice.Mode.TheVariants as mode
use Rattle.io_annot.specs.declared.choice.Choice.{Choice}
use Rattle.io_annot.specs.declared.choice.Choice.TheVariants.{Keep, Issue}
use Rattle.io_annot.specs.Choice.{choice}
use Rattle.block_scope.specs.Enter.{entered}
use Rattle.io_depend.specs.Depend.{dependents}
use Rattle.region_split.specs.declared.class.Memory.{Memory}
use Rattle.region_split.specs.declared.class.DmaClass.{DmaClass}
use Rattle.region_split.specs.declared.class.DmaClass.TheVariants as class
use Rattle.region_split.specs.Class.{class_of}
use Rattle.region_split.specs.Regions.{region_of}
use Rattle.walk_run.specs.declared.trap.Trap.{Trap}
use Rattle.walk_run.specs.declared.trap.Trap.TheVariants as cause
use Rattle.walk_run.specs.declared.place.Place.{Place}
use Rattle.walk_run.specs.declared.walked.Walked.{Walked}
use Rattle.walk_run.specs.declared.walked.WalkEnd.TheVariants.{Trapped}
use Rattle.task_ast.specs.declared.core_form.Core.{Core}
use Rattle.walk_run.specs.Store.{Store, words_of, put_word}
use Rattle.walk_run.specs.Value.{value_of, target_place, end_place, with_room}
use Rattle.walk_run.specs.Plain.{Ran, done, trapped, chosen, plain_done}
use Rattle.walk_run.specs.PlainSteps.{expr_steps, target_steps, end_steps, condition_steps, plain_steps}
use Rattle.walk_run.specs.Walk as walk
use Rattle.walk_run.specs.Walk.{ends, Onward, move_words, on_found, value_walk, branch_walk, each_valued, with_reading, call_walk, end_walk, room_walk, copy_walk, statement_walk, row_walk, body_walk, exit_walk, ends_early, walk_from}
use Rattle.devices.specs.Reading.{reading_in}
use Rattle.devices.specs.Journal.{JournalEvent, begins, looks, keeps, drops, issues, seals, copies, commits, traps, keep}
use Rattle.task_attempts.specs.State.{Rules, Setting, Valued, range, Record, of_reading, of_block, of_copy, Here, Followed, Log, Rest, Standing, Logged}
use Rattle.task_attempts.specs.Changes.{with_store, with_mode, spent, spent_by, with_record, with_looks, with_issue, with_region}
use Rattle.task_attempts.specs.Costs.{call_steps, copy_steps, block_steps, moving_steps}
use Rattle.task_attempts.specs.Told.{logged, trap, unless_trap, drop_one, drop_all, seal, look}
use Rattle.task_attempts.specs.Values.{value, values, put_into, branch, from_ran, plain_log}
use Rattle.task_attempts.specs.Calls.{annotation, number_of, issue, issue_anew, kept_in, issued_with, by_choice, by_record, call_log, site_at}
use Rattle.task_attempts.specs.Blocks.{stamp_in, block_sealed, block_end, block_log}
use Rattle.task_attempts.specs.Copies.{words_at, put_words, shown, class_at, memory_at, memory_or_ram, copy_valued, copy_by_class, copy_again, again, copy_by_record, copy_log}
use Rattle.task_attempts.specs.Attempts.{statement_log, row_log, body_log, exit_log}
use Rattle.task_attempts.specs.Along.{IsInner, setting_of}
use Rattle.task_attempts.specs.Boots.{events_in}
use Rattle.task_attempts.specs.Journals.{if_reading, reading_at, Running, run_on, given, retained_in}
use Rattle.task_attempts.specs.Laws.{AllStay}
use Rattle.task_attempts.specs.Sound.{RecordsAgree}
use Rattle.attempt_laws.specs.Records.{Fits}
use Rattle.attempt_laws.proofs.Ways.{IsSome, Way, committing, trapping, IsOf, reads, more_of, tasks_behind, end_of, of_behind, none_of, reads_event, same_trap}
use Rattle.attempt_laws.specs.Runs.{counted, commits_in, course_at, course, IsCallAt, IsNoCallAt, Tells, RowTells, AllTell}
use Rattle.attempt_laws.proofs.MoveLaws.{put_back, put_source}
use Rattle.attempt_laws.proofs.RecordLaws.{put_of, private_memories}

-- a trap is no commit
none_committed : (why : Trap) (here : Here) (n : ℕ) → IsSome (commits_in (take n (trap why here))) → ⊥
none_committed why here zero some = some
none_committed why here (suc zero) some = some
none_committed why here (suc (suc n)) some = some

-- what a trap leaves to read, and how it ends
trap_reads : (way : Way) (c : Core) (r : Running) (why : Trap) (here : Here) (n : ℕ) → IsOf way (take n (trap why here)) → reads way c r (events_in (take n (trap why here))) ≡ r.held
trap_reads (committing m more) c r why here n is = absurd (none_committed why here n is)
trap_reads (trapping as_why) c r why here zero is = absurd is
trap_reads (trapping as_why) c r why here (suc zero) is = refl
trap_reads (trapping as_why) c r why here (suc (suc n)) is = refl

trap_ends : (way : Way) (c : Core) (why : Trap) (here : Here) (n next : ℕ) (base : Store) → IsOf way (take n (trap why here)) → ends (Trapped why) ≡ course c (end_of way c) next base (take n (trap why here))
trap_ends (committing m more) c why here n next base is = absurd (none_committed why here n is)
trap_ends (trapping as_why) c why here zero next base is = absurd is
trap_ends (trapping as_why) c why here (suc zero) next base is = ap (λ w. ends (Trapped w)) (same_trap why as_why is)
trap_ends (trapping as_why) c why here (suc (suc n)) next base is = ap (λ w. ends (Trapped w)) (same_trap why as_why is)

module _ (rules : Rules) (t : CoreTask) (way : Way) where
  -- an attempt that runs, with these readings so far
  abbrev pub running : (held : List ℕ) → Running
  running held = record { sites = t.sites; held = held }

  -- What is taken of a log, from inside an attempt up to behind its commit: some readings are retained behind those held
  -- here; and with them the run from this store, with as many tasks behind the first as there are commits behind the
  -- first, shows what the log shows, and goes on from there.
  pub record Walks (next : ℕ) (base store : Store) (log : Log) (on : ℕ → Onward Walked) : Type 0 where
    pub rest : List ℕ
    pub is : (held : List ℕ) → reads way rules.core (running held) (events_in log) ≡ held ++ rest
    pub walks : on (tasks_behind way (commits_in log)) store (rest ++ more_of way) ≡ course rules.core (end_of way rules.core) next base log

  -- so it is wherever a log is cut behind a commit, if its records agree
  pub record Runs (next : ℕ) (base store : Store) (log : Log) (on : ℕ → Onward Walked) : Type 0 where
    pub comes : RecordsAgree log → AllStay base next log → (n : ℕ) → IsOf way (take n log) → Walks next base store (take n log) on

  abbrev pub Does : Rest → (ℕ → Onward Walked) → Type 0
  Does go on = (here : Here) → Runs here.standing.next here.standing.committed here.store (go here) on

  trap_runs : (why : Trap) (here : Here) (next : ℕ) (base store : Store) (on : ℕ → Onward Walked) → ((k : ℕ) (rs : List ℕ) → on k store rs ≡ ends (Trapped why)) → Runs next base store (trap why here) on
  trap_runs why here next base store on halts = record {
    comes = λ agree stay n some. record {
      rest = [];
      is = λ held. trap_reads way rules.core (running held) why here n some ∙ sym (append-nil held);
      walks = halts (tasks_behind way (commits_in (take n (trap why here)))) (more_of way) ∙ trap_ends way rules.core why here n next base some;
    };
  }

  -- ---- an event inside an attempt

  record Passes (e : JournalEvent) : Type 0 where
    pub inner : IsInner e
    pub counts : (n : ℕ) → counted e n ≡ n
    pub shows : (s : Standing) (w : Walked) → course_at rules.core e s w ≡ w

  inner_passes : (e : JournalEvent) → IsInner e → Passes e
  inner_passes (begins task) inner = absurd inner
  inner_passes (commits next) inner = absurd inner
  inner_passes (traps code) inner = absurd inner
  inner_passes (looks site time) inner = record { inner = tt; counts = λ n. refl; shows = λ s w. refl }
  inner_passes (keeps site v) inner = record { inner = tt; counts = λ n. refl; shows = λ s w. refl }
  inner_passes (drops site) inner = record { inner = tt; counts = λ n. refl; shows = λ s w. refl }
  inner_passes (issues site p args v) inner = record { inner = tt; counts = λ n. refl; shows = λ s w. refl }
  inner_passes (seals site) inner = record { inner = tt; counts = λ n. refl; shows = λ s w. refl }
  inner_passes (copies site from to n) inner = record { inner = tt; counts = λ n. refl; shows = λ s w. refl }

  event_walks : (e : JournalEvent) → Passes e → (f : Option Followed) (here : Here) (store after : Store) (log : Log) (vs : List ℕ) (on on' : ℕ → Onward Walked) (n : ℕ) → reading_at t.sites e ≡ vs
      → ((k : ℕ) (rest more : List ℕ) → on' k store ((vs ++ rest) ++ more) ≡ on k after (rest ++ more))
      → (IsOf way (take n log) → Walks here.standing.next here.standing.committed after (take n log) on)
      → IsOf way (take (suc n) (logged e f here ∷ log)) → Walks here.standing.next here.standing.committed store (take (suc n) (logged e f here ∷ log)) on'
  event_walks e passes f here store after log vs on on' n is_read same behind some = by_rest (behind (of_behind way (logged e f here) (take n log) passes.inner passes.counts some))
    where
      by_rest : Walks here.standing.next here.standing.committed after (take n log) on → Walks here.standing.next here.standing.committed store (logged e f here ∷ take n log) on'
      by_rest w = record {
        rest = vs ++ w.rest;
        is = λ held.
            reads_event way rules.core (running held) e (events_in (take n log)) passes.inner
            ∙ ap (λ v. reads way rules.core (running (held ++ v)) (events_in (take n log))) is_read
            ∙ w.is (held ++ vs) ∙ append_assoc held vs w.rest;
        walks =
            ap (λ k. on' (tasks_behind way k) store ((vs ++ w.rest) ++ more_of way)) (passes.counts (commits_in (take n log)))
            ∙ same (tasks_behind way (commits_in (take n log))) w.rest (more_of way)
            ∙ w.walks
            ∙ sym (passes.shows here.standing (course rules.core (end_of way rules.core) here.standing.next here.standing.committed (take n log)));
      }

  event_at : (e : JournalEvent) → Passes e → (f : Option Followed) (here : Here) (store after : Store) (log : Log) (vs : List ℕ) (on on' : ℕ → Onward Walked) → reading_at t.sites e ≡ vs
      → ((k : ℕ) (rest more : List ℕ) → on' k store ((vs ++ rest) ++ more) ≡ on k after (rest ++ more))
      → ((n : ℕ) → IsOf way (take n log) → Walks here.standing.next here.standing.committed after (take n log) on)
      → (n : ℕ) → IsOf way (take n (logged e f here ∷ log)) → Walks here.standing.next here.standing.committed store (take n (logged e f here ∷ log)) on'
  event_at e passes f here store after log vs on on' is_read same behind zero some = absurd (none_of way some)
  event_at e passes f here store after log vs on on' is_read same behind (suc n) some = event_walks e passes f here store after log vs on on' n is_read same (behind n) some

  event_does : (e : JournalEvent) → IsInner e → (f : Option Followed) (here : Here) (store after : Store) (log : Log) (vs : List ℕ) (on on' : ℕ → Onward Walked) → reading_at t.sites e ≡ vs
      → ((k : ℕ) (rest more : List ℕ) → on' k store ((vs ++ rest) ++ more) ≡ on k after (rest ++ more))
      → Runs here.standing.next here.standing.committed after log on → Runs here.standing.next here.standing.committed store (logged e f here ∷ log) on'
  event_does e inner f here store after log vs on on' is_read same runs = record {
    comes = λ agree stay n some. event_at e (inner_passes e inner) f here store after log vs on on' is_read same (runs.comes agree.1 stay.1) n some;
  }

  -- an event without a reading, and with the store as it is
  silent_does : (e : JournalEvent) → IsInner e → reading_at t.sites e ≡ [] → (here : Here) (log : Log) (on : ℕ → Onward Walked) → Runs here.standing.next here.standing.committed here.store log on
      → Runs here.standing.next here.standing.committed here.store (logged e None here ∷ log) on
  silent_does e inner is_read here log on runs = event_does e inner None here here.store here.store log [] on on is_read (λ k rest more. refl) runs

  -- ---- words of attempts and of the run

  found_does : {A : Type 0} (r : Result A Trap) (go : A → Rest) (on : A → ℕ → Onward Walked) → ((x : A) → Does (go x) (on x)) → Does (unless_trap r go) (λ k. on_found ends_early r (λ x. on x k))
  found_does (Ok x) go on does here = record { comes = λ agree stay n some. let w = (does x here).comes agree stay n some in record { rest = w.rest; is = w.is; walks = w.walks } }
  found_does (Err why) go on does here = trap_runs why here _ _ _ _ (λ k rs. refl)

  -- the same with what was found known
  found_does_in : {A : Type 0} (r : Result A Trap) (go : A → Rest) (on : A → ℕ → Onward Walked) (here : Here) → ((x : A) → r ≡ Ok x → Runs here.standing.next here.standing.committed here.store (go x here) (on x))
      → Runs here.standing.next here.standing.committed here.store (unless_trap r go here) (λ k. on_found ends_early r (λ x. on x k))
  found_does_in (Ok x) go on here does = record { comes = λ agree stay n some. let w = (does x refl).comes agree stay n some in record { rest = w.rest; is = w.is; walks = w.walks } }
  found_does_in (Err why) go on here does = trap_runs why here _ _ _ _ (λ k rs. refl)

  -- the same run, told in another way
  run_as : (next : ℕ) (base store : Store) (log : Log) (on on' : ℕ → Onward Walked) → ((k : ℕ) (rs : List ℕ) → on' k store rs ≡ on k store rs) → Runs next base store log on → Runs next base store log on'
  run_as next base store log on on' same runs = record {
    comes = λ agree stay n some. let w = runs.comes agree stay n some in record { rest = w.rest; is = w.is; walks = same (tasks_behind way (commits_in (take n log))) (w.rest ++ more_of way) ∙ w.walks };
  }

  drop_does : (k : ℕ) (go : Rest) (on : ℕ → Onward Walked) → Does go on → Does (drop_one k go) on
  drop_does k go on does here = silent_does (drops k) tt refl (with_record k None here) (go (with_record k None here)) on (does (with_record k None here))

  drops_do : (ks : List ℕ) (go : Rest) (on : ℕ → Onward Walked) → Does go on → Does (drop_all ks go) on
  drops_do [] go on does = does
  drops_do (k ∷ ks) go on does = drop_does k (drop_all ks go) on (drops_do ks go on does)

  seal_does : (k : ℕ) (r : Record) (go : Rest) (on : ℕ → Onward Walked) → Does go on → Does (seal k r go) on
  seal_does k r go on does here = silent_does (seals k) tt refl (with_record k (Some r) here) (go (with_record k (Some r) here)) on (does (with_record k (Some r) here))

  look_does : (k : ℕ) (go : ℕ → Rest) (on : ℕ → Onward Walked) → ((time : ℕ) → Does (go time) on) → Does (look k go) on
  look_does k go on does here = silent_does (looks k _) tt refl (with_looks _ here) _ on (does _ (with_looks _ here))

  value_does : (e : CoreExpr) (go : ℕ → Rest) (on : ℕ → ℕ → Onward Walked) → ((w : ℕ) → Does (go w) (on w)) → Does (value e go) (λ k. value_walk ends_early e (λ w. on w k))
  value_does e go on does here = run_as _ _ _ _ _ _ (λ k rs. refl) (found_does (value_of e here.store) go on does (spent (expr_steps e) here))

  values_do : (es : List CoreExpr) (go : List ℕ → Rest) (on : ℕ → Onward Walked) → ((ws : List ℕ) → Does (go ws) on) → Does (values es go) (λ k. each_valued ends_early es (on k))
  values_do [] go on does = does []
  values_do (e ∷ es) go on does = value_does e (λ w. values es (λ ws. go (w ∷ ws))) (λ w k. each_valued ends_early es (on k)) (λ w. values_do es (λ ws. go (w ∷ ws)) on (λ ws. does (w ∷ ws)))

  chosen_does : (word : ℕ) (a b : Rest) (f g : ℕ → Onward Walked) → Does a f → Does b g → Does (chosen word a b) (λ k. chosen word (f k) (g k))
  chosen_does zero a b f g yes_does no_does = no_does
  chosen_does (suc n) a b f g yes_does no_does = yes_does

  branch_does : (c : CoreExpr) (a b : Rest) (f g : ℕ → Onward Walked) → Does a f → Does b g → Does (branch c a b) (λ k. branch_walk ends_early c (f k) (g k))
  branch_does c a b f g yes_does no_does here =
      run_as _ _ _ _ _ _ (λ k rs. refl) (found_does (value_of c here.store) (λ word. chosen word a b) (λ word k. chosen word (f k) (g k)) (λ word. chosen_does word a b f g yes_does no_does) (spent (condition_steps c) here))

  ran_does : (r : Ran) (go : Rest) (on : ℕ → Onward Walked) → Does go on → (here : Here) → Runs here.standing.next here.standing.committed here.store (from_ran r go here) (λ k store rs. walk.from_ran ends_early r (on k) rs)
  ran_does (done store) go on does here = record { comes = λ agree stay n some. let w = (does (with_store store here)).comes agree stay n some in record { rest = w.rest; is = w.is; walks = w.walks } }
  ran_does (trapped why store) go on does here = trap_runs why (with_store store here) _ _ _ _ (λ k rs. refl)

  plain_does : (s : CoreStmt) (go : Rest) (on on' : ℕ → Onward Walked) → Does go on → ((k : ℕ) (store : Store) (rs : List ℕ) → on' k store rs ≡ walk.from_ran ends_early (plain_done s store) (on k) rs) → Does (plain_log s go) on'
  plain_does s go on on' does same here = run_as _ _ _ _ _ _ (λ k rs. same k here.store rs) (ran_does (plain_done s here.store) go on does (spent (plain_steps s here.store) here))

  -- ---- calls

  abbrev setting : Setting
  setting = setting_of rules t

  -- a reading goes on from there
  abbrev taking : (ℕ → ℕ → Onward Walked) → ℕ → Onward Walked
  taking on k = with_reading ends_early (λ r. on r k)

  issue_does : (k p : ℕ) (args : List ℕ) → IsCallAt t.sites k → (go : ℕ → Rest) (on : ℕ → ℕ → Onward Walked) → ((r : ℕ) → Does (go r) (on r)) → Does (issue setting k p args go) (taking on)
  issue_does k p args call go on does here =
      let r = reading_in rules.world.feeds p (here.standing.account.issued p + 1) in
      event_does (issues k p args r) tt None (with_issue p here) here.store here.store (go r (with_issue p here)) (r ∷ []) (on r) (taking on) (call r) (λ j rest more. refl) (does r (with_issue p here))

  anew_does : (k p : ℕ) (args : List ℕ) (time : ℕ) → IsCallAt t.sites k → (go : ℕ → Rest) (on : ℕ → ℕ → Onward Walked) → ((r : ℕ) → Does (go r) (on r)) → Does (issue_anew setting k p args time go) (taking on)
  anew_does k p args time call go on does =
      let sealed : ℕ → Rest = λ r. seal k (of_reading r time args) (go r) in
      drop_does k (drop_all (dependents t k) (issue setting k p args sealed)) (taking on)
      (drops_do (dependents t k) (issue setting k p args sealed) (taking on) (issue_does k p args call sealed on (λ r. seal_does k (of_reading r time args) (go r) (on r) (does r))))

  choice_does : (k p : ℕ) (made_with args : List ℕ) (time : ℕ) → IsCallAt t.sites k → (go : ℕ → Rest) (on : ℕ → ℕ → Onward Walked) (x : Choice) → ((r : ℕ) → Does (go r) (on r)) → Does (by_choice setting k p made_with args time go x) (taking on)
  choice_does k p made_with args time call go on (Keep v) does here =
      event_does (keeps k v) tt _ here here.store here.store (go v here) (v ∷ []) (on v) (taking on) (call v) (λ j rest more. refl) (does v here)
  choice_does k p made_with args time call go on Issue does here = anew_does k p args time call go on does here

  -- from the arguments of a call on
  args_do : (k p : ℕ) (args : List CoreExpr) → IsCallAt t.sites k → (go : ℕ → Rest) (on : ℕ → ℕ → Onward Walked) → ((w : ℕ) → Does (go w) (on w))
      → Does (values args (λ words. look k (λ time inside. by_record setting k p words time go (inside.standing.account.records k) inside))) (λ j. each_valued ends_early args (taking on j))
  args_do k p args call go on does =
      values_do args _ (taking on) (λ words. look_does k _ (taking on)
      (λ time inside. choice_does k p (issued_with (inside.standing.account.records k)) words time call go on (choice inside.mode (annotation setting k) (kept_in (inside.standing.account.records k)) time) does inside))

  call_does : (k : ℕ) (onto : Option CoreTarget) (p : ℕ) (args : List CoreExpr) → IsCallAt t.sites k → (go : Rest) (on : ℕ → Onward Walked) → Does go on → Does (call_log setting k onto p args go) (λ j. call_walk ends_early onto args (on j))
  call_does k None p args call go on does here =
      run_as _ _ _ _ _ _ (λ j rs. refl) (args_do k (number_of setting p) args call (λ word. go) (λ r. on) (λ word. does) (spent (call_steps t k) here))
  call_does k (Some tg) p args call go on does here =
      run_as _ _ _ _ _ _ (λ j rs. refl)
      (found_does (target_place tg here.store) _ (λ at j. each_valued ends_early args (taking (λ r j store. on j (put_word at r store)) j))
      (λ at. args_do k (number_of setting p) args call (λ word after. go (put_into (Some at) word after)) (λ r j store. on j (put_word at r store))
      (λ word after. record { comes = λ agree stay n some. let w = (does (with_store (put_word at word after.store) after)).comes agree stay n some in record { rest = w.rest; is = w.is; walks = w.walks } }))
      (spent (target_steps tg) (spent (call_steps t k) here)))

  -- ---- blocks

  sealed_does : (k time : ℕ) (inside : Mode) (go : Rest) (on : ℕ → Onward Walked) → Does go on → Does (block_sealed k time inside go) on
  sealed_does k time mode.Keep go on does = does
  sealed_does k time mode.Own go on does = drop_does k (seal k (of_block time) go) on (seal_does k (of_block time) go on does)
  sealed_does k time mode.Force go on does = drop_does k (seal k (of_block time) go) on (seal_does k (of_block time) go on does)

  block_does : (k : ℕ) (body : Rest → Rest) (on on' : ℕ → Onward Walked) → ((go : Rest) → Does go on → Does (body go) on') → (go : Rest) → Does go on → Does (block_log setting k body go) on'
  block_does k body on on' body_does go does here =
      look_does k _ on'
      (λ time at.
      let inside = entered at.mode (annotation setting k) (stamp_in (at.standing.account.records k)) time in
      body_does (block_end k time at.mode inside go) (λ after. sealed_does k time inside _ on (λ last. does (with_mode at.mode last)) (spent block_steps after)) (with_mode inside at))
      (spent block_steps here)

  -- ---- copies

  again_inner : (kind : DmaClass) (k : ℕ) (to : Place) (n : ℕ) → IsInner (again kind k to n)
  again_inner class.Single k to n = tt
  again_inner class.Private k to n = tt
  again_inner class.Exclude k to n = tt
  again_inner class.Always k to n = tt

  again_reads : (kind : DmaClass) (k : ℕ) (to : Place) (n : ℕ) → IsNoCallAt t.sites k → reading_at t.sites (again kind k to n) ≡ []
  again_reads class.Single k to n no_call = no_call n
  again_reads class.Private k to n no_call = refl
  again_reads class.Exclude k to n no_call = refl
  again_reads class.Always k to n no_call = refl

  -- the run behind a copy
  abbrev Moved : (to from : Place) → (n : ℕ) → (ℕ → Onward Walked) → ℕ → Onward Walked
  Moved to from n on k store = on k (move_words n to from store)

  again_does : (kind : DmaClass) (k : ℕ) (to from : Place) (words : List ℕ) (t' f : Place) (n : ℕ) → IsNoCallAt t.sites k → (go : Rest) (on : ℕ → Onward Walked) → Does go on → (here : Here) → Fits here.store t' n
      → Runs here.standing.next here.standing.committed here.store (copy_again kind k to from words (copy_valued here.store t' f n) go here) (Moved t' f n on)
  again_does kind k to from words t' f n no_call go on does here room = record {
    comes = λ agree.
        let after = with_store (put_words to words here.store) here in
        let same : put_words to words here.store ≡ move_words n t' f here.store = ap (λ v. put_of v here.store) (sym agree.0) ∙ put_back n t' f here.store room in
        (event_does (again kind k to (length words)) (again_inner kind k to (length words)) _ after here.store after.store (go after) [] on (Moved t' f n on) (again_reads kind k to (length words) no_call)
        (λ j rest more. ap (λ s. on j s (rest ++ more)) (sym same)) (does after)).comes agree;
  }

  class_does : (kind : DmaClass) (k : ℕ) (to from : Place) (n : ℕ) (go : Rest) (on : ℕ → Onward Walked) → Does go on → (here : Here) → Fits here.store from n → (kind ≡ class.Private → from.array ≢ to.array)
      → Runs here.standing.next here.standing.committed here.store (copy_by_class kind k to from n go here) (Moved to from n on)
  class_does class.Single k to from n go on does here room apart =
      let after = with_store (move_words n to from here.store) here in
      let r = of_copy class.Single to from (words_at after.store to n) in
      event_does (copies k (shown from) (shown to) n) tt None after here.store after.store _ [] on (Moved to from n on) refl (λ j rest more. refl)
      (silent_does (seals k) tt refl (with_record k (Some r) after) (go (with_record k (Some r) after)) on (does (with_record k (Some r) after)))
  class_does class.Private k to from n go on does here room apart =
      let words = words_at here.store from n in
      let inside = with_record k (Some (of_copy class.Private to from words)) here in
      let after = with_store (put_words to words here.store) inside in
      let same : put_words to words here.store ≡ move_words n to from here.store = put_source n to from here.store room (apart refl) in
      silent_does (copies k (shown from) keep n) tt refl here _ (Moved to from n on)
      (silent_does (seals k) tt refl inside _ (Moved to from n on)
      (event_does (copies k keep (shown to) (length words)) tt None after here.store after.store (go after) [] on (Moved to from n on) refl (λ j rest more. ap (λ s. on j s (rest ++ more)) (sym same)) (does after)))
  class_does class.Exclude k to from n go on does here room apart =
      let after = with_store (move_words n to from here.store) here in
      event_does (copies k (shown from) (shown to) n) tt None after here.store after.store (go after) [] on (Moved to from n on) refl (λ j rest more. refl) (does after)
  class_does class.Always k to from n go on does here room apart =
      let after = with_store (move_words n to from here.store) here in
      event_does (copies k (shown from) (shown to) n) tt None after here.store after.store (go after) [] on (Moved to from n on) refl (λ j rest more. refl) (does after)

  fresh_does : (k : ℕ) (to from : Place) (n : ℕ) (go : Rest) (on : ℕ → Onward Walked) → Does go on → (here : Here) → Fits here.store from n
      → Runs here.standing.next here.standing.committed here.store (copy_by_class (class_at setting to from) k to from n go here) (Moved to from n on)
  fresh_does k to from n go on does here room =
      class_does (class_at setting to from) k to from n go on does here room
      (λ is same. private_memories (memory_at setting from) (memory_at setting to) is (ap (λ x. memory_or_ram (slice_get rules.core.arrays x)) same))

  recorded_does : (k : ℕ) (to from : Place) (n : ℕ) → IsNoCallAt t.sites k → (go : Rest) (on : ℕ → Onward Walked) (r : Option Record) → Does go on → (here : Here) → Fits here.store to n → Fits here.store from n
      → Runs here.standing.next here.standing.committed here.store (copy_by_record setting k to from n go r here) (Moved to from n on)
  recorded_does k to from n no_call go on (Some (of_copy kind to_then from_then words)) does here to_fits from_fits = again_does kind k to_then from_then words to from n no_call go on does (spent (moving_steps (length words)) here) to_fits
  recorded_does k to from n no_call go on (Some (of_reading v stamp args)) does here to_fits from_fits = fresh_does k to from n go on does (spent (moving_steps n) here) from_fits
  recorded_does k to from n no_call go on (Some (of_block stamp)) does here to_fits from_fits = fresh_does k to from n go on does (spent (moving_steps n) here) from_fits
  recorded_does k to from n no_call go on None does here to_fits from_fits = fresh_does k to from n go on does (spent (moving_steps n) here) from_fits

  -- a place that was tested
  abbrev if_room : Bool → Place → Result Place Trap
  if_room b at = if b then Ok at else Err cause.Range

  room_fits : (store : Store) (at : Place) (n : ℕ) (x : Place) → with_room store at n ≡ Ok x → Fits store at n
  room_fits store at n x = by_room (leb (at.index + n) (length (words_of store at.array))) refl
    where
      by_room : (b : Bool) → leb (at.index + n) (length (words_of store at.array)) ≡ b → if_room b at ≡ Ok x → Fits store at n
      by_room true is ok = leb-true (at.index + n) (length (words_of store at.array)) is
      by_room false is ok = absurd (cc ok)

  copy_does : (k : ℕ) (to from : CoreEnd) (words : CoreExpr) → IsNoCallAt t.sites k → (go : Rest) (on : ℕ → Onward Walked) → Does go on → Does (copy_log setting k to from words go) (λ j. copy_walk ends_early to from words (on j))
  copy_does k to from words no_call go on does here =
      let store = here.store in
      let begun = spent_by (copy_steps rules.core t k) here in
      let at_to = spent (end_steps to) begun in
      let at_from = spent (end_steps from) at_to in
      let inside = spent (expr_steps words) at_from in
      run_as _ _ _ _ _ _ (λ j rs. refl)
      (found_does_in (end_place to store) _ (λ x j. end_walk ends_early from (λ f. value_walk ends_early words (λ n. room_walk ends_early x n (room_walk ends_early f n (λ store. on j (move_words n x f store)))))) at_to
      (λ x to_is. run_as _ _ _ _ _ _ (λ j rs. refl)
      (found_does_in (end_place from store) _ (λ f j. value_walk ends_early words (λ n. room_walk ends_early x n (room_walk ends_early f n (λ store. on j (move_words n x f store))))) at_from
      (λ f from_is. run_as _ _ _ _ _ _ (λ j rs. refl)
      (found_does_in (value_of words store) _ (λ n j. room_walk ends_early x n (room_walk ends_early f n (λ store. on j (move_words n x f store)))) inside
      (λ n many. run_as _ _ _ _ _ _ (λ j rs. refl)
      (found_does_in (with_room store x n) _ (λ y j. room_walk ends_early f n (λ store. on j (move_words n x f store))) inside
      (λ y to_room. run_as _ _ _ _ _ _ (λ j rs. refl)
      (found_does_in (with_room store f n) _ (λ z j store. on j (move_words n x f store)) inside
      (λ z from_room. recorded_does k x f n no_call go on (inside.standing.account.records k) does (with_region (region_of t k) inside) (room_fits store x n y to_room) (room_fits store f n z from_room)))))))))))

  -- ---- statements and exits

  mutual
    statement_does : (s : CoreStmt) → Tells t.sites s → (go : Rest) (on : ℕ → Onward Walked) → Does go on → Does (statement_log setting s go) (λ k. statement_walk ends_early s (on k))
    statement_does (stmt.Assign onto e) tells go on does = plain_does (stmt.Assign onto e) go on _ does (λ k store rs. refl)
    statement_does (stmt.Point pointer array index) tells go on does = plain_does (stmt.Point pointer array index) go on _ does (λ k store rs. refl)
    statement_does (stmt.If' c m a n b) tells go on does = branch_does c _ _ _ _ (row_does a tells.0 go on does) (row_does b tells.1 go on does)
    statement_does (stmt.Loop' variable turns m row) tells go on does = plain_does (stmt.Loop' variable turns m row) go on _ does (λ k store rs. refl)
    statement_does (stmt.Io k onto p args) tells go on does = call_does k onto p args tells go on does
    statement_does (stmt.Block' k m row) tells go on does = block_does k (row_log setting row) on (λ j. row_walk ends_early row (on j)) (λ go does. row_does row tells go on does) go does
    statement_does (stmt.Copy k to from words) tells go on does = copy_does k to from words tells go on does

    row_does : {n : _} (row : Row_of-CoreStmt n) → RowTells t.sites row → (go : Rest) (on : ℕ → Onward Walked) → Does go on → Does (row_log setting row go) (λ k. row_walk ends_early row (on k))
    row_does end_of-CoreStmt tells go on does = does
    row_does (more_of-CoreStmt s rest) tells go on does = statement_does s tells.0 (row_log setting rest go) (λ k. row_walk ends_early rest (on k)) (row_does rest tells.1 go on does)

  pub body_does : (b : List CoreStmt) → AllTell t.sites b → (go : Rest) (on : ℕ → Onward Walked) → Does go on → Does (body_log setting b go) (λ k. body_walk ends_early b (on k))
  body_does [] tells go on does = does
  body_does (s ∷ rest) tells go on does = statement_does s tells.0 (body_log setting rest go) (λ k. body_walk ends_early rest (on k)) (body_does rest tells.1 go on does)

  pub exit_does : (e : CoreExit) (go : ℕ → Rest) (on : ℕ → ℕ → Onward Walked) → ((n : ℕ) → Does (go n) (on n)) → Does (exit_log e go) (λ k. exit_walk ends_early e (λ n. on n k))
  exit_does (exit.Next n) go on does = does n
  exit_does exit.Stop go on does = does 0
  exit_does (exit.Choose' c size_a (more_of-CoreExit a end_of-CoreExit) size_b (more_of-CoreExit b end_of-CoreExit)) go on does = branch_does c _ _ _ _ (exit_does a go on does) (exit_does b go on does)
