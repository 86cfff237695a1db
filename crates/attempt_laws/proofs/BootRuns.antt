-- Boots whose followed records agree do what the unbroken run does with their retained readings.
use Rattle.std.proofs.Common.{◌≡◌, ◌⊎◌, inl, inr, ℕ, zero, suc, ◌+◌, ◌-◌, List, [], ◌∷◌, ◌++◌, take, map, Option, Some, None, refl, sym, ap, ap₂, subst, ◌∙◌, append_assoc, append-nil, arith}
use Rattle.std.specs.Prelude.{⊤, slice_get}
use Rattle.task_ast.specs.declared.core_form.CoreTask.{CoreTask}
use Rattle.task_ast.specs.declared.core_form.Core.{Core}
use Rattle.walk_run.specs.declared.trap.Trap.{Trap}
use Rattle.walk_run.specs.declared.walked.WalkEnd.TheVariants.{Trapped}
use Rattle.walk_run.specs.declared.walked.Walked.{Walked}
use Rattle.walk_run.specs.Store.{Store, fresh}
use Rattle.walk_run.specs.Walk.{ends, Onward, body_walk, exit_walk, ends_early, state_of, with_state, unless_stopped, task_end, task_if_there, walk_from}
use Rattle.devices.specs.Journal.{JournalEvent, begins, looks, keeps, drops, issues, seals, copies, commits, traps}
use Rattle.task_attempts.specs.State.{Rules, Standing, Here, Logged, Log, Rest}
use Rattle.task_attempts.specs.Told.{logged}
use Rattle.task_attempts.specs.Attempts.{body_log, exit_log, commit, committed_by, begun_by, attempt_log}
use Rattle.task_attempts.specs.Along.{setting_of}
use Rattle.task_attempts.specs.Boots.{task_of, attempt_if_there, attempts_log, booted, boot_log, after, boots_from, events_in}
use Rattle.task_attempts.specs.Journals.{Running, idle, sites_in, run_on, retained_in, retained, trapped_in}
use Rattle.task_attempts.specs.Laws.{Stays, AllStay}
use Rattle.task_attempts.specs.Sound.{RecordsAgree}
use Rattle.task_attempts.proofs.AttemptLaws.{boot_stays}
use Rattle.attempt_laws.specs.Records.{AreNumbered, Holds, AllHold}
use Rattle.attempt_laws.specs.Runs.{counted, commits_in, all_commits, course_at, course, all_courses, LastTraps, last_trapped, AllTell}
use Rattle.attempt_laws.proofs.BootRecords.{boot_holds, taken_all, after_holds, agree_there}
use Rattle.attempt_laws.proofs.Ways.{IsSome, Way, committing, trapping, IsOf, IsOfBoot, reads, more_of, all_tasks, tasks_behind, end_of, none_of, of_boot_behind}
use Rattle.attempt_laws.proofs.AttemptRuns.{running, Walks, Runs, Does, body_does, exit_does}

-- the task of a number is there for the unbroken run too
task_there : (c : Core) (next : ℕ) (t : CoreTask) → task_of c next ≡ Some t → slice_get c.tasks (next - 1) ≡ Some t
task_there c zero t is = absurd (cc is)
task_there c (suc n) t is = let e : suc n - 1 ≡ n = omega arith in ap (slice_get c.tasks) e ∙ is

-- the run of a task and of so many behind it
abbrev task_run : Core → CoreTask → ℕ → Onward Walked
task_run c t k = body_walk ends_early t.body (exit_walk ends_early t.exit (task_end c (walk_from c k)))

walk_task : (c : Core) (k next : ℕ) (t : CoreTask) (base : Store) (rs : List ℕ) → task_of c next ≡ Some t → walk_from c (suc k) next base rs ≡ task_run c t k (fresh c base) rs
unfolding walk_from
walk_task c k next t base rs is = ap (λ o. task_if_there c o (walk_from c k) base rs) (task_there c next t is)

-- the first task, and those behind it
abbrev HasSome : Way → ℕ → Type 0
HasSome (committing m more) n = IsSome n
HasSome (trapping why) n = ⊤

some_there : (way : Way) (log : Log) → IsOf way log → HasSome way (commits_in log)
some_there (committing m more) log is = is
some_there (trapping why) log is = tt

first_of_many : (way : Way) (n : ℕ) → HasSome way n → all_tasks way n ≡ suc (tasks_behind way n)
first_of_many (committing m more) zero some = absurd some
first_of_many (committing m more) (suc n) some = omega arith
first_of_many (trapping why) zero some = omega arith
first_of_many (trapping why) (suc n) some = omega arith

tasks_first : (way : Way) (log : Log) → IsOf way log → all_tasks way (commits_in log) ≡ suc (tasks_behind way (commits_in log))
tasks_first way log is = first_of_many way (commits_in log) (some_there way log is)

-- behind a commit
tasks_suc : (way : Way) (n : ℕ) → tasks_behind way (suc n) ≡ all_tasks way n
tasks_suc (committing m more) n = refl
tasks_suc (trapping why) n = refl

commit_reads : (way : Way) (c : Core) (r : Running) (next : ℕ) (es : List JournalEvent) → reads way c r (commits next ∷ es) ≡ r.held ++ reads way c idle es
commit_reads (committing m more) c r next es = refl
commit_reads (trapping why) c r next es = append_assoc r.held (retained_in c idle es) (trapped_in c idle es)

of_commit : (way : Way) (l : Logged) (log : Log) → ((code : ℕ) → l.event ≡ traps code → ⊥) → IsOf way (l ∷ log) → IsOfBoot way log
of_commit (committing m more) l log other is = tt
of_commit (trapping why) l log other is = of_boot_behind (trapping why) l log other is

-- ---- where nothing is committed

no_commit : (n : ℕ) {A : Type 0} → suc n ≡ 0 → A
no_commit n is = absurd (cc is)

none_retained : (c : Core) (r : Running) (log : Log) → commits_in log ≡ 0 → retained_in c r (events_in log) ≡ []
none_retained c r [] none = refl
none_retained c r (l ∷ log) none = by_event l.event none (λ r. none_retained c r log)
  where
    by_event : (e : JournalEvent) → counted e (commits_in log) ≡ 0 → ((r : Running) → commits_in log ≡ 0 → retained_in c r (events_in log) ≡ []) → retained_in c r (e ∷ events_in log) ≡ []
    by_event (begins task) none behind = behind _ none
    by_event (commits next) none behind = no_commit (commits_in log) none
    by_event (traps code) none behind = behind _ none
    by_event (looks site time) none behind = behind _ none
    by_event (keeps site v) none behind = behind _ none
    by_event (drops site) none behind = behind _ none
    by_event (issues site p args v) none behind = behind _ none
    by_event (seals site) none behind = behind _ none
    by_event (copies site from to n) none behind = behind _ none

none_course : (c : Core) (end : ℕ → Store → Walked) (next : ℕ) (base : Store) (log : Log) → AllStay base next log → commits_in log ≡ 0 → course c end next base log ≡ end next base
none_course c end next base [] stay none = refl
none_course c end next base (l ∷ log) stay none = by_event l.event l.after stay.0 none (none_course c end l.after.next l.after.committed log stay.1)
  where
    by_event : (e : JournalEvent) (s : Standing) → Stays base next e s → counted e (commits_in log) ≡ 0 → (commits_in log ≡ 0 → course c end s.next s.committed log ≡ end s.next s.committed)
        → course_at c e s (course c end s.next s.committed log) ≡ end next base
    by_event (begins task) s stays none behind = behind none ∙ ap₂ end stays.1 stays.0
    by_event (commits to) s stays none behind = no_commit (commits_in log) none
    by_event (traps code) s stays none behind = behind none ∙ ap₂ end stays.1 stays.0
    by_event (looks site time) s stays none behind = behind none ∙ ap₂ end stays.1 stays.0
    by_event (keeps site v) s stays none behind = behind none ∙ ap₂ end stays.1 stays.0
    by_event (drops site) s stays none behind = behind none ∙ ap₂ end stays.1 stays.0
    by_event (issues site p args v) s stays none behind = behind none ∙ ap₂ end stays.1 stays.0
    by_event (seals site) s stays none behind = behind none ∙ ap₂ end stays.1 stays.0
    by_event (copies site from to n) s stays none behind = behind none ∙ ap₂ end stays.1 stays.0

no_trap : (next code : ℕ) → commits next ≡ traps code → ⊥
no_trap next code is = cc is

begins_no_trap : (task code : ℕ) → begins task ≡ traps code → ⊥
begins_no_trap task code is = cc is

-- the event that begins an attempt tells its task
begin_reads : (way : Way) (c : Core) (task : ℕ) (es : List JournalEvent) → reads way c idle (begins task ∷ es) ≡ reads way c (record { sites = sites_in (task_of c task); held = [] }) es
begin_reads (committing m more) c task es = refl
begin_reads (trapping why) c task es = refl

nothing_of : (way : Way) (c : Core) (next : ℕ) (base : Store) → IsOfBoot way [] → walk_from c (all_tasks way 0) next base (reads way c idle [] ++ more_of way) ≡ end_of way c next base
nothing_of (committing m more) c next base is = let e : 0 + m ≡ m = omega arith in ap (λ k. walk_from c k next base more) e
nothing_of (trapping why) c next base is = absurd is

-- what is taken is of the way, or commits nothing
either_part : (way : Way) (c : Core) (r : Running) (next : ℕ) (base : Store) (log : Log) → AllStay base next log → IsOfBoot way log
    → (IsOf way log) ⊎ (walk_from c (all_tasks way (commits_in log)) next base (reads way c r (events_in log) ++ more_of way) ≡ course c (end_of way c) next base log)
either_part (trapping why) c r next base log stay is = inl is
either_part (committing m more) c r next base log stay is = by_commits (commits_in log) refl
  where
    by_commits : (x : ℕ) → commits_in log ≡ x → IsSome (commits_in log) ⊎ (walk_from c (commits_in log + m) next base (retained_in c r (events_in log) ++ more) ≡ course c (λ next base. walk_from c m next base more) next base log)
    by_commits zero none =
        let e : 0 + m ≡ m = omega arith in
        inr (ap₂ (λ k rs. walk_from c (k + m) next base (rs ++ more)) none (none_retained c r log none) ∙ ap (λ k. walk_from c k next base more) e ∙ sym (none_course c (λ next base. walk_from c m next base more) next base log stay none))
    by_commits (suc x) some = inl (subst IsSome (sym some) tt)

module _ (rules : Rules) (way : Way) where
  -- From between two attempts: with the readings that are retained of what is taken of a log, the run does as many tasks
  -- as there are commits, shows their states, and goes on from there.
  abbrev pub GoesAt : (next : ℕ) → Store → Log → Type 0
  GoesAt next base log =
      walk_from rules.core (all_tasks way (commits_in log)) next base (reads way rules.core idle (events_in log) ++ more_of way) ≡ course rules.core (end_of way rules.core) next base log

  -- so it is wherever a log is cut, if its records agree
  pub record Goes (next : ℕ) (base : Store) (log : Log) : Type 0 where
    pub goes : RecordsAgree log → AllStay base next log → (n : ℕ) → IsOfBoot way (take n log) → GoesAt next base (take n log)

  abbrev GoGoes : Rest → Type 0
  GoGoes go = (here : Here) → Goes here.standing.next here.standing.committed (go here)

  nothing_goes : (next : ℕ) (base : Store) → IsOfBoot way [] → GoesAt next base []
  nothing_goes next base is = nothing_of way rules.core next base is

  empty_goes : (next : ℕ) (base : Store) (n : ℕ) → IsOfBoot way (take n []) → GoesAt next base (take n [])
  empty_goes next base zero is = nothing_goes next base is
  empty_goes next base (suc n) is = nothing_goes next base is

  -- ---- a commit

  commit_at : (t : CoreTask) (go : Rest) → GoGoes go → (next : ℕ) (here : Here) → RecordsAgree (commit go next here) → AllStay here.standing.committed here.standing.next (commit go next here) → (n : ℕ)
      → IsOf way (take n (commit go next here))
      → Walks rules t way here.standing.next here.standing.committed here.store (take n (commit go next here)) (λ k. task_end rules.core (walk_from rules.core k) next)
  commit_at t go goes next here agree stay zero some = absurd (none_of way some)
  commit_at t go goes next here agree stay (suc n) some =
      let at = committed_by next here in
      let behind = take n (go at) in
      let is_boot = of_commit way (logged (commits next) None at) behind (λ code is. no_trap next code is) some in
      record {
        rest = reads way rules.core idle (events_in behind);
        is = λ held. commit_reads way rules.core (running rules t way held) next (events_in behind);
        walks =
            ap (λ k. task_end rules.core (walk_from rules.core k) next here.store (reads way rules.core idle (events_in behind) ++ more_of way)) (tasks_suc way (commits_in behind))
            ∙ ap (λ w. with_state (state_of rules.core next here.store) (unless_stopped next w)) ((goes at).goes agree.1 stay.1 n is_boot);
      }

  commit_does : (t : CoreTask) (go : Rest) → GoGoes go → (next : ℕ) → Does rules t way (commit go next) (λ k. task_end rules.core (walk_from rules.core k) next)
  commit_does t go goes next here = record { comes = λ agree stay n some. commit_at t go goes next here agree stay n some }

  -- ---- an attempt

  module _ (t : CoreTask) (here : Here) (is_task : task_of rules.core here.standing.next ≡ Some t) where
    -- what runs behind the event that begins it
    abbrev begun : Running
    begun = record { sites = sites_in (task_of rules.core here.standing.next); held = [] }

    -- the same as between attempts, behind that event
    abbrev BegunAt : Log → Type 0
    BegunAt log =
        walk_from rules.core (all_tasks way (commits_in log)) here.standing.next here.standing.committed (reads way rules.core begun (events_in log) ++ more_of way)
        ≡ course rules.core (end_of way rules.core) here.standing.next here.standing.committed log

    first_walks : (log : Log) → IsOf way log → Walks rules t way here.standing.next here.standing.committed (fresh rules.core here.standing.committed) log (task_run rules.core t) → BegunAt log
    first_walks log is w =
        let rs_are : reads way rules.core begun (events_in log) ≡ w.rest = ap (λ o. reads way rules.core (record { sites = sites_in o; held = [] }) (events_in log)) is_task ∙ w.is [] in
        ap₂ (λ k rs. walk_from rules.core k here.standing.next here.standing.committed (rs ++ more_of way)) (tasks_first way log is) rs_are
        ∙ walk_task rules.core (tasks_behind way (commits_in log)) here.standing.next t here.standing.committed (w.rest ++ more_of way) is_task
        ∙ w.walks

    by_part : (log : Log) → (IsOf way log → Walks rules t way here.standing.next here.standing.committed (fresh rules.core here.standing.committed) log (task_run rules.core t))
        → (IsOf way log) ⊎ BegunAt log → BegunAt log
    by_part log walks (inl is) = first_walks log is (walks is)
    by_part log walks (inr goes) = goes

    -- fewer events stay too
    fewer_stay : (base : Store) (next n : ℕ) (log : Log) → AllStay base next log → AllStay base next (take n log)
    fewer_stay base next zero log all = tt
    fewer_stay base next (suc n) [] all = tt
    fewer_stay base next (suc n) (l ∷ log) all = (all.0, fewer_stay l.after.committed l.after.next n log all.1)

    attempt_at : (behind : Log) → Runs rules t way here.standing.next here.standing.committed (fresh rules.core here.standing.committed) behind (task_run rules.core t)
        → RecordsAgree behind → AllStay here.standing.committed here.standing.next behind → (n : ℕ) → IsOfBoot way (take n behind) → BegunAt (take n behind)
    attempt_at behind runs agree stay n is =
        by_part (take n behind) (runs.comes agree stay n)
        (either_part way rules.core begun here.standing.next here.standing.committed (take n behind) (fewer_stay here.standing.committed here.standing.next n behind stay) is)

    attempt_goes : AllTell t.sites t.body → (go : Rest) → GoGoes go → Goes here.standing.next here.standing.committed (attempt_log (setting_of rules t) go here)
    attempt_goes tells go goes = record { goes = cut }
      where
        cut : RecordsAgree (attempt_log (setting_of rules t) go here) → AllStay here.standing.committed here.standing.next (attempt_log (setting_of rules t) go here) → (n : ℕ) → IsOfBoot way (take n (attempt_log (setting_of rules t) go here))
            → GoesAt here.standing.next here.standing.committed (take n (attempt_log (setting_of rules t) go here))
        cut agree stay zero is = nothing_goes here.standing.next here.standing.committed is
        cut agree stay (suc n) is =
            let go_in = begun_by (setting_of rules t) here in
            let behind : Log = body_log (setting_of rules t) t.body (exit_log t.exit (commit go)) go_in in
            let runs = body_does rules t way t.body tells (exit_log t.exit (commit go)) (λ k. exit_walk ends_early t.exit (task_end rules.core (walk_from rules.core k))) (exit_does rules t way t.exit (commit go) (λ next k. task_end rules.core (walk_from rules.core k) next) (commit_does t go goes)) go_in in
            ap (λ rs. walk_from rules.core (all_tasks way (commits_in (take n behind))) here.standing.next here.standing.committed (rs ++ more_of way)) (begin_reads way rules.core here.standing.next (events_in (take n behind)))
            ∙ attempt_at behind runs agree.1 stay.1 n (of_boot_behind way (logged (begins here.standing.next) None go_in) (take n behind) (λ code is. begins_no_trap here.standing.next code is) is)

  module _ (told : (number : ℕ) (t : CoreTask) → task_of rules.core number ≡ Some t → AllTell t.sites t.body) where
    if_there_goes : (o : Option CoreTask) (go : Rest) → GoGoes go → (here : Here) → task_of rules.core here.standing.next ≡ o → Goes here.standing.next here.standing.committed (attempt_if_there rules o go here)
    if_there_goes None go goes here is = record { goes = λ agree stay n is. empty_goes here.standing.next here.standing.committed n is }
    if_there_goes (Some t) go goes here is = attempt_goes t here is (told here.standing.next t is) go goes

    attempts_go : (n : ℕ) → GoGoes (attempts_log rules n)
    attempts_go zero here = record { goes = λ agree stay n is. empty_goes here.standing.next here.standing.committed n is }
    attempts_go (suc n) here = if_there_goes (task_of rules.core here.standing.next) (attempts_log rules n) (attempts_go n) here refl

    boot_goes : (n : ℕ) (s : Standing) → Goes s.next s.committed (boot_log rules n s)
    unfolding boot_log
    boot_goes n s = attempts_go n (booted rules s)

-- ---- all boots

course_same : (c : Core) (f g : ℕ → Store → Walked) (s : Standing) (log : Log) → f (after s log).next (after s log).committed ≡ g (after s log).next (after s log).committed → course c f s.next s.committed log ≡ course c g s.next s.committed log
course_same c f g s [] same = same
course_same c f g s (l ∷ log) same = ap (course_at c l.event l.after) (course_same c f g l.after log same)

module _ (rules : Rules) (told : (number : ℕ) (t : CoreTask) → task_of rules.core number ≡ Some t → AllTell t.sites t.body) (numbered : AreNumbered rules.core) where
  -- one boot, and what the run does behind it
  one_boot : (cut : ℕ) (s : Standing) → Holds rules.core s → (many : ℕ) (later : List ℕ) (end : ℕ → Store → Walked)
      → walk_from rules.core many (after s (take cut (boot_log rules cut s))).next (after s (take cut (boot_log rules cut s))).committed later ≡ end (after s (take cut (boot_log rules cut s))).next (after s (take cut (boot_log rules cut s))).committed
      → walk_from rules.core (commits_in (take cut (boot_log rules cut s)) + many) s.next s.committed (retained_in rules.core idle (events_in (take cut (boot_log rules cut s))) ++ later)
      ≡ course rules.core end s.next s.committed (take cut (boot_log rules cut s))
  one_boot cut s hold many later end on =
      let whole = boot_log rules cut s in
      (boot_goes rules (committing many later) told cut s).goes (agree_there rules.core whole (boot_holds rules numbered cut s hold)) (boot_stays rules cut s) cut tt
      ∙ course_same rules.core (λ next base. walk_from rules.core many next base later) end s (take cut whole) on

  -- with the retained readings the run does as many tasks as there were commits, shows their states, and goes on from the last
  pub boots_run : (cuts : List ℕ) (s : Standing) → Holds rules.core s → (m : ℕ) (more : List ℕ)
      → walk_from rules.core (all_commits (boots_from rules cuts s) + m) s.next s.committed (retained rules.core (map events_in (boots_from rules cuts s)) ++ more)
      ≡ all_courses rules.core (λ next base. walk_from rules.core m next base more) s.next s.committed (boots_from rules cuts s)
  unfolding boots_from
  boots_run [] s hold m more = let e : 0 + m ≡ m = omega arith in ap (λ k. walk_from rules.core k s.next s.committed more) e
  boots_run (cut ∷ rest) s hold m more =
      let whole = boot_log rules cut s in
      let taken = take cut whole in
      let boots = boots_from rules rest (after s taken) in
      let many = all_commits boots + m in
      let later = retained rules.core (map events_in boots) ++ more in
      let e : commits_in taken + all_commits boots + m ≡ commits_in taken + many = omega arith in
      let on = boots_run rest (after s taken) (after_holds rules.core s taken hold (taken_all _ cut whole (boot_holds rules numbered cut s hold))) m more in
      ap₂ (λ n rs. walk_from rules.core n s.next s.committed rs) e (append_assoc (retained_in rules.core idle (events_in taken)) (retained rules.core (map events_in boots)) more)
      ∙ one_boot cut s hold many later (λ next base. all_courses rules.core (λ next base. walk_from rules.core m next base more) next base boots) on

  -- where the last boot ends by a trap, so does the run of one task more, with the readings of the attempt that traps besides
  pub boots_trap : (cuts : List ℕ) (s : Standing) → Holds rules.core s → (why : Trap) → LastTraps why (boots_from rules cuts s)
      → walk_from rules.core (all_commits (boots_from rules cuts s) + 1) s.next s.committed (retained rules.core (map events_in (boots_from rules cuts s)) ++ last_trapped rules.core (boots_from rules cuts s))
      ≡ all_courses rules.core (λ next base. ends (Trapped why)) s.next s.committed (boots_from rules cuts s)
  unfolding boots_from
  boots_trap [] s hold why traps_last = absurd traps_last
  boots_trap (cut ∷ []) s hold why traps_last =
      let whole = boot_log rules cut s in
      let taken = take cut whole in
      let e : commits_in taken + 0 ≡ commits_in taken = omega arith in
      ap₂ (λ n rs. walk_from rules.core (n + 1) s.next s.committed (rs ++ trapped_in rules.core idle (events_in taken))) e (append-nil (retained_in rules.core idle (events_in taken)))
      ∙ ap (walk_from rules.core (commits_in taken + 1) s.next s.committed) (sym (append-nil (retained_in rules.core idle (events_in taken) ++ trapped_in rules.core idle (events_in taken))))
      ∙ (boot_goes rules (trapping why) told cut s).goes (agree_there rules.core whole (boot_holds rules numbered cut s hold)) (boot_stays rules cut s) cut traps_last
  boots_trap (cut ∷ second ∷ rest) s hold why traps_last =
      let whole = boot_log rules cut s in
      let taken = take cut whole in
      let boots = boots_from rules (second ∷ rest) (after s taken) in
      let many = all_commits boots + 1 in
      let later = retained rules.core (map events_in boots) ++ last_trapped rules.core boots in
      let e : commits_in taken + all_commits boots + 1 ≡ commits_in taken + many = omega arith in
      let on = boots_trap (second ∷ rest) (after s taken) (after_holds rules.core s taken hold (taken_all _ cut whole (boot_holds rules numbered cut s hold))) why traps_last in
      ap₂ (λ n rs. walk_from rules.core n s.next s.committed rs) e (append_assoc (retained_in rules.core idle (events_in taken)) (retained rules.core (map events_in boots)) (last_trapped rules.core boots))
      ∙ one_boot cut s hold many later (λ next base. all_courses rules.core (λ next base. ends (Trapped why)) next base boots) on
