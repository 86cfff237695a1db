-- Nothing comes behind a commit that leads to no task; so the states of the unbroken run are those of all commits.
use Rattle.std.proofs.Common.{◌≡◌, ℕ, zero, suc, ◌+◌, ◌≤◌, List, [], ◌∷◌, ◌++◌, length, map, take, Option, Some, None, refl, sym, ap, ap₂, subst, ◌∙◌, append_assoc, append-nil, arith}
use Rattle.std.specs.Prelude.{⊤, flat_map, slice_get}
use Rattle.std.specs.List.{AllByRecursion}
use Rattle.task_ast.specs.declared.core_form.CoreTask.{CoreTask}
use Rattle.task_ast.specs.declared.core_form.Core.{Core}
use Rattle.task_ast.specs.WellFormed.{IsCoreTask, IsWellFormed}
use Rattle.walk_run.specs.declared.trap.Trap.{Trap}
use Rattle.walk_run.specs.declared.walked.WalkEnd.TheVariants.{Limit, Trapped}
use Rattle.walk_run.specs.declared.walked.State.{State}
use Rattle.walk_run.specs.declared.walked.Walked.{Walked}
use Rattle.walk_run.specs.Store.{Store, declared_store}
use Rattle.walk_run.specs.Walk.{ends, state_of, walk_from, walk_of}
use Rattle.devices.specs.declared.world.World.{World}
use Rattle.devices.specs.Journal.{JournalEvent, begins, looks, keeps, drops, issues, seals, copies, commits, traps}
use Rattle.task_attempts.specs.State.{Rules, Standing, Here, Log, Rest, start}
use Rattle.task_attempts.specs.Attempts.{commit, committed_by, begun_by}
use Rattle.task_attempts.specs.Along.{IsInner, GoesAlong, setting_of}
use Rattle.task_attempts.specs.Boots.{task_of, attempt_if_there, attempts_log, booted, boot_log, after, boots_from, boots, rules_of, expect, events_in}
use Rattle.task_attempts.specs.Journals.{retained}
use Rattle.task_attempts.specs.Laws.{Stays, AllStay}
use Rattle.task_attempts.specs.Sound.{next_in, AreWalked}
use Rattle.task_attempts.proofs.AttemptLaws.{inside_goes, boot_stays}
use Rattle.attempt_laws.specs.Records.{AreNumbered, Holds}
use Rattle.attempt_laws.specs.Runs.{state_in, states_in, all_states, counted, commits_in, all_commits, course_at, course, all_courses, AllTell, LastTraps, last_trapped}
use Rattle.attempt_laws.proofs.FewerLaws.{walk_fewer}
use Rattle.attempt_laws.proofs.BootRuns.{boots_run, boots_trap}
use Rattle.attempt_laws.proofs.BootRecords.{none_hold, are_numbered}
use Rattle.attempt_laws.proofs.TableLaws.{sites_told}

-- nothing comes behind a commit that leads to no task
abbrev LastAt : JournalEvent → Log → Type 0
LastAt (commits next) log = next ≡ 0 → log ≡ []
LastAt e log = ⊤

abbrev AllLast : Log → Type 0
AllLast [] = ⊤
AllLast (l ∷ log) = LastAt l.event log × AllLast log

inner_last : (e : JournalEvent) (log : Log) → IsInner e → LastAt e log
inner_last (begins task) log inner = tt
inner_last (commits next) log inner = absurd inner
inner_last (traps code) log inner = tt
inner_last (looks site time) log inner = tt
inner_last (keeps site v) log inner = tt
inner_last (drops site) log inner = tt
inner_last (issues site p args v) log inner = tt
inner_last (seals site) log inner = tt
inner_last (copies site from to n) log inner = tt

last_along : GoesAlong (λ here s a b. AllLast a)
last_along = record {
  event = λ e inner f here s a b all. (inner_last e a inner, all);
  trap = λ why here s. (tt, tt);
  later = λ a s b t later c d all. all;
}

abbrev GoLast : Rest → Type 0
GoLast go = (here : Here) → (here.standing.next ≡ 0 → go here ≡ []) × AllLast (go here)

no_task : (c : Core) (n : ℕ) (t : CoreTask) → task_of c n ≡ Some t → n ≡ 0 → ⊥
no_task c zero t is stopped = cc is
no_task c (suc n) t is stopped = cc stopped

if_there_last : (rules : Rules) (t : Option CoreTask) (go : Rest) → GoLast go → (here : Here) → task_of rules.core here.standing.next ≡ t → (here.standing.next ≡ 0 → attempt_if_there rules t go here ≡ []) × AllLast (attempt_if_there rules t go here)
if_there_last rules None go last here is = (λ stopped. refl, tt)
if_there_last rules (Some t) go last here is =
    let begun = begun_by (setting_of rules t) here in (
      λ stopped. absurd (no_task rules.core here.standing.next t is stopped),
      (tt, inside_goes _ last_along (setting_of rules t) (commit go) (commit go) (λ to at s. last (committed_by to at)) begun begun.steps),
    )

attempts_last : (rules : Rules) (n : ℕ) → GoLast (attempts_log rules n)
attempts_last rules zero here = (λ stopped. refl, tt)
attempts_last rules (suc n) here = if_there_last rules (task_of rules.core here.standing.next) (attempts_log rules n) (attempts_last rules n) here refl

boot_last : (rules : Rules) (n : ℕ) (s : Standing) → (s.next ≡ 0 → boot_log rules n s ≡ []) × AllLast (boot_log rules n s)
unfolding boot_log
boot_last rules n s = attempts_last rules n (booted rules s)

none_taken : (n : ℕ) (log : Log) → log ≡ [] → take n log ≡ []
none_taken zero log is = refl
none_taken (suc n) log is = ap (take (suc n)) is

taken_last_at : (e : JournalEvent) (n : ℕ) (log : Log) → LastAt e log → LastAt e (take n log)
taken_last_at (begins task) n log last = tt
taken_last_at (commits next) n log last = λ stopped. none_taken n log (last stopped)
taken_last_at (traps code) n log last = tt
taken_last_at (looks site time) n log last = tt
taken_last_at (keeps site v) n log last = tt
taken_last_at (drops site) n log last = tt
taken_last_at (issues site p args v) n log last = tt
taken_last_at (seals site) n log last = tt
taken_last_at (copies site from to m) n log last = tt

taken_last : (n : ℕ) (log : Log) → AllLast log → AllLast (take n log)
taken_last zero log all = tt
taken_last (suc n) [] all = tt
taken_last (suc n) (l ∷ log) all = (taken_last_at l.event n log all.0, taken_last n log all.1)

taken_stay : (base : Store) (next n : ℕ) (log : Log) → AllStay base next log → AllStay base next (take n log)
taken_stay base next zero log all = tt
taken_stay base next (suc n) [] all = tt
taken_stay base next (suc n) (l ∷ log) all = (all.0, taken_stay l.after.committed l.after.next n log all.1)

-- ---- states

-- of one event
event_states : (c : Core) (base : Store) (next : ℕ) (e : JournalEvent) (s : Standing) (log : Log) (w : Walked) (rest : List State) → Stays base next e s → LastAt e log → (log ≡ [] → s.next ≡ 0 → rest ≡ [])
    → w.states ≡ states_in c log ++ rest → (course_at c e s w).states ≡ (state_in c e s ++ states_in c log) ++ rest
event_states c base next (begins task) s log w rest stays last stopped is = is
event_states c base next (commits zero) s log w rest stays last stopped is =
    ap {B = List State} (λ states. state_of c 0 s.committed ∷ states)
    (sym (ap₂ (λ log rest. states_in c log ++ rest) (last refl) (stopped (last refl) stays)))
event_states c base next (commits (suc to)) s log w rest stays last stopped is = ap {B = List State} (λ states. state_of c (suc to) s.committed ∷ states) is
event_states c base next (traps code) s log w rest stays last stopped is = is
event_states c base next (looks site time) s log w rest stays last stopped is = is
event_states c base next (keeps site v) s log w rest stays last stopped is = is
event_states c base next (drops site) s log w rest stays last stopped is = is
event_states c base next (issues site p args v) s log w rest stays last stopped is = is
event_states c base next (seals site) s log w rest stays last stopped is = is
event_states c base next (copies site from to n) s log w rest stays last stopped is = is

log_states : (c : Core) (end : ℕ → Store → Walked) (s : Standing) (log : Log) → AllStay s.committed s.next log → AllLast log → ((after s log).next ≡ 0 → (end (after s log).next (after s log).committed).states ≡ [])
    → (course c end s.next s.committed log).states ≡ states_in c log ++ (end (after s log).next (after s log).committed).states
log_states c end s [] stay last stopped = refl
log_states c end s (l ∷ log) stay last stopped =
    let rest = (end (after l.after log).next (after l.after log).committed).states in
    event_states c s.committed s.next l.event l.after log (course c end l.after.next l.after.committed log) rest stay.0 last.0
    (λ none next_zero. let same : after l.after log ≡ l.after = ap (after l.after) none in stopped (ap (λ s. s.next) same ∙ next_zero))
    (log_states c end l.after log stay.1 last.1 stopped)

-- where no task is next nothing comes
stopped_boots : (rules : Rules) (cuts : List ℕ) (s : Standing) → s.next ≡ 0 → (all_courses rules.core (λ next base. ends Limit) s.next s.committed (boots_from rules cuts s)).states ≡ []
unfolding boots_from
stopped_boots rules [] s stopped = refl
stopped_boots rules (cut ∷ rest) s stopped =
    let none : take cut (boot_log rules cut s) ≡ [] = none_taken cut (boot_log rules cut s) ((boot_last rules cut s).0 stopped) in
    ap (λ taken. (course rules.core (λ next base. all_courses rules.core (λ next base. ends Limit) next base (boots_from rules rest (after s taken))) s.next s.committed taken).states) none
    ∙ stopped_boots rules rest s stopped

boots_states : (rules : Rules) (cuts : List ℕ) (s : Standing) → (all_courses rules.core (λ next base. ends Limit) s.next s.committed (boots_from rules cuts s)).states ≡ all_states rules.core (boots_from rules cuts s)
unfolding boots_from
boots_states rules [] s = refl
boots_states rules (cut ∷ rest) s =
    let c = rules.core in
    let whole = boot_log rules cut s in
    let taken = take cut whole in
    log_states c (λ next base. all_courses c (λ next base. ends Limit) next base (boots_from rules rest (after s taken))) s taken
    (taken_stay s.committed s.next cut whole (boot_stays rules cut s)) (taken_last cut whole (boot_last rules cut s).1) (stopped_boots rules rest (after s taken))
    ∙ ap (λ (states : List State). states_in c taken ++ states) (boots_states rules rest (after s taken))

-- ---- the states of commits, their number and their tasks

event_many : (c : Core) (e : JournalEvent) (s : Standing) (states : List State) (n : ℕ) → length states ≡ n → length (state_in c e s ++ states) ≡ counted e n
event_many c (begins task) s states n is = is
event_many c (commits next) s states n is = ap suc is
event_many c (traps code) s states n is = is
event_many c (looks site time) s states n is = is
event_many c (keeps site v) s states n is = is
event_many c (drops site) s states n is = is
event_many c (issues site p args v) s states n is = is
event_many c (seals site) s states n is = is
event_many c (copies site from to m) s states n is = is

log_many : (c : Core) (log : Log) → length (states_in c log) ≡ commits_in log
log_many c [] = refl
log_many c (l ∷ log) = event_many c l.event l.after (states_in c log) (commits_in log) (log_many c log)

length_both : (xs ys : List State) → length (xs ++ ys) ≡ length xs + length ys
length_both [] ys = omega arith
length_both (x ∷ xs) ys = let more = length_both xs ys in omega (arith, more)

all_many : (c : Core) (boots : List Log) → length (all_states c boots) ≡ all_commits boots
all_many c [] = refl
all_many c (boot ∷ boots) = length_both (states_in c boot) (all_states c boots) ∙ ap₂ (λ m n. m + n) (log_many c boot) (all_many c boots)

event_nexts : (c : Core) (e : JournalEvent) (s : Standing) (states : List State) (nexts : List ℕ) → map (λ x. x.next) states ≡ nexts → map (λ x. x.next) (state_in c e s ++ states) ≡ next_in e ++ nexts
event_nexts c (begins task) s states nexts is = is
event_nexts c (commits next) s states nexts is = ap {B = List ℕ} (λ ns. next ∷ ns) is
event_nexts c (traps code) s states nexts is = is
event_nexts c (looks site time) s states nexts is = is
event_nexts c (keeps site v) s states nexts is = is
event_nexts c (drops site) s states nexts is = is
event_nexts c (issues site p args v) s states nexts is = is
event_nexts c (seals site) s states nexts is = is
event_nexts c (copies site from to m) s states nexts is = is

log_nexts : (c : Core) (log : Log) → map (λ x. x.next) (states_in c log) ≡ flat_map next_in (events_in log)
log_nexts c [] = refl
log_nexts c (l ∷ log) = event_nexts c l.event l.after (states_in c log) (flat_map next_in (events_in log)) (log_nexts c log)

map_both : (xs ys : List State) → map (λ x. x.next) (xs ++ ys) ≡ map (λ x. x.next) xs ++ map (λ x. x.next) ys
map_both [] ys = refl
map_both (x ∷ xs) ys = ap {B = List ℕ} (λ ns. x.next ∷ ns) (map_both xs ys)

all_nexts : (c : Core) (boots : List Log) → map (λ x. x.next) (all_states c boots) ≡ flat_map (λ boot. flat_map next_in boot) (map events_in boots)
all_nexts c [] = refl
all_nexts c (boot ∷ boots) = map_both (states_in c boot) (all_states c boots) ∙ ap₂ (λ (a b : List ℕ). a ++ b) (log_nexts c boot) (all_nexts c boots)

-- ---- the law

limit_run : (c : Core) (next : ℕ) (base : Store) → walk_from c 0 next base [] ≡ ends Limit
unfolding walk_from
limit_run c next base = refl

course_ends : (c : Core) (f g : ℕ → Store → Walked) (next : ℕ) (base : Store) (log : Log) → ((next : ℕ) (base : Store) → f next base ≡ g next base) → course c f next base log ≡ course c g next base log
course_ends c f g next base [] same = same next base
course_ends c f g next base (l ∷ log) same = ap (course_at c l.event l.after) (course_ends c f g l.after.next l.after.committed log same)

courses_end : (c : Core) (f g : ℕ → Store → Walked) (next : ℕ) (base : Store) (boots : List Log) → ((next : ℕ) (base : Store) → f next base ≡ g next base) → all_courses c f next base boots ≡ all_courses c g next base boots
courses_end c f g next base [] same = same next base
courses_end c f g next base (boot ∷ boots) same = course_ends c _ _ next base boot (λ next base. courses_end c f g next base boots same)

module _ (rules : Rules) (told : (number : ℕ) (t : CoreTask) → task_of rules.core number ≡ Some t → AllTell t.sites t.body) (numbered : AreNumbered rules.core) where
  -- from a standing: the run of as many tasks as there were commits shows their states
  states_walked : (cuts : List ℕ) (s : Standing) → Holds rules.core s
      → (walk_from rules.core (all_commits (boots_from rules cuts s)) s.next s.committed (retained rules.core (map events_in (boots_from rules cuts s)))).states ≡ all_states rules.core (boots_from rules cuts s)
  states_walked cuts s hold =
      let all = boots_from rules cuts s in
      let e : all_commits all ≡ all_commits all + 0 = omega arith in
      ap₂ (λ n rs. (walk_from rules.core n s.next s.committed rs).states) e (sym (append-nil (retained rules.core (map events_in all))))
      ∙ ap (λ w. w.states) (boots_run rules told numbered cuts s hold 0 [] ∙ courses_end rules.core _ _ s.next s.committed all (limit_run rules.core))
      ∙ boots_states rules cuts s

  pub are_walked : (cuts times : List ℕ) → Holds rules.core (start rules.core times)
      → AreWalked rules.core (map events_in (boots_from rules cuts (start rules.core times))) (all_states rules.core (boots_from rules cuts (start rules.core times)))
  unfolding walk_of
  are_walked cuts times hold =
      let s = start rules.core times in
      let all = boots_from rules cuts s in
      let c = rules.core in
      record {
        nexts = all_nexts c all;
        walked = λ i less.
            (walk_fewer c i (all_commits all) (subst (λ n. i ≤ n) (all_many c all) less) 1 (declared_store c) (retained c (map events_in all))).states
            ∙ ap (take i) (states_walked cuts s hold);
      }

told_there : (c : Core) (tasks : List CoreTask) → AllByRecursion (IsCoreTask c) tasks → (n : ℕ) (t : CoreTask) → slice_get tasks n ≡ Some t → AllTell t.sites t.body
told_there c [] well n t is = absurd (cc is)
told_there c (x ∷ tasks) well zero t is = let same : x ≡ t = cc is in subst {A = CoreTask} (λ t. AllTell t.sites t.body) same (sites_told c.arrays x well.0.sites)
told_there c (x ∷ tasks) well (suc n) t is = told_there c tasks well.1 n t is

tasks_told : (c : Core) → IsWellFormed c → (number : ℕ) (t : CoreTask) → task_of c number ≡ Some t → AllTell t.sites t.body
tasks_told c well zero t is = absurd (cc is)
tasks_told c well (suc n) t is = told_there c c.tasks well.tasks n t is

-- the law, for every well-formed program, all cuts and all looks
pub commits_are_walked : (c : Core) (world : World) → IsWellFormed c → (cuts times : List ℕ) → AreWalked c (expect (rules_of c world) cuts times) (all_states c (boots (rules_of c world) cuts times))
commits_are_walked c world well cuts times = are_walked (rules_of c world) (tasks_told c well) (are_numbered c well) cuts times (none_hold c (declared_store c) 1)

-- and of a trap
pub trap_is_walked : (c : Core) (world : World) → IsWellFormed c → (cuts times : List ℕ) (why : Trap) → LastTraps why (boots (rules_of c world) cuts times)
    → walk_of c (retained c (expect (rules_of c world) cuts times) ++ last_trapped c (boots (rules_of c world) cuts times)) (all_commits (boots (rules_of c world) cuts times) + 1)
    ≡ all_courses c (λ next base. ends (Trapped why)) 1 (declared_store c) (boots (rules_of c world) cuts times)
unfolding walk_of
trap_is_walked c world well cuts times why traps_last =
    boots_trap (rules_of c world) (tasks_told c well) (are_numbered c well) cuts (start c times) (none_hold c (declared_store c) 1) why traps_last
