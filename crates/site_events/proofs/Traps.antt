-- A trap of a boot that the rules expect is that of the unbroken run that is fed what the boots up to there retain.
use Rattle.std.proofs.Common.{◌≡◌, ◌∙◌, ℕ, zero, suc, ◌+◌, List, [], ◌∷◌, ◌++◌, length, map, take, refl, sym, ap, subst, arith}
use Rattle.std.specs.Prelude.{⊤, Option, Some, None, flat_map}
use Rattle.std.specs.List.{AllByRecursion}
use Rattle.task_ast.specs.declared.core_form.CoreTask.{CoreTask}
use Rattle.task_ast.specs.declared.core_form.Core.{Core}
use Rattle.walk_run.specs.declared.trap.Trap.{Trap}
use Rattle.walk_run.specs.declared.walked.WalkEnd.TheVariants.{Trapped}
use Rattle.walk_run.specs.declared.walked.Walked.{Walked}
use Rattle.walk_run.specs.Trap.{code_of}
use Rattle.walk_run.specs.Store.{Store, declared_store}
use Rattle.walk_run.specs.Walk.{ends, walk_of}
use Rattle.devices.specs.Journal.{JournalEvent, begins, looks, keeps, drops, issues, seals, copies, commits, traps}
use Rattle.task_attempts.specs.State.{Rules, Standing, Here, Logged, Log, Rest, start}
use Rattle.task_attempts.specs.Attempts.{commit, committed_by, begun_by}
use Rattle.task_attempts.specs.Along.{IsInner, GoesAlong, setting_of}
use Rattle.task_attempts.specs.Boots.{task_of, attempt_if_there, attempts_log, booted, boot_log, after, cut_boot, left_by, boots_from, boots, expect, events_in}
use Rattle.task_attempts.specs.Journals.{idle, retained, trapped_in}
use Rattle.task_attempts.specs.Laws.{Stays, AllStay}
use Rattle.task_attempts.specs.Sound.{next_in, code_in, end_code}
use Rattle.task_attempts.proofs.AttemptLaws.{inside_goes, boot_stays}
use Rattle.attempt_laws.specs.Runs.{EndsByTrap, LastTraps, last_trapped, counted, commits_in, all_commits, course_at, course, all_courses}
use Rattle.run_plan.specs.Sound.{TrapsAreWalked}

-- ---- how a boot's log ends: behind a commit that leads to no task, and behind a trap, nothing comes

abbrev EndAt : JournalEvent → Log → Type 0
EndAt (commits next) log = next ≡ 0 → log ≡ []
EndAt (traps code) log = (log ≡ []) × ((why : Trap) × (code ≡ code_of why))
EndAt e log = ⊤

abbrev WellEnds : Log → Type 0
WellEnds [] = ⊤
WellEnds (l ∷ log) = EndAt l.event log × WellEnds log

inner_ends : (e : JournalEvent) (log : Log) → IsInner e → EndAt e log
inner_ends (begins task) log inner = tt
inner_ends (commits next) log inner = absurd inner
inner_ends (traps code) log inner = absurd inner
inner_ends (looks site time) log inner = tt
inner_ends (keeps site v) log inner = tt
inner_ends (drops site) log inner = tt
inner_ends (issues site p args v) log inner = tt
inner_ends (seals site) log inner = tt
inner_ends (copies site from to n) log inner = tt

ends_along : GoesAlong (λ here s a b. WellEnds a)
ends_along = record {
  event = λ e inner f here s a b all. (inner_ends e a inner, all);
  trap = λ why here s. ((refl, (why, refl)), tt);
  later = λ a s b t later c d all. all;
}

abbrev GoEnds : Rest → Type 0
GoEnds go = (here : Here) → (here.standing.next ≡ 0 → go here ≡ []) × WellEnds (go here)

no_task : (c : Core) (n : ℕ) (t : CoreTask) → task_of c n ≡ Some t → n ≡ 0 → ⊥
no_task c zero t is stopped = cc is
no_task c (suc n) t is stopped = cc stopped

if_there_ends : (rules : Rules) (t : Option CoreTask) (go : Rest) → GoEnds go → (here : Here) → task_of rules.core here.standing.next ≡ t
    → (here.standing.next ≡ 0 → attempt_if_there rules t go here ≡ []) × WellEnds (attempt_if_there rules t go here)
if_there_ends rules None go all here is = (λ stopped. refl, tt)
if_there_ends rules (Some t) go all here is =
    let begun = begun_by (setting_of rules t) here in (
      λ stopped. absurd (no_task rules.core here.standing.next t is stopped),
      (tt, inside_goes _ ends_along (setting_of rules t) (commit go) (commit go) (λ to at s. all (committed_by to at)) begun begun.steps),
    )

attempts_end : (rules : Rules) (n : ℕ) → GoEnds (attempts_log rules n)
attempts_end rules zero here = (λ stopped. refl, tt)
attempts_end rules (suc n) here = if_there_ends rules (task_of rules.core here.standing.next) (attempts_log rules n) (attempts_end rules n) here refl

boot_ends : (rules : Rules) (n : ℕ) (s : Standing) → (s.next ≡ 0 → boot_log rules n s ≡ []) × WellEnds (boot_log rules n s)
unfolding boot_log
boot_ends rules n s = attempts_end rules n (booted rules s)

none_taken : (n : ℕ) (log : Log) → log ≡ [] → take n log ≡ []
none_taken zero log none = refl
none_taken (suc n) log none = ap (take (suc n)) none

end_taken : (e : JournalEvent) (n : ℕ) (log : Log) → EndAt e log → EndAt e (take n log)
end_taken (begins task) n log end = tt
end_taken (commits next) n log end = λ stopped. none_taken n log (end stopped)
end_taken (traps code) n log end = (none_taken n log end.0, end.1)
end_taken (looks site time) n log end = tt
end_taken (keeps site v) n log end = tt
end_taken (drops site) n log end = tt
end_taken (issues site p args v) n log end = tt
end_taken (seals site) n log end = tt
end_taken (copies site from to m) n log end = tt

taken_ends : (n : ℕ) (log : Log) → WellEnds log → WellEnds (take n log)
taken_ends zero log all = tt
taken_ends (suc n) [] all = tt
taken_ends (suc n) (l ∷ log) all = (end_taken l.event n log all.0, taken_ends n log all.1)

taken_stay : (base : Store) (next n : ℕ) (log : Log) → AllStay base next log → AllStay base next (take n log)
taken_stay base next zero log all = tt
taken_stay base next (suc n) [] all = tt
taken_stay base next (suc n) (l ∷ log) all = (all.0, taken_stay l.after.committed l.after.next n log all.1)

-- ---- the end of the unbroken run

-- of an event with others behind it
event_end : (c : Core) (why : Trap) (base : Store) (next : ℕ) (e : JournalEvent) (s : Standing) (log : Log) (w : Walked) → EndAt e log → Stays base next e s → ((after s log).next ≡ 0 → ⊥) → w.end ≡ Trapped why → (course_at c e s w).end ≡ Trapped why
event_end c why base next (begins task) s log w end stays alive is = is
event_end c why base next (commits zero) s log w end stays alive is = absurd (alive (ap (λ log. (after s log).next) (end refl) ∙ stays))
event_end c why base next (commits (suc to)) s log w end stays alive is = is
event_end c why base next (traps code) s log w end stays alive is = is
event_end c why base next (looks site time) s log w end stays alive is = is
event_end c why base next (keeps site v) s log w end stays alive is = is
event_end c why base next (drops site) s log w end stays alive is = is
event_end c why base next (issues site p args v) s log w end stays alive is = is
event_end c why base next (seals site) s log w end stays alive is = is
event_end c why base next (copies site from to n) s log w end stays alive is = is

course_end : (c : Core) (why : Trap) (go : ℕ → Store → Walked) → ((n : ℕ) (b : Store) → (go n b).end ≡ Trapped why) → (s : Standing) (log : Log) (next : ℕ) (base : Store) → WellEnds log → AllStay s.committed s.next log → ((after s log).next ≡ 0 → ⊥)
    → (course c go next base log).end ≡ Trapped why
course_end c why go is s [] next base all stay alive = is next base
course_end c why go is s (l ∷ log) next base all stay alive =
    event_end c why s.committed s.next l.event l.after log (course c go l.after.next l.after.committed log) all.0 stay.0 alive
    (course_end c why go is l.after log l.after.next l.after.committed all.1 stay.1 alive)

-- of a log that ends by a trap
step_end : (c : Core) (why : Trap) (e : JournalEvent) (s : Standing) (m : Logged) (log : Log) (w : Walked) → EndAt e (m ∷ log) → w.end ≡ Trapped why → (course_at c e s w).end ≡ Trapped why
step_end c why (begins task) s m log w end is = is
step_end c why (commits zero) s m log w end is = absurd (let none = end refl in cc none)
step_end c why (commits (suc to)) s m log w end is = is
step_end c why (traps code) s m log w end is = is
step_end c why (looks site time) s m log w end is = is
step_end c why (keeps site v) s m log w end is = is
step_end c why (drops site) s m log w end is = is
step_end c why (issues site p args v) s m log w end is = is
step_end c why (seals site) s m log w end is = is
step_end c why (copies site from to n) s m log w end is = is

trap_end : (c : Core) (why : Trap) (code : ℕ) (next : ℕ) (base : Store) (log : Log) → WellEnds log → EndsByTrap code log → (course c (λ next base. ends (Trapped why)) next base log).end ≡ Trapped why
trap_end c why code next base [] all trapped = absurd trapped
trap_end c why code next base (l ∷ []) all trapped =
    subst (λ e. (course_at c e l.after (ends (Trapped why))).end ≡ Trapped why) (sym trapped) refl
trap_end c why code next base (l ∷ m ∷ log) all trapped =
    step_end c why l.event l.after m log (course c (λ next base. ends (Trapped why)) l.after.next l.after.committed (m ∷ log)) all.0
    (trap_end c why code l.after.next l.after.committed (m ∷ log) all.1 trapped)

-- where no task is next no boot traps
no_trap : (rules : Rules) (why : Trap) (cuts : List ℕ) (s : Standing) → s.next ≡ 0 → LastTraps why (boots_from rules cuts s) → ⊥
unfolding boots_from
no_trap rules why [] s stopped trapped = trapped
no_trap rules why (cut ∷ []) s stopped trapped =
    subst (EndsByTrap (code_of why)) (none_taken cut (boot_log rules cut s) ((boot_ends rules cut s).0 stopped)) trapped
no_trap rules why (cut ∷ next ∷ cuts) s stopped trapped =
    let none = none_taken cut (boot_log rules cut s) ((boot_ends rules cut s).0 stopped) in
    no_trap rules why (next ∷ cuts) (left_by rules cut s) (ap (λ log. (after s log).next) none ∙ stopped) trapped

courses_end : (rules : Rules) (why : Trap) (cuts : List ℕ) (s : Standing) (next : ℕ) (base : Store) → LastTraps why (boots_from rules cuts s)
    → (all_courses rules.core (λ next base. ends (Trapped why)) next base (boots_from rules cuts s)).end ≡ Trapped why
unfolding boots_from
courses_end rules why [] s next base trapped = absurd trapped
courses_end rules why (cut ∷ []) s next base trapped =
    trap_end rules.core why (code_of why) next base (cut_boot rules cut s) (taken_ends cut (boot_log rules cut s) (boot_ends rules cut s).1) trapped
courses_end rules why (cut ∷ more ∷ cuts) s next base trapped =
    let left = left_by rules cut s in
    course_end rules.core why (λ next base. all_courses rules.core (λ next base. ends (Trapped why)) next base (boots_from rules (more ∷ cuts) left))
    (λ n b. courses_end rules why (more ∷ cuts) left n b trapped) s (cut_boot rules cut s) next base
    (taken_ends cut (boot_log rules cut s) (boot_ends rules cut s).1) (taken_stay s.committed s.next cut (boot_log rules cut s) (boot_stays rules cut s))
    (λ stopped. no_trap rules why (more ∷ cuts) left stopped trapped)

-- ---- the last of boots

last_is : (why : Trap) (bs : List Log) (b : Log) → EndsByTrap (code_of why) b → LastTraps why (bs ++ b ∷ [])
last_is why [] b trapped = trapped
last_is why (x ∷ []) b trapped = trapped
last_is why (x ∷ y ∷ bs) b trapped = last_is why (y ∷ bs) b trapped

last_readings : (c : Core) (bs : List Log) (b : Log) → last_trapped c (bs ++ b ∷ []) ≡ trapped_in c idle (events_in b)
last_readings c [] b = refl
last_readings c (x ∷ []) b = refl
last_readings c (x ∷ y ∷ bs) b = last_readings c (y ∷ bs) b

-- ---- how many commits

event_count : (e : JournalEvent) (n : ℕ) (ks : List ℕ) → n ≡ length ks → counted e n ≡ length (next_in e ++ ks)
event_count (begins task) n ks is = is
event_count (commits next) n ks is = ap suc is
event_count (traps code) n ks is = is
event_count (looks site time) n ks is = is
event_count (keeps site v) n ks is = is
event_count (drops site) n ks is = is
event_count (issues site p args v) n ks is = is
event_count (seals site) n ks is = is
event_count (copies site from to m) n ks is = is

log_count : (log : Log) → commits_in log ≡ length (flat_map next_in (events_in log))
log_count [] = refl
log_count (l ∷ log) = event_count l.event (commits_in log) (flat_map next_in (events_in log)) (log_count log)

length_both : (xs ys : List ℕ) → length (xs ++ ys) ≡ length xs + length ys
length_both [] ys = omega arith
length_both (x ∷ xs) ys = let more = length_both xs ys in omega (arith, more)

all_count : (bs : List Log) → all_commits bs ≡ length (flat_map (λ b. flat_map next_in b) (map events_in bs))
all_count [] = refl
all_count (b ∷ bs) =
    (λ i. log_count b i + all_count bs i) ∙ sym (length_both (flat_map next_in (events_in b)) (flat_map (λ b. flat_map next_in b) (map events_in bs)))

-- ---- the codes of a boot

trap_behind : (code : ℕ) (l : Logged) (log : Log) → EndsByTrap code log → EndsByTrap code (l ∷ log)
trap_behind code l [] trapped = absurd trapped
trap_behind code l (m ∷ log) trapped = trapped

code_at : (P : ℕ → Type 0) (e : JournalEvent) (l : Logged) (log : Log) → l.event ≡ e → EndAt e log → ((why : Trap) → EndsByTrap (code_of why) (l ∷ log) → P (code_of why)) → AllByRecursion P (flat_map code_in (events_in log))
    → AllByRecursion P (code_in e ++ flat_map code_in (events_in log))
code_at P (begins task) l log is end each rest = rest
code_at P (commits next) l log is end each rest = rest
code_at P (traps code) l log is end each rest =
    (subst P (sym end.1.1) (each end.1.0 (subst (λ log. EndsByTrap (code_of end.1.0) (l ∷ log)) (sym end.0) (is ∙ ap traps end.1.1))), rest)
code_at P (looks site time) l log is end each rest = rest
code_at P (keeps site v) l log is end each rest = rest
code_at P (drops site) l log is end each rest = rest
code_at P (issues site p args v) l log is end each rest = rest
code_at P (seals site) l log is end each rest = rest
code_at P (copies site from to n) l log is end each rest = rest

codes_all : (P : ℕ → Type 0) (log : Log) → WellEnds log → ((why : Trap) → EndsByTrap (code_of why) log → P (code_of why)) → AllByRecursion P (flat_map code_in (events_in log))
codes_all P [] all each = tt
codes_all P (l ∷ log) all each = code_at P l.event l log refl all.0 each (codes_all P log all.1 (λ why trapped. each why (trap_behind (code_of why) l log trapped)))

-- ---- boots in front of a boot

abbrev standing_after : Rules → (cuts : List ℕ) → Standing → Standing
standing_after rules [] s = s
standing_after rules (cut ∷ cuts) s = standing_after rules cuts (left_by rules cut s)

boots_joined : (rules : Rules) (front : List ℕ) (cut : ℕ) (s : Standing) → boots_from rules (front ++ cut ∷ []) s ≡ boots_from rules front s ++ cut_boot rules cut (standing_after rules front s) ∷ []
unfolding boots_from
boots_joined rules [] cut s = refl
boots_joined rules (n ∷ front) cut s = ap (λ (bs : List Log). cut_boot rules n s ∷ bs) (boots_joined rules front cut (left_by rules n s))

standing_joined : (rules : Rules) (front : List ℕ) (cut : ℕ) (s : Standing) → standing_after rules (front ++ cut ∷ []) s ≡ left_by rules cut (standing_after rules front s)
standing_joined rules [] cut s = refl
standing_joined rules (n ∷ front) cut s = standing_joined rules front cut (left_by rules n s)

map_joined : (bs : List Log) (b : Log) → map events_in (bs ++ b ∷ []) ≡ map events_in bs ++ events_in b ∷ []
map_joined [] b = refl
map_joined (x ∷ bs) b = ap (λ (es : List (List JournalEvent)). events_in x ∷ es) (map_joined bs b)

-- ---- all boots

-- the law on the last boot
abbrev pub LastIsWalked : Rules → Type 0
LastIsWalked rules = (cuts times : List ℕ) (why : Trap) → LastTraps why (boots rules cuts times)
    → walk_of rules.core (retained rules.core (expect rules cuts times) ++ last_trapped rules.core (boots rules cuts times)) (all_commits (boots rules cuts times) + 1)
    ≡ all_courses rules.core (λ next base. ends (Trapped why)) 1 (declared_store rules.core) (boots rules cuts times)

module _ (rules : Rules) (law : LastIsWalked rules) (times : List ℕ) where
  abbrev c : Core
  c = rules.core

  one_walked : (front : List ℕ) (cut : ℕ) → let boot = cut_boot rules cut (standing_after rules front (start c times)) in let so_far = map events_in (boots rules front times) ++ events_in boot ∷ [] in
      AllByRecursion (λ code. end_code (walk_of c (retained c so_far ++ trapped_in c idle (events_in boot)) (length (flat_map (λ b. flat_map next_in b) so_far) + 1)).end ≡ Some code) (flat_map code_in (events_in boot))
  one_walked front cut =
      let s = standing_after rules front (start c times) in
      let boot = cut_boot rules cut s in
      let so_far = map events_in (boots rules front times) ++ events_in boot ∷ [] in
      let cuts = front ++ cut ∷ [] in
      let joined : boots rules cuts times ≡ boots rules front times ++ boot ∷ [] = boots_joined rules front cut (start c times) in
      let events : expect rules cuts times ≡ so_far = ap (map events_in) joined ∙ map_joined (boots rules front times) boot in
      let readings : last_trapped c (boots rules cuts times) ≡ trapped_in c idle (events_in boot) = ap (last_trapped c) joined ∙ last_readings c (boots rules front times) boot in
      let many : all_commits (boots rules cuts times) ≡ length (flat_map (λ b. flat_map next_in b) so_far) =
      all_count (boots rules cuts times) ∙ ap (λ (es : List (List JournalEvent)). length (flat_map (λ b. flat_map next_in b) es)) events in
      codes_all (λ code. end_code (walk_of c (retained c so_far ++ trapped_in c idle (events_in boot)) (length (flat_map (λ b. flat_map next_in b) so_far) + 1)).end ≡ Some code) boot
      (taken_ends cut (boot_log rules cut s) (boot_ends rules cut s).1)
      (λ why trapped.
      let last = subst (LastTraps why) (sym joined) (last_is why (boots rules front times) boot trapped) in
      sym (λ i. end_code (walk_of c (retained c (events i) ++ readings i) (many i + 1)).end)
      ∙ ap (λ (w : Walked). end_code w.end) (law cuts times why last)
      ∙ ap end_code (courses_end rules why cuts (start c times) 1 (declared_store c) last))

  all_walked : (cuts front : List ℕ) → TrapsAreWalked c (map events_in (boots rules front times)) (map events_in (boots_from rules cuts (standing_after rules front (start c times))))
  unfolding boots_from
  all_walked [] front = tt
  all_walked (cut ∷ cuts) front =
      let s = standing_after rules front (start c times) in
      let boot = cut_boot rules cut s in
      let events : expect rules (front ++ cut ∷ []) times ≡ map events_in (boots rules front times) ++ events_in boot ∷ [] =
      ap (map events_in) (boots_joined rules front cut (start c times)) ∙ map_joined (boots rules front times) boot in (
        one_walked front cut,
        subst (λ before. TrapsAreWalked c before (map events_in (boots_from rules cuts (left_by rules cut s)))) events
            (subst (λ st. TrapsAreWalked c (expect rules (front ++ cut ∷ []) times) (map events_in (boots_from rules cuts st))) (standing_joined rules front cut (start c times))
            (all_walked cuts (front ++ cut ∷ []))),
      )

  -- of all boots that the rules expect
  pub traps_walked : (cuts : List ℕ) → TrapsAreWalked c [] (expect rules cuts times)
  unfolding boots_from
  traps_walked cuts = all_walked cuts []
