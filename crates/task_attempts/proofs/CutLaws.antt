-- A cut right behind a commit changes no event: what comes behind a commit is what a boot does from there.
use Rattle.std.proofs.Common.{◌≡◌, ℕ, zero, suc, ◌+◌, ◌≤◌, List, [], ◌∷◌, ◌++◌, map, take, drop, Option, Some, None, refl, sym, ap, subst, ◌∙◌, le_refl, arith}
use Rattle.std.proofs.lemmas.List.{take-map, map-append}
use Rattle.std.proofs.Math.Seq.{take-add}
use Rattle.task_ast.specs.declared.core_form.CoreTask.{CoreTask}
use Rattle.io_annot.specs.declared.choice.Mode.{Mode}
use Rattle.walk_run.specs.Store.{Store}
use Rattle.devices.specs.Journal.{JournalEvent, begins, looks, keeps, drops, issues, seals, copies, commits, traps}
use Rattle.task_attempts.specs.State.{Steps, Rules, Standing, Here, Logged, Log, Rest}
use Rattle.task_attempts.specs.Told.{logged}
use Rattle.task_attempts.specs.Attempts.{commit, committed_by, begun_by}
use Rattle.task_attempts.specs.Boots.{task_of, attempt_if_there, attempts_log, booted, boot_log, after, cut_boot, left_by, boots_from, events_in}
use Rattle.task_attempts.specs.Along.{IsInner, GoesAlong, GoesOver, setting_of}
use Rattle.task_attempts.specs.Laws.{Seen, seen, seen_in, IsCommit, EndsByCommit, first_two_as_one}
use Rattle.task_attempts.proofs.AttemptLaws.{inside_goes, attempt_goes, attempts_go, more_attempts, longer_boot}

-- ---- what is seen doesn't ask how many steps were taken

seen_along : GoesAlong (λ here s a b. seen_in a ≡ seen_in b)
seen_along = record {
  event = λ e inner f here s a b same. ap {B = List Seen} (λ rest. seen (logged e f here) ∷ rest) same;
  trap = λ why here s. refl;
  later = λ a s b t later c d same. same;
}

seen_over : (rules : Rules) → GoesOver rules (λ here s a b. seen_in a ≡ seen_in b)
seen_over rules = record {
  along = seen_along;
  begin = λ t here s a b same. ap {B = List Seen} (λ rest. seen (logged (begins here.standing.next) None (begun_by (setting_of rules t) here)) ∷ rest) same;
  commit = λ next here s a b same. ap {B = List Seen} (λ rest. seen (logged (commits next) None (committed_by next here)) ∷ rest) same;
  end = λ here s. refl;
}

-- a place by its parts
abbrev place_of : Standing → Store → Mode → Steps → Here
place_of standing store mode steps = record { standing = standing; store = store; mode = mode; steps = steps }

-- an attempt begins anew whatever store, mode and steps come before it
seen_if_there : (rules : Rules) (n : ℕ) (t : Option CoreTask) (standing : Standing) (x y : Store) (m k : Mode) (s r : Steps)
    → seen_in (attempt_if_there rules t (attempts_log rules n) (place_of standing x m s)) ≡ seen_in (attempt_if_there rules t (attempts_log rules n) (place_of standing y k r))
seen_if_there rules n None standing x y m k s r = refl
seen_if_there rules n (Some t) standing x y m k s r =
    attempt_goes _ rules (seen_over rules) t (attempts_log rules n) (attempts_log rules n) (attempts_go _ rules (seen_over rules) n) (place_of standing x m s) r

seen_from : (rules : Rules) (n : ℕ) (standing : Standing) (x y : Store) (m k : Mode) (s r : Steps)
    → seen_in (attempts_log rules n (place_of standing x m s)) ≡ seen_in (attempts_log rules n (place_of standing y k r))
seen_from rules zero standing x y m k s r = refl
seen_from rules (suc n) standing x y m k s r = seen_if_there rules n (task_of rules.core standing.next) standing x y m k s r

-- the first events of so many attempts from a place are those of a boot from its standing
seen_as_boot : (rules : Rules) (d n : ℕ) (here : Here) → d ≤ n → seen_in (take d (attempts_log rules n here)) ≡ seen_in (take d (boot_log rules d here.standing))
unfolding boot_log
seen_as_boot rules d n here enough =
    let b = booted rules here.standing in
    let enough_here : seen_in (take d (attempts_log rules n here)) ≡ seen_in (take d (attempts_log rules d here)) = ap seen_in (sym (more_attempts rules d n enough here).same) in
    enough_here ∙ sym (take-map seen d (attempts_log rules d here)) ∙ ap (take d) (seen_from rules d here.standing here.store b.store here.mode b.mode here.steps b.steps) ∙ take-map seen d (attempts_log rules d b)

-- ---- logs that end by a commit

ends_nowhere : (c : ℕ) → EndsByCommit (take c []) → ⊥
ends_nowhere zero ends = ends
ends_nowhere (suc c) ends = ends

-- behind another event the rest ends so
ends_behind : (l : Logged) (log : Log) → (IsCommit l.event → ⊥) → EndsByCommit (l ∷ log) → EndsByCommit log
ends_behind l [] isn't ends = absurd (isn't ends)
ends_behind l (m ∷ log) isn't ends = ends

inner_isn't : (e : JournalEvent) → IsInner e → IsCommit e → ⊥
inner_isn't (begins task) inner is = inner
inner_isn't (commits next) inner is = inner
inner_isn't (traps code) inner is = inner
inner_isn't (looks site time) inner is = is
inner_isn't (keeps site value) inner is = is
inner_isn't (drops site) inner is = is
inner_isn't (issues site p args reading) inner is = is
inner_isn't (seals site) inner is = is
inner_isn't (copies site from to words) inner is = is

-- ---- where nothing is left to do

take_none : (n : ℕ) → take {A = Logged} n [] ≡ []
take_none zero = refl
take_none (suc n) = refl

-- an attempt that gives no event isn't there
none_if_there : (rules : Rules) (t : Option CoreTask) (go : Rest) (here : Here) → attempt_if_there rules t go here ≡ [] → t ≡ None
none_if_there rules None go here none = refl
none_if_there rules (Some t) go here none = absurd (subst {A = Log} (λ log. elim log as (λ l. Type 0) [ [] ↦ ⊥ | _ ∷ _ ↦ Unit {0} ]) none tt)

-- a boot without a next task gives none
idle_boot : (rules : Rules) (d : ℕ) (s : Standing) → task_of rules.core s.next ≡ None → boot_log rules d s ≡ []
unfolding boot_log
idle_boot rules zero s gone = refl
idle_boot rules (suc d) s gone = ap (λ t. attempt_if_there rules t (attempts_log rules d) (booted rules s)) gone

-- where attempts give none from a place, a boot gives none there
no_boot : (rules : Rules) (d n : ℕ) (here : Here) → 1 ≤ n → attempts_log rules n here ≡ [] → boot_log rules d here.standing ≡ []
no_boot rules d zero here some none = absurd (omega arith)
no_boot rules d (suc n) here some none = idle_boot rules d here.standing (none_if_there rules (task_of rules.core here.standing.next) (attempts_log rules n) here none)

-- ---- behind a commit

module _ (rules : Rules) (d : ℕ) where
  -- where the first c events of a log end by a commit, the next d are seen as those of a boot from what these leave
  abbrev GoesOn : (most : ℕ) → Log → Type 0
  GoesOn most log = (s : Standing) (c : ℕ) → c + d ≤ most → EndsByCommit (take c log) → seen_in (take d (drop c log)) ≡ seen_in (take d (boot_log rules d (after s (take c log))))

  -- so it is with one more event in front that is no commit
  on_after : (most : ℕ) (l : Logged) (log : Log) → (IsCommit l.event → ⊥) → GoesOn most log → GoesOn most (l ∷ log)
  on_after most l log isn't on s zero le ends = absurd ends
  on_after most l log isn't on s (suc c) le ends = on l.after c (omega arith) (ends_behind l (take c log) isn't ends)

  on_along : (most : ℕ) → GoesAlong (λ here s a b. GoesOn most a)
  on_along most = record {
    event = λ e inner f here s a b on. on_after most (logged e f here) a (inner_isn't e inner) on;
    trap = λ why here s. on_after most _ [] (λ is. is) (λ s c le ends. absurd (ends_nowhere c ends));
    later = λ a s b t later c d on. on;
  }

  -- a commit with what comes behind it, by what is known of that
  commit_on : (n : ℕ) (l : Logged) (log : Log) → (d ≤ n → seen_in (take d log) ≡ seen_in (take d (boot_log rules d l.after))) → (1 ≤ n → log ≡ [] → boot_log rules d l.after ≡ []) → GoesOn n log → GoesOn (suc n) (l ∷ log)
  commit_on n l log first none on s zero le ends = absurd ends
  commit_on n l log first none on s (suc zero) le ends = first (omega arith)
  commit_on n l [] first none on s (suc (suc c)) le ends = ap (λ log. seen_in (take d log)) (sym (none (omega arith) refl))
  commit_on n l (m ∷ log) first none on s (suc (suc c)) le ends = on l.after (suc c) (omega arith) ends

  attempt_on : (n : ℕ) → ((here : Here) → GoesOn n (attempts_log rules n here)) → (t : Option CoreTask) (here : Here) → GoesOn (suc n) (attempt_if_there rules t (attempts_log rules n) here)
  attempt_on n on None here s c le ends = absurd (ends_nowhere c ends)
  attempt_on n on (Some t) here s c le ends =
      let go = attempts_log rules n in
      on_after (suc n) _ _ (λ is. is) (inside_goes _ (on_along (suc n)) (setting_of rules t) (commit go) (commit go)
      (λ next at s. let behind = committed_by next at in
      commit_on n (logged (commits next) None behind) (go behind) (seen_as_boot rules d n behind) (no_boot rules d n behind) (on behind))
      (begun_by (setting_of rules t) here) (begun_by (setting_of rules t) here).steps) s c le ends

  pub attempts_on : (n : ℕ) (here : Here) → GoesOn n (attempts_log rules n here)
  attempts_on zero here s c le ends = absurd (ends_nowhere c ends)
  attempts_on (suc n) here s c le ends = attempt_on n (attempts_on n) (task_of rules.core here.standing.next) here s c le ends

-- ---- what is seen tells the events and what is left

events_seen : (log : Log) → events_in log ≡ map (λ x. x.event) (seen_in log)
events_seen [] = refl
events_seen (l ∷ log) = ap {B = List JournalEvent} (λ es. l.event ∷ es) (events_seen log)

-- the standing after the last of what is seen
abbrev left_at : Standing → List Seen → Standing
left_at s [] = s
left_at s (x ∷ xs) = left_at x.after xs

after_seen : (s : Standing) (log : Log) → after s log ≡ left_at s (seen_in log)
after_seen s [] = refl
after_seen s (l ∷ log) = after_seen l.after log

left_joined : (s : Standing) (xs ys : List Seen) → left_at s (xs ++ ys) ≡ left_at (left_at s xs) ys
left_joined s [] ys = refl
left_joined s (x ∷ xs) ys = left_joined x.after xs ys

-- ---- the law

-- behind the first events of a boot, where they end by a commit
boot_on : (rules : Rules) (n d c : ℕ) (s : Standing) → c + d ≤ n → EndsByCommit (take c (boot_log rules n s)) → seen_in (take d (drop c (boot_log rules n s))) ≡ seen_in (take d (boot_log rules d (after s (take c (boot_log rules n s)))))
unfolding boot_log
boot_on rules n d c s le ends = attempts_on rules d n (booted rules s) s c le ends

-- a boot that is cut right behind a commit, and the boot behind it, are seen as one
two_boots : (rules : Rules) (s : Standing) (c d : ℕ) → EndsByCommit (cut_boot rules c s) → seen_in (cut_boot rules (c + d) s) ≡ seen_in (cut_boot rules c s) ++ seen_in (cut_boot rules d (left_by rules c s))
two_boots rules s c d ends =
    let whole = boot_log rules (c + d) s in
    let first : take c whole ≡ cut_boot rules c s = longer_boot rules c (c + d) s (omega arith) in
    let behind : seen_in (take d (drop c whole)) ≡ seen_in (cut_boot rules d (after s (take c whole))) = boot_on rules (c + d) d c s (le_refl (c + d)) (subst EndsByCommit (sym first) ends) in
    ap seen_in (take-add c d whole) ∙ map-append seen (take c whole) (take d (drop c whole)) ∙ ap (λ (rest : List Seen). seen_in (take c whole) ++ rest) behind
    ∙ ap (λ front. seen_in front ++ seen_in (cut_boot rules d (after s front))) first

-- so their events are those of one boot
events_of_two : (rules : Rules) (s : Standing) (c d : ℕ) → EndsByCommit (cut_boot rules c s) → events_in (cut_boot rules (c + d) s) ≡ events_in (cut_boot rules c s) ++ events_in (cut_boot rules d (left_by rules c s))
events_of_two rules s c d ends =
    let a = cut_boot rules c s in
    let b = cut_boot rules d (left_by rules c s) in
    events_seen (cut_boot rules (c + d) s) ∙ ap (map (λ x. x.event)) (two_boots rules s c d ends) ∙ map-append (λ x. x.event) (seen_in a) (seen_in b)
    ∙ λ i. sym (events_seen a) i ++ sym (events_seen b) i

-- and so is what they leave
left_by_two : (rules : Rules) (s : Standing) (c d : ℕ) → EndsByCommit (cut_boot rules c s) → left_by rules (c + d) s ≡ left_by rules d (left_by rules c s)
left_by_two rules s c d ends =
    let a = cut_boot rules c s in
    let b = cut_boot rules d (left_by rules c s) in
    after_seen s (cut_boot rules (c + d) s) ∙ ap (left_at s) (two_boots rules s c d ends) ∙ left_joined s (seen_in a) (seen_in b)
    ∙ sym (after_seen (left_at s (seen_in a)) b ∙ refl) ∙ ap (λ x. after x b) (sym (after_seen s a))

-- so the boots with such a cut have the events of those without it
pub cut_behind_commit : (rules : Rules) (s : Standing) (c d : ℕ) (cuts : List ℕ) → EndsByCommit (cut_boot rules c s)
    → map events_in (boots_from rules ((c + d) ∷ cuts) s) ≡ first_two_as_one (map events_in (boots_from rules (c ∷ d ∷ cuts) s))
unfolding boots_from
cut_behind_commit rules s c d cuts ends = λ i. events_of_two rules s c d ends i ∷ map events_in (boots_from rules cuts (left_by_two rules s c d ends i))
