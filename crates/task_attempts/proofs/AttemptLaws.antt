-- Laws of attempts and boots, each an instance of the one induction.
use Rattle.std.proofs.Common.{◌≡◌, ℕ, zero, suc, ◌≤◌, [], ◌∷◌, take, Option, Some, None, refl, sym, ap, subst, subst₂, ◌∙◌, le-add_right, le_refl, le_trans, arith, take-take, not-suc-le-zero, le_of_suc-le-suc}
use Rattle.task_ast.specs.declared.core_form.CoreTask.{CoreTask}
use Rattle.task_ast.specs.declared.core_form.Core.{Core}
use Rattle.devices.specs.declared.world.World.{World}
use Rattle.devices.specs.Journal.{JournalEvent, begins, looks, keeps, drops, issues, seals, copies, commits, traps}
use Rattle.word_isa.specs.declared.parts.Scheme.{Scheme}
use Rattle.task_attempts.specs.State.{Steps, Rules, Setting, Standing, Here, Logged, Log, Rest, Followed}
use Rattle.task_attempts.specs.Changes.{with_steps}
use Rattle.task_attempts.specs.Costs.{commit_steps}
use Rattle.task_attempts.specs.Told.{logged, trap}
use Rattle.task_attempts.specs.Attempts.{body_log, exit_log, commit, committed_by, begun_by, attempt_log}
use Rattle.task_attempts.specs.Boots.{rules_of, task_of, attempt_if_there, attempts_log, boot_steps, booted, boot_log}
use Rattle.task_attempts.specs.Along.{IsInner, GoesAlong, GoesOver, setting_of, steps_begun, steps_committed}
use Rattle.task_attempts.specs.Laws.{EndsWith, Rises, IsOver, IsWhole, IsCleared, LeaveNoRecord, Stays, AllStay, AreAlike, IsLast, TrapsAreLast}
use Rattle.task_attempts.proofs.AlongLaws.{body_goes, exit_goes}

-- ---- what goes along holds of an attempt, and what goes over holds of a boot

module _ (P : Here → Steps → Log → Log → Type 0) where
  -- the claim holds of two continuations
  abbrev pub Goes : Rest → Rest → Type 0
  Goes go go' = (here : Here) (s : Steps) → P here s (go here) (go' (with_steps s here))

  -- from an attempt's beginning to its commit
  pub inside_goes : GoesAlong P → (setting : Setting) (go go' : ℕ → Rest) → ((t : ℕ) → Goes (go t) (go' t)) → Goes (body_log setting setting.task.body (exit_log setting.task.exit go)) (body_log setting setting.task.body (exit_log setting.task.exit go'))
  inside_goes along setting go go' goes = body_goes P along setting setting.task.body _ _ (exit_goes P along setting.task.exit go go' goes)

  -- an attempt and what comes behind its commit
  pub attempt_goes : (rules : Rules) → GoesOver rules P → (t : CoreTask) (go go' : Rest) → Goes go go' → Goes (attempt_log (setting_of rules t) go) (attempt_log (setting_of rules t) go')
  attempt_goes rules over t go go' goes here s =
      over.begin t here s _ _ (inside_goes over.along (setting_of rules t) (commit go) (commit go')
      (λ next at s. over.commit next at s (go (committed_by next at)) (go' (with_steps (steps_committed s) (committed_by next at))) (goes (committed_by next at) (steps_committed s)))
      (begun_by (setting_of rules t) here) (steps_begun rules t s))

  if_there_goes : (rules : Rules) → GoesOver rules P → (t : Option CoreTask) (go go' : Rest) → Goes go go' → Goes (attempt_if_there rules t go) (attempt_if_there rules t go')
  if_there_goes rules over None go go' goes here s = over.end here s
  if_there_goes rules over (Some t) go go' goes here s = attempt_goes rules over t go go' goes here s

  -- so many attempts
  pub attempts_go : (rules : Rules) → GoesOver rules P → (n : ℕ) → Goes (attempts_log rules n) (attempts_log rules n)
  attempts_go rules over zero here s = over.end here s
  attempts_go rules over (suc n) here s = if_there_goes rules over (task_of rules.core here.standing.next) (attempts_log rules n) (attempts_log rules n) (attempts_go rules over n) here s

-- ---- the steps never fall

rises_from : (scheme : Scheme) (n m : ℕ) (log : Log) → n ≤ m → Rises scheme m log → Rises scheme n log
rises_from scheme n m [] le r = tt
rises_from scheme n m (l ∷ log) le r = (le_trans le r.0, r.1)

rises_along : (scheme : Scheme) → GoesAlong (λ here s a b. Rises scheme (here.steps scheme) a)
rises_along scheme = record {
  event = λ e inner f here s a b r. (le_refl (here.steps scheme), r);
  trap = λ why here s. (le_refl (here.steps scheme), tt);
  later = λ a s b t later c d r. rises_from scheme (a.steps scheme) (b.steps scheme) c (later.steps scheme) r;
}

rises_over : (scheme : Scheme) (rules : Rules) → GoesOver rules (λ here s a b. Rises scheme (here.steps scheme) a)
rises_over scheme rules = record {
  along = rises_along scheme;
  begin = λ t here s a b r. (le-add_right (here.steps scheme) _, r);
  commit = λ next here s a b r. (le-add_right (here.steps scheme) commit_steps, r);
  end = λ here s. tt;
}

-- in a boot
pub boot_rises : (c : Core) (world : World) (scheme : Scheme) (n : ℕ) (s : Standing) → Rises scheme (boot_steps c (task_of c s.next) s.account.furthest scheme) (boot_log (rules_of c world) n s)
unfolding boot_log
boot_rises c world scheme n s = let b = booted (rules_of c world) s in attempts_go _ (rules_of c world) (rises_over scheme (rules_of c world)) n b b.steps

-- ---- an attempt ends by a commit or a trap

over_after : (l : Logged) (log : Log) → EndsWith (λ l. IsOver l.event) log → EndsWith (λ l. IsOver l.event) (l ∷ log)
over_after l [] ends = absurd ends
over_after l (m ∷ log) ends = ends

ends_along : GoesAlong (λ here s a b. EndsWith (λ l. IsOver l.event) a)
ends_along = record {
  event = λ e inner f here s a b ends. over_after (logged e f here) a ends;
  trap = λ why here s. tt;
  later = λ a s b t later c d ends. ends;
}

whole_after : (l : Logged) (log : Log) → EndsWith (λ l. IsOver l.event) log → IsWhole (l ∷ log)
whole_after l [] ends = absurd ends
whole_after l (m ∷ log) ends = record { ends = ends; events = omega arith }

pub attempt_is_whole : (rules : Rules) (t : CoreTask) (here : Here) → IsWhole (attempt_log (setting_of rules t) (λ behind. []) here)
attempt_is_whole rules t here =
    let setting = setting_of rules t in
    let end : Rest = λ behind. [] in
    whole_after _ _ (inside_goes _ ends_along setting (commit end) (commit end) (λ next at s. tt) (begun_by setting here) (begun_by setting here).steps)

-- ---- a commit leaves no record

inner_clears : (e : JournalEvent) (s : Standing) → IsInner e → IsCleared e s
inner_clears (begins task) s inner = absurd inner
inner_clears (commits next) s inner = absurd inner
inner_clears (traps code) s inner = absurd inner
inner_clears (looks site time) s inner = tt
inner_clears (keeps site value) s inner = tt
inner_clears (drops site) s inner = tt
inner_clears (issues site p args reading) s inner = tt
inner_clears (seals site) s inner = tt
inner_clears (copies site from to words) s inner = tt

clear_along : GoesAlong (λ here s a b. LeaveNoRecord a)
clear_along = record {
  event = λ e inner f here s a b clear. (inner_clears e here.standing inner, clear);
  trap = λ why here s. (tt, tt);
  later = λ a s b t later c d clear. clear;
}

clear_over : (rules : Rules) → GoesOver rules (λ here s a b. LeaveNoRecord a)
clear_over rules = record {
  along = clear_along;
  begin = λ t here s a b clear. (tt, clear);
  commit = λ next here s a b clear. (λ k. refl, clear);
  end = λ here s. tt;
}

pub boot_clears : (rules : Rules) (n : ℕ) (s : Standing) → LeaveNoRecord (boot_log rules n s)
unfolding boot_log
boot_clears rules n s = attempts_go _ rules (clear_over rules) n (booted rules s) (booted rules s).steps

-- ---- store and next task are those of the last commit

inner_stays : (e : JournalEvent) (s : Standing) → IsInner e → Stays s.committed s.next e s
inner_stays (begins task) s inner = absurd inner
inner_stays (commits next) s inner = absurd inner
inner_stays (traps code) s inner = absurd inner
inner_stays (looks site time) s inner = (refl, refl)
inner_stays (keeps site value) s inner = (refl, refl)
inner_stays (drops site) s inner = (refl, refl)
inner_stays (issues site p args reading) s inner = (refl, refl)
inner_stays (seals site) s inner = (refl, refl)
inner_stays (copies site from to words) s inner = (refl, refl)

stays_along : GoesAlong (λ here s a b. AllStay here.standing.committed here.standing.next a)
stays_along = record {
  event = λ e inner f here s a b stays. (inner_stays e here.standing inner, stays);
  trap = λ why here s. ((refl, refl), tt);
  later = λ a s b t later c d stays. subst₂ (λ store next. AllStay store next c) later.committed later.next stays;
}

stays_over : (rules : Rules) → GoesOver rules (λ here s a b. AllStay here.standing.committed here.standing.next a)
stays_over rules = record {
  along = stays_along;
  begin = λ t here s a b stays. ((refl, refl), stays);
  commit = λ next here s a b stays. (refl, stays);
  end = λ here s. tt;
}

pub boot_stays : (rules : Rules) (n : ℕ) (s : Standing) → AllStay s.committed s.next (boot_log rules n s)
unfolding boot_log
boot_stays rules n s = attempts_go _ rules (stays_over rules) n (booted rules s) (booted rules s).steps

-- ---- nothing comes behind a trap

inner_isn't_last : (e : JournalEvent) (log : Log) → IsInner e → IsLast e log
inner_isn't_last (begins task) log inner = absurd inner
inner_isn't_last (commits next) log inner = absurd inner
inner_isn't_last (traps code) log inner = absurd inner
inner_isn't_last (looks site time) log inner = tt
inner_isn't_last (keeps site value) log inner = tt
inner_isn't_last (drops site) log inner = tt
inner_isn't_last (issues site p args reading) log inner = tt
inner_isn't_last (seals site) log inner = tt
inner_isn't_last (copies site from to words) log inner = tt

last_along : GoesAlong (λ here s a b. TrapsAreLast a)
last_along = record {
  event = λ e inner f here s a b last. (inner_isn't_last e a inner, last);
  trap = λ why here s. (refl, tt);
  later = λ a s b t later c d last. last;
}

last_over : (rules : Rules) → GoesOver rules (λ here s a b. TrapsAreLast a)
last_over rules = record {
  along = last_along;
  begin = λ t here s a b last. (tt, last);
  commit = λ next here s a b last. (tt, last);
  end = λ here s. tt;
}

pub boot_traps_last : (rules : Rules) (n : ℕ) (s : Standing) → TrapsAreLast (boot_log rules n s)
unfolding boot_log
boot_traps_last rules n s = attempts_go _ rules (last_over rules) n (booted rules s) (booted rules s).steps

-- ---- as many attempts as events are asked for are enough

-- logs with the same first events have the same fewer first events
alike_fewer : (m n : ℕ) (a b : Log) → m ≤ n → AreAlike n a b → AreAlike m a b
alike_fewer m n a b fewer alike = record { same = sym (take-take m n a fewer) ∙ ap (take m) alike.same ∙ take-take m n b fewer }

-- with one more in front they have one more
alike_after : (n : ℕ) (l : Logged) (a b : Log) → AreAlike n a b → AreAlike (suc n) (l ∷ a) (l ∷ b)
alike_after n l a b alike = record { same = ap {B = Log} (λ log. l ∷ log) alike.same }

-- two logs are alike if they begin with the same steps
abbrev AlikeHere : ℕ → Here → Steps → Log → Log → Type 0
AlikeHere n here s a b = s ≡ here.steps → AreAlike n a b

-- so they are with one more event in front
alike_event : (n : ℕ) (e : JournalEvent) (f : Option Followed) (here : Here) (s : Steps) (a b : Log) → AlikeHere n here s a b → AlikeHere (suc n) here s (logged e f here ∷ a) (logged e f (with_steps s here) ∷ b)
alike_event n e f here s a b alike same = subst (λ steps. AreAlike (suc n) (logged e f here ∷ a) (logged e f (with_steps steps here) ∷ b)) (sym same) (alike_after n (logged e f here) a b (alike same))

alike_along : (n : ℕ) → GoesAlong (AlikeHere n)
alike_along n = record {
  event = λ e inner f here s a b alike same. alike_fewer n (suc n) _ _ (omega arith) (alike_event n e f here s a b alike same);
  trap = λ why here s same. record { same = ap (λ steps. take n (trap why (with_steps steps here))) (sym same) };
  later = λ a s b t later c d alike same. alike (later.alike same);
}

-- an attempt has two events before what comes behind its commit
alike_attempts : (n : ℕ) (rules : Rules) (t : Option CoreTask) (go go' : Rest) → ((here : Here) → AreAlike n (go here) (go' here)) → (here : Here) → AreAlike (suc n) (attempt_if_there rules t go here) (attempt_if_there rules t go' here)
alike_attempts n rules None go go' alike here = record { same = refl }
alike_attempts n rules (Some t) go go' alike here =
    alike_fewer (suc n) (suc (suc n)) _ _ (omega arith) (alike_after (suc n) _ _ _
    (inside_goes _ (alike_along (suc n)) (setting_of rules t) (commit go) (commit go')
    (λ next at s same. alike_event n (commits next) None (committed_by next at) (steps_committed s) (go (committed_by next at)) (go' (with_steps (steps_committed s) (committed_by next at)))
    (λ is. subst (λ steps. AreAlike n (go (committed_by next at)) (go' (with_steps steps (committed_by next at)))) (sym is) (alike (committed_by next at)))
    (λ i. steps_committed (same i)))
    (begun_by (setting_of rules t) here) (begun_by (setting_of rules t) here).steps refl))

-- so many attempts, or more, have the same so many first events
pub more_attempts : (rules : Rules) (n m : ℕ) → n ≤ m → (here : Here) → AreAlike n (attempts_log rules n here) (attempts_log rules m here)
more_attempts rules zero m fewer here = record { same = refl }
more_attempts rules (suc n) zero fewer here = absurd (not-suc-le-zero fewer)
more_attempts rules (suc n) (suc m) fewer here =
    alike_attempts n rules (task_of rules.core here.standing.next) (attempts_log rules n) (attempts_log rules m) (more_attempts rules n m (le_of_suc-le-suc fewer)) here

-- a boot has the same first events however long it is reckoned
pub longer_boot : (rules : Rules) (events longer : ℕ) (s : Standing) → events ≤ longer → take events (boot_log rules longer s) ≡ take events (boot_log rules events s)
unfolding boot_log
longer_boot rules events longer s fewer = sym (more_attempts rules events longer fewer (booted rules s)).same
