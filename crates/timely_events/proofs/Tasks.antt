-- In a plan's run a commit alone changes the next task, to the one that its event tells.
use Rattle.std.specs.Prelude.{⊤, cond, map, nat_lt, Option, Some, None}
use Rattle.std.proofs.Common.{◌≡◌, ◌∙◌, ℕ, zero, suc, Bool, true, false, List, [], ◌∷◌, ◌++◌, refl, ap}
use Rattle.devices.specs.Journal.{JournalEvent, traps}
use Rattle.region_split.specs.Regions.{regions}
use Rattle.task_ast.specs.declared.core_form.CoreTask.{CoreTask}
use Rattle.task_ast.specs.declared.core_form.Core.{Core}
use Rattle.task_attempts.specs.Boots.{task_of}
use Rattle.task_attempts.specs.Calls.{site_at}
use Rattle.task_attempts.specs.Copies.{words_at}
use Rattle.walk_run.specs.Plain.{plain_done}
use Rattle.walk_run.specs.PlainWrites.{plain_writes}
use Rattle.walk_run.specs.Value.{value_of}
use Rattle.run_plan.specs.declared.act.Act.{Act, Row_of-Act, end_of-Act, more_of-Act}
use Rattle.run_plan.specs.declared.act.Act.TheVariants as act
use Rattle.run_plan.specs.Cells.{State}
use Rattle.run_plan.specs.Deeds.{act_done, class_now}
use Rattle.run_plan.specs.Finding.{statement_of}
use Rattle.run_plan.specs.Runs.{At, Onward, Planned, Small, Smalls, act_end, act_run, act_steps, acts_run, after, at_event, at_task, attempt_if_there, attempts, boot_run, booted, by_way, deed, doing, if_there, nothing, restoring_if_there, row_run, shown_events, small_steps, straight, with_state}
use Rattle.run_plan.specs.Small.{Atom, Doing, Done, Way, ahead, does, fails, first_way, lock_holds, showing, silent, stuck, third_way, second_way, after_atom, core_of}
use Rattle.run_plan.specs.Words.{first_places, home_writes, kept_at, put_writes, recorded_words}
use Rattle.timely_events.proofs.Quiet.{AllQuiet, Still, begins_states, choose_still, have_still, homes, issue_still, keeps_states, plain_still, quiet_told, restores, saves, seal_still, silent_quiet, task_at, task_told, transfer_still, unless_still, value_still, write_still}

-- ---- what is next, by the events

-- so it is behind each small step
abbrev pub AreTold : (task : ℕ) → Smalls → Type 0
AreTold task [] = ⊤
AreTold task (x ∷ xs) = (x.after.task ≡ task_at x.atom.event task) × AreTold x.after.task xs

one_told : (o : Option JournalEvent) (x : Small) (es : List JournalEvent) (task : ℕ) → task_told es (task_at o task) ≡ task_told (at_event (λ e x. e) o x es) task
one_told None x es task = refl
one_told (Some e) x es task = refl

-- and behind all of them
pub told_after : (xs : Smalls) (s : State) → AreTold s.task xs → (after s xs).task ≡ task_told (shown_events xs) s.task
told_after [] s h = refl
told_after (x ∷ xs) s h = told_after xs x.after h.1 ∙ ap (task_told (shown_events xs)) h.0 ∙ one_told x.atom.event x (shown_events xs) s.task

-- so it is of a front
pub front_tasks : (front rest : Smalls) (task : ℕ) → AreTold task (front ++ rest) → AreTold task front
front_tasks [] rest task h = tt
front_tasks (x ∷ front) rest task h = (h.0, front_tasks front rest x.after.task h.1)

-- ---- runs

-- from everywhere
abbrev Told : Onward → Type 0
Told go = (at : At) → AreTold at.state.task (go at)

steps_told : (c : Core) (a : Act) (atoms : List Atom) (go : Onward) → AllQuiet atoms → Told go → Told (small_steps c a atoms go)
steps_told c a [] go still h at = h at
steps_told c a (x ∷ atoms) go still h at = (quiet_told c x.write x.event at.state still.0.0 still.0.1, steps_told c a atoms go still.1 h (with_state (after_atom c x at.state) at))

trapping : (atoms : List Atom) (code : ℕ) → AllQuiet atoms → AllQuiet (atoms ++ showing (traps code) ∷ [])
trapping [] code h = ((tt, tt), tt)
trapping (x ∷ atoms) code h = (h.0, trapping atoms code h.1)

end_told : (c : Core) (a : Act) (change : State → State) (go : Onward) → ((s : State) → (change s).task ≡ s.task) → Told go → Told (act_end c a change go)
end_told c a change go same h at = (same at.state, h (with_state (change at.state) at))

deed_told : (c : Core) (a : Act) (r : Done) (go : Way → Onward) → Still r → ((way : Way) → Told (go way)) → Told (deed c a r go)
deed_told c a (does atoms change way) go still h at = steps_told c a atoms (act_end c a change (go way)) still.0 (end_told c a change (go way) still.1 (h way)) at
deed_told c a (fails atoms why) go still h at = steps_told c a _ nothing (trapping atoms _ still) (λ at. tt) at
deed_told c a stuck go still h at = tt

steps : (d : Doing) (a : Act) (go : Way → Onward) → ((s : State) → Still (act_done d a s)) → ((way : Way) → Told (go way)) → Told (act_steps d a go)
steps d a go still h at = deed_told (core_of d) a (act_done d a at.state) go (still at.state) h (record at { weights = _ })

ways_told : (one two three behind : Onward) → Told one → Told two → Told three → Told behind → (way : Way) → Told (by_way one two three behind way)
ways_told one two three behind a b c d ahead = d
ways_told one two three behind a b c d first_way = a
ways_told one two three behind a b c d second_way = b
ways_told one two three behind a b c d third_way = c

module _ (d : Doing) (again : Onward) (on : Told again) where
  straight_told : (a : Act) (go : Onward) → ((s : State) → Still (act_done d a s)) → Told go → Told (act_steps d a (straight go))
  straight_told a go still h = steps d a (straight go) still (λ way. h)

  if_told : (b : Bool) (one two : Onward) → Told one → Told two → Told (if_there b one two)
  if_told true one two h g = h
  if_told false one two h g = g

  commit_told : (n : ℕ) → Told (act_steps d (act.Commit n) (straight again))
  commit_told n at = (refl, (refl, on _))

  mutual
    act_told : (a : Act) (go : Onward) → Told go → Told (act_run d again a go)
    act_told (act.Restore r) go h = if_told (nat_lt r (regions d.setting.task)) (act_steps d (act.Restore r) (straight go)) go (straight_told (act.Restore r) go (λ s. (silent_quiet _ (restores s (cond (lock_holds s r) (first_places d r) [])), λ s. refl)) h) h
    act_told (act.Begin t) go h = straight_told (act.Begin t) go (λ s. (((tt, tt), silent_quiet _ (begins_states d.scheme (core_of d) s)), λ s. refl)) h
    act_told (act.Save r) go h = straight_told (act.Save r) go (λ s. (silent_quiet _ (saves s (cond (lock_holds s r) [] (first_places d r))), λ s. refl)) h
    act_told (act.Lock r) go h = straight_told (act.Lock r) go (λ s. (((tt, tt), tt), λ s. refl)) h
    act_told (act.Plain x) go h =
        straight_told (act.Plain x) go (λ s. plain_still (core_of d) (map silent (home_writes (core_of d) (plain_writes x s.store))) (plain_done x s.store) (silent_quiet _ (homes (core_of d) (plain_writes x s.store)))) h
    act_told (act.Test' c m yes_row n no_row) go h =
        steps d (act.Test' c m yes_row n no_row) (by_way (row_run d again yes_row go) (row_run d again no_row go) go go) (λ s. unless_still (value_of c s.store) _ (λ word. (tt, λ s. refl)))
        (ways_told _ _ _ _ (row_told yes_row go h) (row_told no_row go h) h h)
    act_told (act.Value k) go h = straight_told (act.Value k) go (λ s. value_still d.setting (statement_of d k) s) h
    act_told (act.Look k) go h = straight_told (act.Look k) go (λ s. (((tt, tt), tt), λ s. refl)) h
    act_told (act.Choose' k m issue_row n keep_row) go h =
        steps d (act.Choose' k m issue_row n keep_row) (by_way (row_run d again issue_row go) (row_run d again keep_row go) go go) (λ s. choose_still (site_at d.setting.task.sites k) k s)
        (ways_told _ _ _ _ (row_told issue_row go h) (row_told keep_row go h) h h)
    act_told (act.Drop k) go h = straight_told (act.Drop k) go (λ s. (((tt, tt), tt), λ s. refl)) h
    act_told (act.Issue k) go h = straight_told (act.Issue k) go (λ s. issue_still d.setting (statement_of d k) k s) h
    act_told (act.Seal k) go h = straight_told (act.Seal k) go (λ s. seal_still (site_at d.setting.task.sites k) k s) h
    act_told (act.Take k) go h = straight_told (act.Take k) go (λ s. (((tt, tt), tt), λ s. refl)) h
    act_told (act.Write k) go h = straight_told (act.Write k) go (λ s. have_still s.frame.target _ (λ target. write_still (core_of d) target s)) h
    act_told (act.Enter k) go h = straight_told (act.Enter k) go (λ s. have_still s.frame.mode _ (λ m. have_still s.frame.time _ (λ t. (tt, λ s. refl)))) h
    act_told (act.Leave' k m row) go h =
        steps d (act.Leave' k m row) (by_way (row_run d again row go) go go go) (λ s. have_still s.frame.mode _ (λ inside. have_still (s.frame.outer k) _ (λ o. (tt, λ s. refl)))) (ways_told _ _ _ _ (row_told row go h) h h h)
    act_told (act.ByClass' k l single_row m private_row n rest_row) go h =
        steps d (act.ByClass' k l single_row m private_row n rest_row) (by_way (row_run d again single_row go) (row_run d again private_row go) (row_run d again rest_row go) go)
        (λ s. have_still (class_now s k) _ (λ c. (tt, λ s. refl))) (ways_told _ _ _ _ (row_told single_row go h) (row_told private_row go h) (row_told rest_row go h) h)
    act_told (act.Transfer k leg) go h = straight_told (act.Transfer k leg) go (λ s. transfer_still d leg k s) h
    act_told (act.KeepWords k) go h = straight_told (act.KeepWords k) go (λ s. have_still s.frame.copy _ (λ v. (silent_quiet _ (keeps_states (kept_at d k) (words_at s.store v.to v.length)), λ s. refl))) h
    act_told (act.PutWords k) go h = straight_told (act.PutWords k) go (λ s. have_still (s.cells.to k) _ (λ to. (((tt, tt), silent_quiet _ (homes (core_of d) (put_writes to (recorded_words d k s)))), λ s. refl))) h
    act_told (act.Commit n) go h = commit_told n

    row_told : {n : _} (row : Row_of-Act n) (go : Onward) → Told go → Told (row_run d again row go)
    row_told end_of-Act go h = h
    row_told (more_of-Act a rest) go h = act_told a (row_run d again rest go) (row_told rest go h)

  acts_told : (acts : List Act) (go : Onward) → Told go → Told (acts_run d again acts go)
  acts_told [] go h = h
  acts_told (a ∷ acts) go h = act_told a (acts_run d again acts go) (acts_told acts go h)

-- ---- boots

module _ (p : Planned) where
  attempt_told : (again : Onward) → Told again → (number : ℕ) (o : Option CoreTask) → Told (attempt_if_there p again number o)
  attempt_told again on number None at = tt
  attempt_told again on number (Some t) at = acts_told (doing p number t) again on (at_task p.plan.tasks number []) nothing (λ at. tt) at

  attempts_told : (n : ℕ) → Told (attempts p n)
  attempts_told zero at = tt
  attempts_told (suc n) at = attempt_told (attempts p n) (attempts_told n) at.state.task (task_of p.rules.core at.state.task) at

  restoring_told : (behind : Onward) → Told behind → (number : ℕ) (o : Option CoreTask) → Told (restoring_if_there p behind number o)
  restoring_told behind h number None at = tt
  restoring_told behind h number (Some t) at = acts_told (doing p number t) nothing (λ at. tt) p.plan.boot behind h at

  pub boot_tasks : (n : ℕ) (s : State) → AreTold s.task (boot_run p n s)
  unfolding boot_run
  boot_tasks n s = restoring_told (attempts p n) (attempts_told n) s.task (task_of p.rules.core s.task) (booted s)
