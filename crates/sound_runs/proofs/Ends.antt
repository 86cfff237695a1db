-- Behind a commit of a plan's run comes the commit's end, which changes nothing, and then an event or nothing.
use Rattle.std.specs.Prelude.{⊤, map, nat_lt, slice_get, slice_index_or, Option, Some, None, Result, Ok, Err}
use Rattle.std.specs.List.{AllByRecursion}
use Rattle.std.proofs.Common.{◌≡◌, ◌∙◌, ℕ, zero, suc, ◌+◌, Bool, true, false, List, [], ◌∷◌, ◌++◌, refl, sym, ap, subst, arith}
use Rattle.devices.specs.declared.world.World.{World}
use Rattle.devices.specs.Journal.{JournalEvent, begins, looks, keeps, drops, issues, seals, copies, commits, traps}
use Rattle.region_split.specs.Regions.{regions}
use Rattle.task_ast.specs.declared.core_form.CoreStmt.{CoreStmt}
use Rattle.task_ast.specs.declared.core_form.CoreStmt.TheVariants as stmt
use Rattle.task_ast.specs.declared.core_form.CoreTask.{CoreTask}
use Rattle.task_ast.specs.declared.core_form.Core.{Core}
use Rattle.task_ast.specs.declared.core_form.Site.{Site}
use Rattle.task_ast.specs.declared.core_form.Site.TheVariants as site
use Rattle.task_attempts.specs.Boots.{task_of}
use Rattle.task_attempts.specs.Calls.{site_at}
use Rattle.task_attempts.specs.State.{Setting}
use Rattle.walk_run.specs.declared.place.Place.{Place}
use Rattle.walk_run.specs.declared.trap.Trap.{Trap}
use Rattle.walk_run.specs.Plain.{Ran, done, plain_done, trapped}
use Rattle.walk_run.specs.PlainWrites.{plain_writes}
use Rattle.walk_run.specs.Value.{value_of}
use Rattle.word_isa.specs.declared.parts.Scheme.{Scheme}
use Rattle.run_plan.specs.declared.act.Act.{Act, Row_of-Act, end_of-Act, more_of-Act}
use Rattle.run_plan.specs.declared.act.Act.TheVariants as act
use Rattle.run_plan.specs.declared.act.Leg.{Leg}
use Rattle.run_plan.specs.declared.act.Leg.TheVariants.{Across, ToKept, FromKept}
use Rattle.run_plan.specs.Cells.{CellWrite, CopyValued, State}
use Rattle.run_plan.specs.Deeds.{act_done, all_values, choose_done, class_now, copy_found, issue_done, plain_ends, seal_done, target_found, transfer_done, value_done, write_done}
use Rattle.run_plan.specs.Finding.{statement_of}
use Rattle.run_plan.specs.PlanOf.{plan_of, task_acts, tasks_acts}
use Rattle.run_plan.specs.Runs.{At, Onward, Planned, Small, Smalls, act_end, act_run, act_steps, acts_run, at_task, attempt_if_there, attempts, boot_run, booted, by_way, deed, doing, if_there, nothing, restoring_if_there, row_run, small_steps, straight, with_state}
use Rattle.run_plan.specs.Small.{Atom, Doing, Done, Way, ahead, does, fails, first_way, have, sets_frame, shown_last, showing, silent, stuck, third_way, second_way, after_atom, core_of, unless_fails}
use Rattle.run_plan.specs.Words.{home_writes}
use Rattle.plan_restore.specs.Kept.{planned}

-- ---- what comes behind commits

-- an event comes first, if anything does
abbrev pub Starts : Smalls → Type 0
Starts [] = ⊤
Starts (x ∷ xs) = x.atom.event ≡ None → ⊥

-- behind a commit comes its end
abbrev pub EndsThere : Small → Smalls → Type 0
EndsThere x [] = ⊤
EndsThere x (y ∷ ys) = (y.after ≡ x.after) × Starts ys

-- a commit leads to its task, and then ends
abbrev pub CommitsTo : Option JournalEvent → Small → Smalls → Type 0
CommitsTo (Some (commits next)) x xs = (x.after.task ≡ next) × EndsThere x xs
CommitsTo e x xs = ⊤

abbrev pub CommitsEnd : Smalls → Type 0
CommitsEnd [] = ⊤
CommitsEnd (x ∷ xs) = CommitsTo x.atom.event x xs × CommitsEnd xs

-- ---- acts that don't commit

abbrev IsNoCommit : Option JournalEvent → Type 0
IsNoCommit (Some (commits next)) = ⊥
IsNoCommit e = ⊤

no_commit : (e : Option JournalEvent) (x : Small) (xs : Smalls) → IsNoCommit e → CommitsTo e x xs
no_commit None x xs h = tt
no_commit (Some (begins t)) x xs h = tt
no_commit (Some (looks k t)) x xs h = tt
no_commit (Some (keeps k value)) x xs h = tt
no_commit (Some (drops k)) x xs h = tt
no_commit (Some (issues k q args reading)) x xs h = tt
no_commit (Some (seals k)) x xs h = tt
no_commit (Some (copies k from to n)) x xs h = tt
no_commit (Some (commits next)) x xs h = absurd h
no_commit (Some (traps code)) x xs h = tt

abbrev NoCommits : List Atom → Type 0
NoCommits atoms = AllByRecursion (λ a. IsNoCommit a.event) atoms

-- nothing that an act does commits
abbrev Still : Done → Type 0
Still (does atoms change way) = NoCommits atoms
Still (fails atoms why) = NoCommits atoms
Still stuck = ⊤

silent_still : (writes : List CellWrite) → NoCommits (map silent writes)
silent_still [] = tt
silent_still (w ∷ writes) = (tt, silent_still writes)

last_still : (writes : List CellWrite) (e : JournalEvent) → IsNoCommit (Some e) → NoCommits (shown_last writes e)
last_still [] e h = (h, tt)
last_still (w ∷ []) e h = (h, tt)
last_still (w ∷ v ∷ writes) e h = (tt, last_still (v ∷ writes) e h)

have_still : {A : Type 0} (o : Option A) (go : A → Done) → ((x : A) → Still (go x)) → Still (have o go)
have_still None go h = tt
have_still (Some x) go h = h x

unless_still : {A : Type 0} (r : Result A Trap) (go : A → Done) → ((x : A) → Still (go x)) → Still (unless_fails r go)
unless_still (Ok x) go h = h x
unless_still (Err why) go h = tt

plain_still : (c : Core) (writes : List CellWrite) (r : Ran) → Still (plain_ends c (map silent writes) r)
plain_still c writes (done store) = silent_still writes
plain_still c writes (trapped why store) = silent_still writes

value_still : (setting : Setting) (o : Option CoreStmt) (s : State) → Still (value_done setting o s)
value_still setting (Some (stmt.Assign x e)) s = tt
value_still setting (Some (stmt.Point q array i)) s = tt
value_still setting (Some (stmt.If' c m yes_row n no_row)) s = tt
value_still setting (Some (stmt.Loop' i turns m row)) s = tt
value_still setting (Some (stmt.Io k target q args)) s =
    unless_still {A = Option Place} (target_found target s.store) (λ at. unless_fails (all_values args s.store) (λ words. sets_frame (record s.frame { target = Some at; args = Some words })))
    (λ at. unless_still {A = List ℕ} (all_values args s.store) (λ words. sets_frame (record s.frame { target = Some at; args = Some words })) (λ words. tt))
value_still setting (Some (stmt.Block' k m row)) s = tt
value_still setting (Some (stmt.Copy k to from words)) s =
    unless_still {A = CopyValued} (copy_found setting to from words s.store) (λ v. sets_frame (record s.frame { copy = Some v })) (λ v. tt)
value_still setting None s = tt

choose_still : (o : Option Site) (k : ℕ) (s : State) → Still (choose_done o k s)
choose_still (Some (site.Io ann)) k s = have_still s.frame.mode _ (λ m. have_still s.frame.time _ (λ t. tt))
choose_still (Some (site.Block ann)) k s = tt
choose_still (Some (site.Copy n)) k s = tt
choose_still None k s = tt

issue_still : (setting : Setting) (o : Option CoreStmt) (k : ℕ) (s : State) → Still (issue_done setting o k s)
issue_still setting (Some (stmt.Assign x e)) k s = tt
issue_still setting (Some (stmt.Point q array i)) k s = tt
issue_still setting (Some (stmt.If' c m yes_row n no_row)) k s = tt
issue_still setting (Some (stmt.Loop' i turns m row)) k s = tt
issue_still setting (Some (stmt.Io i target q args)) k s = have_still s.frame.args _ (λ words. (tt, tt))
issue_still setting (Some (stmt.Block' i m row)) k s = tt
issue_still setting (Some (stmt.Copy i to from n)) k s = tt
issue_still setting None k s = tt

seal_still : (o : Option Site) (k : ℕ) (s : State) → Still (seal_done o k s)
seal_still (Some (site.Io ann)) k s = have_still s.frame.word _ (λ word. have_still s.frame.time _ (λ t. (tt, (tt, (tt, tt)))))
seal_still (Some (site.Block ann)) k s = have_still (s.frame.begun k) _ (λ t. (tt, (tt, tt)))
seal_still (Some (site.Copy n)) k s = have_still s.frame.copy _ (λ v. (tt, (tt, (tt, (tt, (tt, tt))))))
seal_still None k s = tt

write_still : (c : Core) (o : Option Place) (s : State) → Still (write_done c o s)
write_still c None s = tt
write_still c (Some at) s = have_still s.frame.word _ (λ word. silent_still _)

transfer_still : (d : Doing) (leg : Leg) (k : ℕ) (s : State) → Still (transfer_done d leg k s)
transfer_still d Across k s = have_still s.frame.copy _ (λ v. last_still _ _ tt)
transfer_still d ToKept k s = have_still s.frame.copy _ (λ v. last_still _ _ tt)
transfer_still d FromKept k s = have_still (s.cells.to k) _ (λ to. last_still _ _ tt)

-- ---- what comes behind acts

-- from everywhere
abbrev Ends : Onward → Type 0
Ends go = (at : At) → CommitsEnd (go at)

steps_end : (c : Core) (a : Act) (atoms : List Atom) (go : Onward) → NoCommits atoms → Ends go → Ends (small_steps c a atoms go)
steps_end c a [] go still h at = h at
steps_end c a (x ∷ atoms) go still h at = (no_commit x.event _ _ still.0, steps_end c a atoms go still.1 h (with_state (after_atom c x at.state) at))

trapping : (atoms : List Atom) (code : ℕ) → NoCommits atoms → NoCommits (atoms ++ showing (traps code) ∷ [])
trapping [] code h = (tt, tt)
trapping (x ∷ atoms) code h = (h.0, trapping atoms code h.1)

deed_ends : (c : Core) (a : Act) (r : Done) (go : Way → Onward) → Still r → ((way : Way) → Ends (go way)) → Ends (deed c a r go)
deed_ends c a (does atoms change way) go still h at = steps_end c a atoms (act_end c a change (go way)) still (λ at. (tt, h way (with_state (change at.state) at))) at
deed_ends c a (fails atoms why) go still h at = steps_end c a _ nothing (trapping atoms _ still) (λ at. tt) at
deed_ends c a stuck go still h at = tt

steps : (d : Doing) (a : Act) (go : Way → Onward) → ((s : State) → Still (act_done d a s)) → ((way : Way) → Ends (go way)) → Ends (act_steps d a go)
steps d a go still h at = deed_ends (core_of d) a (act_done d a at.state) go (still at.state) h (record at { weights = _ })

ways_end : (one two three behind : Onward) → Ends one → Ends two → Ends three → Ends behind → (way : Way) → Ends (by_way one two three behind way)
ways_end one two three behind a b c d ahead = d
ways_end one two three behind a b c d first_way = a
ways_end one two three behind a b c d second_way = b
ways_end one two three behind a b c d third_way = c

module _ (d : Doing) (again : Onward) (on : (at : At) → CommitsEnd (again at) × Starts (again at)) where
  straight_ends : (a : Act) (go : Onward) → ((s : State) → Still (act_done d a s)) → Ends go → Ends (act_steps d a (straight go))
  straight_ends a go still h = steps d a (straight go) still (λ way. h)

  if_ends : (b : Bool) (one two : Onward) → Ends one → Ends two → Ends (if_there b one two)
  if_ends true one two h g = h
  if_ends false one two h g = g

  -- a commit is behind its write, and then comes its end, which leaves all as it is
  commit_ends : (n : ℕ) → Ends (act_steps d (act.Commit n) (straight again))
  commit_ends n at = ((refl, (refl, (on _).1)), (tt, (on _).0))

  mutual
    act_ends : (a : Act) (go : Onward) → Ends go → Ends (act_run d again a go)
    act_ends (act.Restore r) go h = if_ends (nat_lt r (regions d.setting.task)) (act_steps d (act.Restore r) (straight go)) go (straight_ends (act.Restore r) go (λ s. silent_still _) h) h
    act_ends (act.Begin t) go h = straight_ends (act.Begin t) go (λ s. (tt, silent_still _)) h
    act_ends (act.Save r) go h = straight_ends (act.Save r) go (λ s. silent_still _) h
    act_ends (act.Lock r) go h = straight_ends (act.Lock r) go (λ s. (tt, tt)) h
    act_ends (act.Plain x) go h = straight_ends (act.Plain x) go (λ s. plain_still (core_of d) (home_writes (core_of d) (plain_writes x s.store)) (plain_done x s.store)) h
    act_ends (act.Test' c m yes_row n no_row) go h =
        steps d (act.Test' c m yes_row n no_row) (by_way (row_run d again yes_row go) (row_run d again no_row go) go go) (λ s. unless_still (value_of c s.store) _ (λ word. tt))
        (ways_end _ _ _ _ (row_ends yes_row go h) (row_ends no_row go h) h h)
    act_ends (act.Value k) go h = straight_ends (act.Value k) go (λ s. value_still d.setting (statement_of d k) s) h
    act_ends (act.Look k) go h = straight_ends (act.Look k) go (λ s. (tt, tt)) h
    act_ends (act.Choose' k m issue_row n keep_row) go h =
        steps d (act.Choose' k m issue_row n keep_row) (by_way (row_run d again issue_row go) (row_run d again keep_row go) go go) (λ s. choose_still (site_at d.setting.task.sites k) k s)
        (ways_end _ _ _ _ (row_ends issue_row go h) (row_ends keep_row go h) h h)
    act_ends (act.Drop k) go h = straight_ends (act.Drop k) go (λ s. (tt, tt)) h
    act_ends (act.Issue k) go h = straight_ends (act.Issue k) go (λ s. issue_still d.setting (statement_of d k) k s) h
    act_ends (act.Seal k) go h = straight_ends (act.Seal k) go (λ s. seal_still (site_at d.setting.task.sites k) k s) h
    act_ends (act.Take k) go h = straight_ends (act.Take k) go (λ s. (tt, tt)) h
    act_ends (act.Write k) go h = straight_ends (act.Write k) go (λ s. have_still s.frame.target _ (λ target. write_still (core_of d) target s)) h
    act_ends (act.Enter k) go h = straight_ends (act.Enter k) go (λ s. have_still s.frame.mode _ (λ m. have_still s.frame.time _ (λ t. tt))) h
    act_ends (act.Leave' k m row) go h =
        steps d (act.Leave' k m row) (by_way (row_run d again row go) go go go) (λ s. have_still s.frame.mode _ (λ inside. have_still (s.frame.outer k) _ (λ o. tt))) (ways_end _ _ _ _ (row_ends row go h) h h h)
    act_ends (act.ByClass' k l single_row m private_row n rest_row) go h =
        steps d (act.ByClass' k l single_row m private_row n rest_row) (by_way (row_run d again single_row go) (row_run d again private_row go) (row_run d again rest_row go) go) (λ s. have_still (class_now s k) _ (λ c. tt))
        (ways_end _ _ _ _ (row_ends single_row go h) (row_ends private_row go h) (row_ends rest_row go h) h)
    act_ends (act.Transfer k leg) go h = straight_ends (act.Transfer k leg) go (λ s. transfer_still d leg k s) h
    act_ends (act.KeepWords k) go h = straight_ends (act.KeepWords k) go (λ s. have_still s.frame.copy _ (λ v. silent_still _)) h
    act_ends (act.PutWords k) go h = straight_ends (act.PutWords k) go (λ s. have_still (s.cells.to k) _ (λ to. (tt, silent_still _))) h
    act_ends (act.Commit n) go h = commit_ends n

    row_ends : {n : _} (row : Row_of-Act n) (go : Onward) → Ends go → Ends (row_run d again row go)
    row_ends end_of-Act go h = h
    row_ends (more_of-Act a rest) go h = act_ends a (row_run d again rest go) (row_ends rest go h)

  acts_end : (acts : List Act) (go : Onward) → Ends go → Ends (acts_run d again acts go)
  acts_end [] go h = h
  acts_end (a ∷ acts) go h = act_ends a (acts_run d again acts go) (acts_end acts go h)

-- ---- boots

-- the acts of the task of a number
acts_there : (scheme : Scheme) (from : ℕ) (ts : List CoreTask) (n : ℕ) (t : CoreTask) → slice_get ts n ≡ Some t → slice_index_or (tasks_acts scheme from ts) n [] ≡ task_acts scheme (from + n) t
acts_there scheme from [] n t is = absurd (cc is)
acts_there scheme from (y ∷ ts) zero t is =
    let same : y ≡ t = cc is in
    let e0 : from ≡ from + 0 = omega arith in
    λ i. task_acts scheme (e0 i) (same i)
acts_there scheme from (y ∷ ts) (suc n) t is =
    let e0 : from + 1 + n ≡ from + suc n = omega arith in
    acts_there scheme (from + 1) ts n t is ∙ ap (λ k. task_acts scheme k t) e0

module _ (c : Core) (world : World) (scheme : Scheme) where
  abbrev x : Planned
  x = planned c world scheme

  -- an attempt shows first that it begins
  task_starts : (number : ℕ) (t : CoreTask) (again : Onward) (at : At) → Starts (acts_run (doing x number t) again (task_acts scheme number t) nothing at)
  task_starts number t again at is = cc

  number_starts : (number : ℕ) (o : Option CoreTask) → task_of c number ≡ o → (again : Onward) (at : At) → Starts (attempt_if_there x again number o at)
  number_starts number None there again at = tt
  number_starts zero (Some t) there again at = absurd (cc there)
  number_starts (suc n) (Some t) there again at =
      let e0 : 1 + n ≡ suc n = omega arith in
      let acts : at_task (plan_of c scheme).tasks (suc n) [] ≡ task_acts scheme (suc n) t = acts_there scheme 1 c.tasks n t there ∙ ap (λ k. task_acts scheme k t) e0 in
      subst (λ row. Starts (acts_run (doing x (suc n) t) again row nothing at)) (sym acts) (task_starts (suc n) t again at)

  attempt_ends : (again : Onward) → ((at : At) → CommitsEnd (again at) × Starts (again at)) → (number : ℕ) (o : Option CoreTask) → Ends (attempt_if_there x again number o)
  attempt_ends again on number None at = tt
  attempt_ends again on number (Some t) at = acts_end (doing x number t) again on (at_task x.plan.tasks number []) nothing (λ at. tt) at

  attempts_end : (n : ℕ) (at : At) → CommitsEnd (attempts x n at) × Starts (attempts x n at)
  attempts_end zero at = (tt, tt)
  attempts_end (suc n) at =
      (attempt_ends (attempts x n) (attempts_end n) at.state.task (task_of c at.state.task) at, number_starts at.state.task (task_of c at.state.task) refl (attempts x n) at)

  restoring_ends : (behind : Onward) → Ends behind → (number : ℕ) (o : Option CoreTask) → Ends (restoring_if_there x behind number o)
  restoring_ends behind h number None at = tt
  restoring_ends behind h number (Some t) at = acts_end (doing x number t) nothing (λ at. (tt, tt)) x.plan.boot behind h at

  pub boot_ends : (n : ℕ) (s : State) → CommitsEnd (boot_run x n s)
  unfolding boot_run
  boot_ends n s = restoring_ends (attempts x n) (λ at. (attempts_end n at).0) s.task (task_of c s.task) (booted s)
