-- Each issue that the rules let a task do is of a peripheral of the program.
use Rattle.std.specs.Prelude.{slice_get}
use Rattle.std.specs.List.{AllByRecursion}
use Rattle.std.proofs.Common.{◌≡◌, ℕ, zero, suc, ◌+◌, ◌<◌, Bool, List, [], ◌∷◌, drop, length, Option, Some, None, Result, Ok, Err, refl, sym, subst, inl, inr, true, false, arith}
use Rattle.task_ast.specs.WellFormed.{AreCoreStmts, IsCoreStmt, IsCoreTask, Scope, scope_of}
use Rattle.task_ast.specs.declared.core_form.Core.{Core}
use Rattle.task_ast.specs.declared.core_form.CoreEnd.{CoreEnd}
use Rattle.task_ast.specs.declared.core_form.CoreExit.{CoreExit, end_of-CoreExit, more_of-CoreExit}
use Rattle.task_ast.specs.declared.core_form.CoreExit.TheVariants as exit
use Rattle.task_ast.specs.declared.core_form.CoreExpr.{CoreExpr}
use Rattle.task_ast.specs.declared.core_form.CoreStmt.{CoreStmt, Row_of-CoreStmt, end_of-CoreStmt, more_of-CoreStmt}
use Rattle.task_ast.specs.declared.core_form.CoreStmt.TheVariants as stmt
use Rattle.task_ast.specs.declared.core_form.CoreTarget.{CoreTarget}
use Rattle.ease_base.specs.declared.place.Peripheral.{Peripheral}
use Rattle.io_annot.specs.Choice.{choice}
use Rattle.io_annot.specs.declared.choice.Choice.{Choice}
use Rattle.io_annot.specs.declared.choice.Choice.TheVariants.{Keep, Issue}
use Rattle.io_annot.specs.declared.choice.Mode.{Mode}
use Rattle.io_annot.specs.declared.choice.Mode.TheVariants as mode
use Rattle.io_depend.specs.Depend.{dependents}
use Rattle.region_split.specs.Regions.{region_of}
use Rattle.region_split.specs.declared.class.DmaClass.{DmaClass}
use Rattle.region_split.specs.declared.class.DmaClass.TheVariants as class
use Rattle.block_scope.specs.Enter.{entered}
use Rattle.walk_run.specs.Plain.{Ran, chosen, done, plain_done, trapped}
use Rattle.walk_run.specs.PlainSteps.{condition_steps, expr_steps, plain_steps}
use Rattle.walk_run.specs.Value.{end_place, target_place, value_of, with_room}
use Rattle.walk_run.specs.declared.place.Place.{Place}
use Rattle.walk_run.specs.declared.trap.Trap.{Trap}
use Rattle.report_text.specs.Events.{HasNumber}
use Rattle.task_attempts.specs.Attempts.{attempt_log, body_log, commit, exit_log, row_log, statement_log}
use Rattle.task_attempts.specs.Blocks.{block_end, block_inside, block_log, block_sealed, stamp_in}
use Rattle.task_attempts.specs.Calls.{annotation, by_choice, call_inside, call_log, issue, issue_anew, issued_with, kept_in, number_of, number_or_none}
use Rattle.task_attempts.specs.Changes.{spent, with_looks, with_mode, with_region}
use Rattle.task_attempts.specs.Costs.{block_steps, call_steps}
use Rattle.task_attempts.specs.Copies.{again, class_at, copy_by_class, copy_by_record, copy_log}
use Rattle.task_attempts.specs.State.{Here, Record, Rest, Setting, of_block, of_copy, of_reading}
use Rattle.task_attempts.specs.Told.{drop_all, look, next_look, seal, unless_trap}
use Rattle.task_attempts.specs.Values.{branch, copy_end, from_ran, plain_log, put_into, reading_place, tested, value, values}
use Rattle.journal_fits.specs.Names.{LogsPeripherals, NamesPeripheral}

-- a peripheral that is there has its number
number_there : (peripherals : List Peripheral) (p : ℕ) → p < length peripherals → HasNumber peripherals (number_or_none (slice_get peripherals p))
number_there [] p low = absurd (omega (arith, low))
number_there (x ∷ peripherals) zero low = inl refl
number_there (x ∷ peripherals) (suc p) low = inr (number_there peripherals p (omega (arith, low)))

module _ (c : Core) where
  -- all issues that come of a place are named
  abbrev Names : Rest → Type 0
  Names go = (here : Here) → LogsPeripherals c (go here)

  found_names : {A : Type 0} (r : Result A Trap) (go : A → Rest) → ((x : A) → Names (go x)) → Names (unless_trap r go)
  found_names (Ok x) go names here = names x here
  found_names (Err why) go names here = (tt, tt)

  drops_name : (ks : List ℕ) (go : Rest) → Names go → Names (drop_all ks go)
  drops_name [] go names here = names here
  drops_name (k ∷ ks) go names here = (tt, drops_name ks go names _)

  look_names : (k : ℕ) (go : ℕ → Rest) → ((t : ℕ) → Names (go t)) → Names (look k go)
  look_names k go names here = (tt, names (next_look here.standing.account.looks) (with_looks (drop 1 here.standing.account.looks) here))

  value_names : (e : CoreExpr) (go : ℕ → Rest) → ((w : ℕ) → Names (go w)) → Names (value e go)
  value_names e go names here = found_names (value_of e here.store) go names (spent (expr_steps e) here)

  values_name : (es : List CoreExpr) (go : List ℕ → Rest) → ((ws : List ℕ) → Names (go ws)) → Names (values es go)
  values_name [] go names = names []
  values_name (e ∷ es) go names = value_names e (λ word. values es (λ words. go (word ∷ words))) (λ w. values_name es (λ words. go (w ∷ words)) (λ ws. names (w ∷ ws)))

  place_names : (onto : Option CoreTarget) (go : Option Place → Rest) → ((at : Option Place) → Names (go at)) → Names (reading_place onto go)
  place_names None go names here = names None here
  place_names (Some t) go names here = found_names (target_place t here.store) (λ at. go (Some at)) (λ at. names (Some at)) _

  chosen_names : (word : ℕ) (a b : Rest) → Names a → Names b → Names (chosen word a b)
  chosen_names zero a b first second = second
  chosen_names (suc n) a b first second = first

  branch_names : (e : CoreExpr) (a b : Rest) → Names a → Names b → Names (branch e a b)
  branch_names e a b first second here = found_names (value_of e here.store) (λ word. chosen word a b) (λ word. chosen_names word a b first second) (spent (condition_steps e) here)

  ran_names : (r : Ran) (go : Rest) → Names go → Names (from_ran r go)
  ran_names (done store) go names here = names _
  ran_names (trapped why store) go names here = (tt, tt)

  plain_names : (s : CoreStmt) (go : Rest) → Names go → Names (plain_log s go)
  plain_names s go names here = ran_names (plain_done s here.store) go names (spent (plain_steps s here.store) here)

  -- ---- calls

  anew_names : (setting : Setting) (k p : ℕ) (args : List ℕ) (t : ℕ) (go : ℕ → Rest) → HasNumber c.peripherals p → ((r : ℕ) → Names (go r)) → Names (issue_anew setting k p args t go)
  anew_names setting k p args t go known names here =
      (tt, drops_name (dependents setting.task k) (issue setting k p args (λ r. seal k (of_reading r t args) (go r))) (λ there. (known, (tt, names _ _))) _)

  choice_names : (setting : Setting) (k p : ℕ) (made_with args : List ℕ) (t : ℕ) (go : ℕ → Rest) (x : Choice) → HasNumber c.peripherals p → ((r : ℕ) → Names (go r)) → Names (by_choice setting k p made_with args t go x)
  choice_names setting k p made_with args t go (Keep v) known names here = (tt, names v here)
  choice_names setting k p made_with args t go Issue known names here = anew_names setting k p args t go known names here

  put_names : (at : Option Place) (word : ℕ) (go : Rest) → Names go → (here : Here) → LogsPeripherals c (go (put_into at word here))
  put_names None word go names here = names here
  put_names (Some at) word go names here = names _

  called_names : (setting : Setting) (k p : ℕ) (at : Option Place) (words : List ℕ) (go : Rest) → HasNumber c.peripherals p → Names go → (t : ℕ) → Names (call_inside setting k p at words go t)
  called_names setting k p at words go known names t inside =
      let r = inside.standing.account.records k in
      choice_names setting k p (issued_with r) words t (λ word after. go (put_into at word after)) (choice inside.mode (annotation setting k) (kept_in r) t) known (λ word. put_names at word go names) inside

  call_names : (setting : Setting) (k : ℕ) (onto : Option CoreTarget) (p : ℕ) (args : List CoreExpr) (go : Rest) → HasNumber c.peripherals (number_of setting p) → Names go → Names (call_log setting k onto p args go)
  call_names setting k onto p args go known names here =
      let number = number_of setting p in
      place_names onto (λ at. values args (λ words. look k (call_inside setting k number at words go)))
      (λ at. values_name args (λ words. look k (call_inside setting k number at words go)) (λ words. look_names k (call_inside setting k number at words go) (called_names setting k number at words go known names)))
      (spent (call_steps setting.task k) here)

  -- ---- blocks

  sealed_names : (k t : ℕ) (inside : Mode) (go : Rest) → Names go → Names (block_sealed k t inside go)
  sealed_names k t mode.Keep go names here = names here
  sealed_names k t mode.Own go names here = (tt, (tt, names _))
  sealed_names k t mode.Force go names here = (tt, (tt, names _))

  end_names : (k t : ℕ) (outside inside : Mode) (go : Rest) → Names go → Names (block_end k t outside inside go)
  end_names k t outside inside go names here = sealed_names k t inside (λ after. go (with_mode outside after)) (λ after. names (with_mode outside after)) _

  block_names : (setting : Setting) (k : ℕ) (body : Rest → Rest) → ((go : Rest) → Names go → Names (body go)) → (go : Rest) → Names go → Names (block_log setting k body go)
  block_names setting k body inner go names here = look_names k (block_inside setting k body go) inside_names (spent block_steps here)
    where
      inside_names : (t : ℕ) (before : Here) → LogsPeripherals c (block_inside setting k body go t before)
      inside_names t before =
          let inside = entered before.mode (annotation setting k) (stamp_in (before.standing.account.records k)) t in
          inner (block_end k t before.mode inside go) (end_names k t before.mode inside go names) (with_mode inside before)

  -- ---- copies

  class_names : (x : DmaClass) (k : ℕ) (to from : Place) (n : ℕ) (go : Rest) → Names go → Names (copy_by_class x k to from n go)
  class_names class.Single k to from n go names here = (tt, (tt, names _))
  class_names class.Private k to from n go names here = (tt, (tt, (tt, names _)))
  class_names class.Exclude k to from n go names here = (tt, names _)
  class_names class.Always k to from n go names here = (tt, names _)

  again_names : (x : DmaClass) (k : ℕ) (to : Place) (n : ℕ) → NamesPeripheral c (again x k to n)
  again_names class.Single k to n = tt
  again_names class.Private k to n = tt
  again_names class.Exclude k to n = tt
  again_names class.Always k to n = tt

  record_names : (setting : Setting) (k : ℕ) (to from : Place) (n : ℕ) (go : Rest) (r : Option Record) → Names go → Names (copy_by_record setting k to from n go r)
  record_names setting k to from n go (Some (of_copy x to_then from_then words)) names here = (again_names x k to_then (length words), names _)
  record_names setting k to from n go (Some (of_reading value stamp args)) names here = class_names (class_at setting to from) k to from n go names _
  record_names setting k to from n go (Some (of_block stamp)) names here = class_names (class_at setting to from) k to from n go names _
  record_names setting k to from n go None names here = class_names (class_at setting to from) k to from n go names _

  copied_names : (e : CoreEnd) (go : Place → Rest) → ((at : Place) → Names (go at)) → Names (copy_end e go)
  copied_names e go names here = found_names (end_place e here.store) go names _

  tested_names : (at : Place) (n : ℕ) (go : Rest) → Names go → Names (tested at n go)
  tested_names at n go names here = found_names (with_room here.store at n) (λ found. go) (λ found. names) here

  copy_names : (setting : Setting) (k : ℕ) (to from : CoreEnd) (words : CoreExpr) (go : Rest) → Names go → Names (copy_log setting k to from words go)
  copy_names setting k to from words go names here =
      copied_names to _ (λ t. copied_names from _ (λ f. value_names words _ (λ n. tested_names t n _ (tested_names f n _
      (λ inside. record_names setting k t f n go (inside.standing.account.records k) names (with_region (region_of setting.task k) inside)))))) _

  -- ---- statements

  -- the peripherals that a scope counts have their numbers
  abbrev Counts : Scope → Setting → Type 0
  Counts scope setting = (p : ℕ) → p < scope.peripherals → HasNumber c.peripherals (number_of setting p)

  mutual
    statement_names : (scope : Scope) (setting : Setting) (level : ℕ) (branched : Bool) (turning : List ℕ) (s : CoreStmt) (go : Rest) → Counts scope setting → IsCoreStmt scope level branched turning s → Names go
        → Names (statement_log setting s go)
    statement_names scope setting level branched turning (stmt.Assign onto e) go counts formed names = plain_names (stmt.Assign onto e) go names
    statement_names scope setting level branched turning (stmt.Point pointer array index) go counts formed names = plain_names (stmt.Point pointer array index) go names
    statement_names scope setting level branched turning (stmt.If' e m yes_row n no_row) go counts formed names =
        branch_names e _ _ (row_names scope setting (1 + level) true turning yes_row go counts formed.2 names) (row_names scope setting (1 + level) true turning no_row go counts formed.3 names)
    statement_names scope setting level branched turning (stmt.Loop' variable turns m row) go counts formed names = plain_names (stmt.Loop' variable turns m row) go names
    statement_names scope setting level branched turning (stmt.Io k onto p args) go counts formed names = call_names setting k onto p args go (counts p formed.2) names
    statement_names scope setting level branched turning (stmt.Block' k m row) go counts formed names =
        block_names setting k (row_log setting row) (λ go names. row_names scope setting (1 + level) branched turning row go counts formed.1 names) go names
    statement_names scope setting level branched turning (stmt.Copy k to from words) go counts formed names = copy_names setting k to from words go names

    row_names : (scope : Scope) (setting : Setting) (level : ℕ) (branched : Bool) (turning : List ℕ) {n : _} (row : Row_of-CoreStmt n) (go : Rest) → Counts scope setting → AreCoreStmts scope level branched turning row → Names go
        → Names (row_log setting row go)
    row_names scope setting level branched turning end_of-CoreStmt go counts formed names = names
    row_names scope setting level branched turning (more_of-CoreStmt s rest) go counts formed names =
        statement_names scope setting level branched turning s (row_log setting rest go) counts formed.0 (row_names scope setting level branched turning rest go counts formed.1 names)

  body_names : (scope : Scope) (setting : Setting) (level : ℕ) (branched : Bool) (turning : List ℕ) (body : List CoreStmt) (go : Rest) → Counts scope setting → AllByRecursion (IsCoreStmt scope level branched turning) body → Names go
      → Names (body_log setting body go)
  body_names scope setting level branched turning [] go counts formed names = names
  body_names scope setting level branched turning (s ∷ rest) go counts formed names =
      statement_names scope setting level branched turning s (body_log setting rest go) counts formed.0 (body_names scope setting level branched turning rest go counts formed.1 names)

  exit_names : (e : CoreExit) (go : ℕ → Rest) → ((t : ℕ) → Names (go t)) → Names (exit_log e go)
  exit_names (exit.Next t) go names = names t
  exit_names exit.Stop go names = names 0
  exit_names (exit.Choose' e u (more_of-CoreExit a end_of-CoreExit) v (more_of-CoreExit b end_of-CoreExit)) go names = branch_names e _ _ (exit_names a go names) (exit_names b go names)

  -- an attempt of a task of the program
  pub attempt_names : (setting : Setting) (go : Rest) → setting.rules.core ≡ c → IsCoreTask c setting.task → Names go → Names (attempt_log setting go)
  attempt_names setting go of formed names here = (
    tt,
    body_names (scope_of c setting.task) setting 1 false [] setting.task.body (exit_log setting.task.exit (commit go))
        (λ p low. subst (λ core. HasNumber c.peripherals (number_or_none (slice_get core.peripherals p))) (sym of) (number_there c.peripherals p low)) formed.body
        (exit_names setting.task.exit (commit go) (λ next there. (tt, names _))) _,
  )
