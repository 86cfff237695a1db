-- In the logs of the rules a seal comes right behind each event whose record must be sealed.
use Rattle.std.specs.Prelude.{◌+◌, ◌*◌, IfSome, map}
use Rattle.std.specs.List.{AllByRecursion}
use Rattle.std.proofs.Common.{◌≡◌, ◌∙◌, ℕ, zero, suc, List, [], ◌∷◌, take, Option, Some, None, Result, Ok, Err, refl, ap}
use Rattle.devices.specs.Journal.{JournalEvent, seals}
use Rattle.task_ast.specs.declared.core_form.Core.{Core}
use Rattle.task_ast.specs.declared.core_form.CoreEnd.{CoreEnd}
use Rattle.task_ast.specs.declared.core_form.CoreExit.{CoreExit, end_of-CoreExit, more_of-CoreExit}
use Rattle.task_ast.specs.declared.core_form.CoreExit.TheVariants as exit
use Rattle.task_ast.specs.declared.core_form.CoreExpr.{CoreExpr}
use Rattle.task_ast.specs.declared.core_form.CoreStmt.{CoreStmt, Row_of-CoreStmt, end_of-CoreStmt, more_of-CoreStmt}
use Rattle.task_ast.specs.declared.core_form.CoreStmt.TheVariants as stmt
use Rattle.task_ast.specs.declared.core_form.CoreTarget.{CoreTarget}
use Rattle.task_ast.specs.declared.core_form.CoreTask.{CoreTask}
use Rattle.io_annot.specs.declared.choice.Choice.{Choice}
use Rattle.io_annot.specs.declared.choice.Choice.TheVariants as choices
use Rattle.io_annot.specs.declared.choice.Mode.{Mode}
use Rattle.io_annot.specs.declared.choice.Mode.TheVariants as mode
use Rattle.io_depend.specs.Depend.{dependents}
use Rattle.region_split.specs.declared.class.DmaClass.{DmaClass}
use Rattle.region_split.specs.declared.class.DmaClass.TheVariants as class
use Rattle.walk_run.specs.Plain.{Ran, chosen, done, plain_done, trapped}
use Rattle.walk_run.specs.PlainSteps.{condition_steps, end_steps, expr_steps, plain_steps, target_steps}
use Rattle.walk_run.specs.Value.{end_place, target_place, value_of, with_room}
use Rattle.walk_run.specs.declared.place.Place.{Place}
use Rattle.walk_run.specs.declared.trap.Trap.{Trap}
use Rattle.task_attempts.specs.Attempts.{attempt_log, body_log, commit, exit_log, row_log, statement_log}
use Rattle.task_attempts.specs.Blocks.{block_log, block_sealed}
use Rattle.task_attempts.specs.Boots.{attempt_if_there, attempts_log, boot_log, boots_from, events_in, expect, left_by, task_of}
use Rattle.task_attempts.specs.Calls.{by_choice, call_log, issue_anew, issued_with, number_of}
use Rattle.task_attempts.specs.Changes.{spent}
use Rattle.task_attempts.specs.Copies.{class_at, copy_again, copy_by_class, copy_by_record, copy_log, copy_valued, moved, shown}
use Rattle.task_attempts.specs.Sound.{is_sealed, to_seal, transfer_sealed, with_site}
use Rattle.task_attempts.specs.State.{Here, Log, Record, Rest, Rules, Setting, Standing, Valued, of_block, of_copy, of_reading, start}
use Rattle.task_attempts.specs.Told.{drop_all, trap, unless_trap}
use Rattle.task_attempts.specs.Values.{branch, copy_end, from_ran, plain_log, put_into, reading_place, tested, value, values}
use Rattle.seal_steps.specs.Soon.{AreSealedNext, SealsNext}

-- behind a site's event whose record must be sealed, the seal comes
seal_next : (k : ℕ) (o : Option ℕ) (es : List JournalEvent) → IfSome (with_site k o) (λ s. SealsNext s.0 (seals k ∷ es))
seal_next k None es = tt
seal_next k (Some n) es = refl

module _ (setting : Setting) where
  abbrev c : Core
  c = setting.rules.core

  abbrev Seals : Log → Type 0
  Seals log = AreSealedNext c (events_in log)

  -- whatever the place is from which a log goes
  abbrev Goes : Rest → Type 0
  Goes go = (here : Here) → Seals (go here)

  -- ---- what is valued

  trap_goes : (why : Trap) → Goes (trap why)
  trap_goes why here = (tt, tt)

  found_goes : {A : Type 0} (r : Result A Trap) (go : A → Rest) → ((x : A) → Goes (go x)) → Goes (unless_trap r go)
  found_goes {A} (Ok x) go goes = goes x
  found_goes {A} (Err why) go goes = trap_goes why

  value_goes : (e : CoreExpr) (go : ℕ → Rest) → ((w : ℕ) → Goes (go w)) → Goes (value e go)
  value_goes e go goes here = found_goes (value_of e here.store) go goes (spent (expr_steps e) here)

  values_goes : (es : List CoreExpr) (go : List ℕ → Rest) → ((ws : List ℕ) → Goes (go ws)) → Goes (values es go)
  values_goes [] go goes = goes []
  values_goes (e ∷ es) go goes = value_goes e (λ word. values es (λ words. go (word ∷ words))) (λ word. values_goes es (λ words. go (word ∷ words)) (λ words. goes (word ∷ words)))

  place_goes : (t : Option CoreTarget) (go : Option Place → Rest) → ((at : Option Place) → Goes (go at)) → Goes (reading_place t go)
  place_goes None go goes here = goes None here
  place_goes (Some t) go goes here = found_goes (target_place t here.store) (λ at. go (Some at)) (λ at. goes (Some at)) (spent (target_steps t) here)

  end_goes : (e : CoreEnd) (go : Place → Rest) → ((at : Place) → Goes (go at)) → Goes (copy_end e go)
  end_goes e go goes here = found_goes (end_place e here.store) go goes (spent (end_steps e) here)

  tested_goes : (at : Place) (n : ℕ) (go : Rest) → Goes go → Goes (tested at n go)
  tested_goes at n go goes here = found_goes (with_room here.store at n) (λ found. go) (λ found. goes) here

  chosen_goes : (word : ℕ) (one two : Rest) → Goes one → Goes two → Goes (chosen word one two)
  chosen_goes zero one two a b = b
  chosen_goes (suc word) one two a b = a

  branch_goes : (e : CoreExpr) (one two : Rest) → Goes one → Goes two → Goes (branch e one two)
  branch_goes e one two a b here = found_goes (value_of e here.store) (λ word. chosen word one two) (λ word. chosen_goes word one two a b) (spent (condition_steps e) here)

  ran_goes : (r : Ran) (go : Rest) → Goes go → Goes (from_ran r go)
  ran_goes (done store) go goes here = goes _
  ran_goes (trapped why store) go goes here = (tt, tt)

  plain_goes : (s : CoreStmt) (go : Rest) → Goes go → Goes (plain_log s go)
  plain_goes s go goes here = ran_goes (plain_done s here.store) go goes (spent (plain_steps s here.store) here)

  -- ---- calls

  drops_goes : (ks : List ℕ) (go : Rest) → Goes go → Goes (drop_all ks go)
  drops_goes [] go goes here = goes here
  drops_goes (k ∷ ks) go goes here = (tt, drops_goes ks go goes _)

  issue_goes : (k p : ℕ) (args : List ℕ) (t : ℕ) (go : ℕ → Rest) → ((w : ℕ) → Goes (go w)) → Goes (issue_anew setting k p args t go)
  issue_goes k p args t go goes here = (tt, drops_goes (dependents setting.task k) _ (λ there. (refl, (tt, goes _ _))) _)

  choice_goes : (k p : ℕ) (made args : List ℕ) (t : ℕ) (go : ℕ → Rest) (x : Choice) → ((w : ℕ) → Goes (go w)) → Goes (by_choice setting k p made args t go x)
  choice_goes k p made args t go (choices.Keep v) goes here = (tt, goes v here)
  choice_goes k p made args t go choices.Issue goes here = issue_goes k p args t go goes here

  call_goes : (k : ℕ) (onto : Option CoreTarget) (q : ℕ) (args : List CoreExpr) (go : Rest) → Goes go → Goes (call_log setting k onto q args go)
  call_goes k onto q args go goes here =
      place_goes onto _ (λ at. values_goes args _ (λ words there. (
        tt,
        choice_goes k (number_of setting q) (issued_with (there.standing.account.records k)) words _ (λ word after. go (put_into at word after)) _ (λ word after. goes _) _,
      ))) _

  -- ---- blocks

  sealed_goes : (k t : ℕ) (inside : Mode) (go : Rest) → Goes go → Goes (block_sealed k t inside go)
  sealed_goes k t mode.Keep go goes here = goes here
  sealed_goes k t mode.Own go goes here = (tt, (tt, goes _))
  sealed_goes k t mode.Force go goes here = (tt, (tt, goes _))

  block_goes : (k : ℕ) (body : Rest → Rest) → ((go : Rest) → Goes go → Goes (body go)) → (go : Rest) → Goes go → Goes (block_log setting k body go)
  block_goes k body all go goes here = (tt, all _ (λ there. sealed_goes k _ _ _ (λ after. goes _) _) _)

  -- ---- copies

  -- a copy whose class leaves no record
  none_next : (k : ℕ) (o : Option ℕ) (es : List JournalEvent) → o ≡ None → IfSome (with_site k o) (λ s. SealsNext s.0 es)
  none_next k None es none = tt
  none_next k (Some n) es none = absurd (cc none)

  open_goes : (k : ℕ) (to from : Place) (n : ℕ) (x : DmaClass) → class_at setting to from ≡ x → ((m : ℕ) → is_sealed x (Some m) ≡ None) → (go : Rest) → Goes go → Goes (moved k to from n go)
  open_goes k to from n x is none go goes here =
      let transferred : transfer_sealed c (shown from) (shown to) n ≡ None = ap (λ y. is_sealed y (Some (32 + 16 * n))) is ∙ none (32 + 16 * n) in
      (none_next k (transfer_sealed c (shown from) (shown to) n) _ transferred, goes _)

  class_goes : (x : DmaClass) (k : ℕ) (to from : Place) (n : ℕ) → class_at setting to from ≡ x → (go : Rest) → Goes go → Goes (copy_by_class x k to from n go)
  class_goes class.Single k to from n is go goes here = (seal_next k (transfer_sealed c (shown from) (shown to) n) [], (tt, goes _))
  class_goes class.Private k to from n is go goes here = (refl, (tt, (tt, goes _)))
  class_goes class.Exclude k to from n is go goes here = open_goes k to from n class.Exclude is (λ m. refl) go goes here
  class_goes class.Always k to from n is go goes here = open_goes k to from n class.Always is (λ m. refl) go goes here

  again_goes : (x : DmaClass) (k : ℕ) (to from : Place) (words : List ℕ) (valued : Valued) (go : Rest) → Goes go → Goes (copy_again x k to from words valued go)
  again_goes class.Single k to from words valued go goes here = (tt, goes _)
  again_goes class.Private k to from words valued go goes here = (tt, goes _)
  again_goes class.Exclude k to from words valued go goes here = (tt, goes _)
  again_goes class.Always k to from words valued go goes here = (tt, goes _)

  record_goes : (k : ℕ) (to from : Place) (n : ℕ) (go : Rest) (r : Option Record) → Goes go → Goes (copy_by_record setting k to from n go r)
  record_goes k to from n go (Some (of_copy x to_then from_then words)) goes here = again_goes x k to_then from_then words (copy_valued here.store to from n) go goes _
  record_goes k to from n go (Some (of_reading v stamp args)) goes here = class_goes (class_at setting to from) k to from n refl go goes _
  record_goes k to from n go (Some (of_block stamp)) goes here = class_goes (class_at setting to from) k to from n refl go goes _
  record_goes k to from n go None goes here = class_goes (class_at setting to from) k to from n refl go goes _

  copy_goes : (k : ℕ) (to from : CoreEnd) (words : CoreExpr) (go : Rest) → Goes go → Goes (copy_log setting k to from words go)
  copy_goes k to from words go goes here =
      end_goes to _ (λ t. end_goes from _ (λ f. value_goes words _ (λ n. tested_goes t n _ (tested_goes f n _ (λ inside. record_goes k t f n go (inside.standing.account.records k) goes _))))) _

  -- ---- an attempt

  mutual
    statement_goes : (s : CoreStmt) (go : Rest) → Goes go → Goes (statement_log setting s go)
    statement_goes (stmt.Assign onto e) go goes = plain_goes (stmt.Assign onto e) go goes
    statement_goes (stmt.Point pointer array i) go goes = plain_goes (stmt.Point pointer array i) go goes
    statement_goes (stmt.If' e m yes_row n no_row) go goes = branch_goes e _ _ (row_goes yes_row go goes) (row_goes no_row go goes)
    statement_goes (stmt.Loop' variable turns m row) go goes = plain_goes (stmt.Loop' variable turns m row) go goes
    statement_goes (stmt.Io k onto q args) go goes = call_goes k onto q args go goes
    statement_goes (stmt.Block' k m row) go goes = block_goes k (row_log setting row) (row_goes row) go goes
    statement_goes (stmt.Copy k to from words) go goes = copy_goes k to from words go goes

    row_goes : {n : _} (row : Row_of-CoreStmt n) (go : Rest) → Goes go → Goes (row_log setting row go)
    row_goes end_of-CoreStmt go goes = goes
    row_goes (more_of-CoreStmt s rest) go goes = statement_goes s (row_log setting rest go) (row_goes rest go goes)

  body_goes : (body : List CoreStmt) (go : Rest) → Goes go → Goes (body_log setting body go)
  body_goes [] go goes = goes
  body_goes (s ∷ rest) go goes = statement_goes s (body_log setting rest go) (body_goes rest go goes)

  exit_goes : (e : CoreExit) (go : ℕ → Rest) → ((t : ℕ) → Goes (go t)) → Goes (exit_log e go)
  exit_goes (exit.Next t) go goes = goes t
  exit_goes exit.Stop go goes = goes 0
  exit_goes (exit.Choose' e u (more_of-CoreExit a end_of-CoreExit) v (more_of-CoreExit b end_of-CoreExit)) go goes = branch_goes e _ _ (exit_goes a go goes) (exit_goes b go goes)

  attempt_goes : (go : Rest) → Goes go → Goes (attempt_log setting go)
  attempt_goes go goes here = (tt, body_goes setting.task.body _ (exit_goes setting.task.exit (commit go) (λ t there. (tt, goes _))) _)

-- ---- boots

abbrev setting_of : Rules → CoreTask → Setting
setting_of rules t = record { rules = rules; task = t }

module _ (rules : Rules) where
  there_goes : (o : Option CoreTask) (go : Rest) → ((here : Here) → AreSealedNext rules.core (events_in (go here))) → (here : Here) → AreSealedNext rules.core (events_in (attempt_if_there rules o go here))
  there_goes None go goes here = tt
  there_goes (Some t) go goes here = attempt_goes (setting_of rules t) go goes here

  attempts_go : (n : ℕ) (here : Here) → AreSealedNext rules.core (events_in (attempts_log rules n here))
  attempts_go zero here = tt
  attempts_go (suc n) here = there_goes (task_of rules.core here.standing.next) (attempts_log rules n) (attempts_go n) here

  -- a front
  front_next : (k n : ℕ) (log : Log) → SealsNext k (events_in log) → SealsNext k (events_in (take n log))
  front_next k zero log next = tt
  front_next k (suc n) [] next = tt
  front_next k (suc n) (l ∷ log) next = next

  front_sealed : (n : ℕ) (log : Log) → AreSealedNext rules.core (events_in log) → AreSealedNext rules.core (events_in (take n log))
  front_sealed zero log next = tt
  front_sealed (suc n) [] next = tt
  front_sealed (suc n) (l ∷ log) next = (by (to_seal rules.core l.event) next.0, front_sealed n log next.1)
    where
      by : (o : Option (ℕ × ℕ)) → IfSome o (λ s. SealsNext s.0 (events_in log)) → IfSome o (λ s. SealsNext s.0 (events_in (take n log)))
      by None next = tt
      by (Some s) next = front_next s.0 n log next

  boots_go : (cuts : List ℕ) (s : Standing) → AllByRecursion (AreSealedNext rules.core) (map events_in (boots_from rules cuts s))
  unfolding boots_from boot_log
  boots_go [] s = tt
  boots_go (cut ∷ cuts) s = (front_sealed cut (boot_log rules cut s) (attempts_go cut _), boots_go cuts (left_by rules cut s))

  pub expected_sealed : (cuts looks : List ℕ) → AllByRecursion (AreSealedNext rules.core) (expect rules cuts looks)
  expected_sealed cuts looks = boots_go cuts (start rules.core looks)
