-- What goes along holds of copies, and so of the log of statements and exits, where it holds of what comes behind them.
use Rattle.std.proofs.Common.{ℕ, List, [], ◌∷◌, length, Option, Some, None, refl}
use Rattle.task_ast.specs.declared.core_form.CoreExpr.{CoreExpr}
use Rattle.task_ast.specs.declared.core_form.CoreEnd.{CoreEnd}
use Rattle.task_ast.specs.declared.core_form.CoreStmt.{CoreStmt, Row_of-CoreStmt, end_of-CoreStmt, more_of-CoreStmt}
use Rattle.task_ast.specs.declared.core_form.CoreStmt.TheVariants as stmt
use Rattle.task_ast.specs.declared.core_form.CoreExit.{CoreExit, end_of-CoreExit, more_of-CoreExit}
use Rattle.task_ast.specs.declared.core_form.CoreExit.TheVariants as exit
use Rattle.region_split.specs.declared.class.DmaClass.{DmaClass}
use Rattle.region_split.specs.declared.class.DmaClass.TheVariants as class
use Rattle.region_split.specs.Regions.{region_of}
use Rattle.walk_run.specs.declared.place.Place.{Place}
use Rattle.walk_run.specs.Value.{end_place, with_room}
use Rattle.walk_run.specs.Walk.{move_words}
use Rattle.walk_run.specs.PlainSteps.{end_steps}
use Rattle.devices.specs.Journal.{keep, copies}
use Rattle.task_attempts.specs.State.{Setting, Valued, range, Record, of_reading, of_block, of_copy, Followed, Here, Log, Rest, Steps}
use Rattle.task_attempts.specs.Changes.{with_steps, spent, spent_by, with_region}
use Rattle.task_attempts.specs.Costs.{copy_steps, moving_steps}
use Rattle.task_attempts.specs.Told.{told, told_following, seal}
use Rattle.task_attempts.specs.Values.{value, copy_end, tested}
use Rattle.task_attempts.specs.Copies.{words_at, put_words, shown, class_at, copy_valued, moved, brought, single_sealed, single_copy, private_copy, copy_by_class, again, copy_again, copy_anew, copy_by_record, copy_log}
use Rattle.task_attempts.specs.Attempts.{statement_log, row_log, body_log, exit_log}
use Rattle.task_attempts.specs.Along.{IsInner, GoesAlong}
use Rattle.task_attempts.proofs.AlongWords.{told_goes, from_alike, from_spent_by, from_spent, found_goes, seal_goes, stored_goes, value_goes, branch_goes, plain_goes, call_goes, block_goes}

module _ (P : Here → Steps → Log → Log → Type 0) (along : GoesAlong P) where
  -- the claim holds of two continuations
  abbrev Goes : Rest → Rest → Type 0
  Goes go go' = (here : Here) (s : Steps) → P here s (go here) (go' (with_steps s here))

  -- ---- copies

  moved_goes : (k : ℕ) (to from : Place) (n : ℕ) (go go' : Rest) → Goes go go' → Goes (moved k to from n go) (moved k to from n go')
  moved_goes k to from n go go' goes here s =
      let event = copies k (shown from) (shown to) n in
      stored_goes P along (move_words n to from here.store) (told event go) (told event go') (told_goes P along event tt go go' goes) here s

  brought_goes : (k : ℕ) (to : Place) (words : List ℕ) (go go' : Rest) → Goes go go' → Goes (brought k to words go) (brought k to words go')
  brought_goes k to words go go' goes here s =
      let event = copies k keep (shown to) (length words) in
      stored_goes P along (put_words to words here.store) (told event go) (told event go') (told_goes P along event tt go go' goes) here s

  private_goes : (k : ℕ) (to from : Place) (n : ℕ) (go go' : Rest) → Goes go go' → Goes (private_copy k to from n go) (private_copy k to from n go')
  private_goes k to from n go go' goes here s =
      let words = words_at here.store from n in
      let r = of_copy class.Private to from words in
      told_goes P along (copies k (shown from) keep n) tt (seal k r (brought k to words go)) (seal k r (brought k to words go'))
      (seal_goes P along k r (brought k to words go) (brought k to words go') (brought_goes k to words go go' goes)) here s

  single_goes : (k : ℕ) (to from : Place) (n : ℕ) (go go' : Rest) → Goes go go' → Goes (single_copy k to from n go) (single_copy k to from n go')
  single_goes k to from n go go' goes =
      moved_goes k to from n (single_sealed k to from n go) (single_sealed k to from n go') (λ here s. seal_goes P along k (of_copy class.Single to from (words_at here.store to n)) go go' goes here s)

  class_goes : (c : DmaClass) (k : ℕ) (to from : Place) (n : ℕ) (go go' : Rest) → Goes go go' → Goes (copy_by_class c k to from n go) (copy_by_class c k to from n go')
  class_goes class.Single k to from n go go' goes = single_goes k to from n go go' goes
  class_goes class.Private k to from n go go' goes = private_goes k to from n go go' goes
  class_goes class.Exclude k to from n go go' goes = moved_goes k to from n go go' goes
  class_goes class.Always k to from n go go' goes = moved_goes k to from n go go' goes

  again_inner : (c : DmaClass) (k : ℕ) (to : Place) (n : ℕ) → IsInner (again c k to n)
  again_inner class.Single k to n = tt
  again_inner class.Private k to n = tt
  again_inner class.Exclude k to n = tt
  again_inner class.Always k to n = tt

  again_goes : (c : DmaClass) (k : ℕ) (to from : Place) (words : List ℕ) (valued : Valued) (go go' : Rest) → Goes go go' → Goes (copy_again c k to from words valued go) (copy_again c k to from words valued go')
  again_goes c k to from words valued go go' goes here s =
      let followed : Followed = record { made_with = range to from words; valued = valued } in
      let event = again c k to (length words) in
      stored_goes P along (put_words to words here.store) (told_following followed event go) (told_following followed event go')
      (λ after s. along.event event (again_inner c k to (length words)) (Some followed) after s (go after) (go' (with_steps s after)) (goes after s)) here s

  copy_anew_goes : (setting : Setting) (k : ℕ) (to from : Place) (n : ℕ) (go go' : Rest) → Goes go go' → Goes (copy_anew setting k to from n go) (copy_anew setting k to from n go')
  copy_anew_goes setting k to from n go go' goes here s = from_spent P along (moving_steps n) here s _ _ (class_goes (class_at setting to from) k to from n go go' goes (spent (moving_steps n) here) _)

  by_record_goes : (setting : Setting) (k : ℕ) (to from : Place) (n : ℕ) (go go' : Rest) (r : Option Record) → Goes go go' → Goes (copy_by_record setting k to from n go r) (copy_by_record setting k to from n go' r)
  by_record_goes setting k to from n go go' (Some (of_copy c to_then from_then words)) goes here s =
      from_spent P along (moving_steps (length words)) here s _ _ (again_goes c k to_then from_then words (copy_valued here.store to from n) go go' goes (spent (moving_steps (length words)) here) _)
  by_record_goes setting k to from n go go' (Some (of_reading value stamp args)) goes here s = copy_anew_goes setting k to from n go go' goes here s
  by_record_goes setting k to from n go go' (Some (of_block stamp)) goes here s = copy_anew_goes setting k to from n go go' goes here s
  by_record_goes setting k to from n go go' None goes here s = copy_anew_goes setting k to from n go go' goes here s

  end_goes : (e : CoreEnd) (go go' : Place → Rest) → ((at : Place) → Goes (go at) (go' at)) → Goes (copy_end e go) (copy_end e go')
  end_goes e go go' goes here s = from_spent P along (end_steps e) here s _ _ (found_goes P along (end_place e here.store) go go' goes (spent (end_steps e) here) _)

  tested_goes : (at : Place) (n : ℕ) (go go' : Rest) → Goes go go' → Goes (tested at n go) (tested at n go')
  tested_goes at n go go' goes here s = found_goes P along (with_room here.store at n) _ _ (λ found. goes) here s

  copy_goes : (setting : Setting) (k : ℕ) (to from : CoreEnd) (words : CoreExpr) (go go' : Rest) → Goes go go' → Goes (copy_log setting k to from words go) (copy_log setting k to from words go')
  copy_goes setting k to from words go go' goes here s =
      from_spent_by P along (copy_steps setting.rules.core setting.task k) here s _ _
      (end_goes to _ _ (λ t. end_goes from _ _ (λ f. value_goes P along words _ _ (λ n. tested_goes t n _ _ (tested_goes f n _ _ (λ inside s.
      from_alike P along inside (with_region (region_of setting.task k) inside) s refl refl refl _ _
      (by_record_goes setting k t f n go go' (inside.standing.account.records k) goes (with_region (region_of setting.task k) inside) s))))))
      (spent_by (copy_steps setting.rules.core setting.task k) here) _)

  -- ---- statements

  mutual
    -- it holds of a statement's log where it holds of what comes behind
    pub statement_goes : (setting : Setting) (statement : CoreStmt) (go go' : Rest) → Goes go go' → Goes (statement_log setting statement go) (statement_log setting statement go')
    statement_goes setting (stmt.Assign onto e) go go' goes = plain_goes P along (stmt.Assign onto e) go go' goes
    statement_goes setting (stmt.Point pointer array index) go go' goes = plain_goes P along (stmt.Point pointer array index) go go' goes
    statement_goes setting (stmt.If' c m yes_row n no_row) go go' goes = branch_goes P along c _ _ _ _ (row_goes setting yes_row go go' goes) (row_goes setting no_row go go' goes)
    statement_goes setting (stmt.Loop' variable turns m row) go go' goes = plain_goes P along (stmt.Loop' variable turns m row) go go' goes
    statement_goes setting (stmt.Io k onto p args) go go' goes = call_goes P along setting k onto p args go go' goes
    statement_goes setting (stmt.Block' k m row) go go' goes = block_goes P along setting k (row_log setting row) (row_goes setting row) go go' goes
    statement_goes setting (stmt.Copy k to from words) go go' goes = copy_goes setting k to from words go go' goes

    -- and of a row's statements, one after another
    row_goes : (setting : Setting) {n : _} (row : Row_of-CoreStmt n) (go go' : Rest) → Goes go go' → Goes (row_log setting row go) (row_log setting row go')
    row_goes setting end_of-CoreStmt go go' goes = goes
    row_goes setting (more_of-CoreStmt s rest) go go' goes = statement_goes setting s (row_log setting rest go) (row_log setting rest go') (row_goes setting rest go go' goes)

  -- of statements, one after another
  pub body_goes : (setting : Setting) (body : List CoreStmt) (go go' : Rest) → Goes go go' → Goes (body_log setting body go) (body_log setting body go')
  body_goes setting [] go go' goes = goes
  body_goes setting (s ∷ rest) go go' goes = statement_goes setting s (body_log setting rest go) (body_log setting rest go') (body_goes setting rest go go' goes)

  -- and of an exit
  pub exit_goes : (e : CoreExit) (go go' : ℕ → Rest) → ((t : ℕ) → Goes (go t) (go' t)) → Goes (exit_log e go) (exit_log e go')
  exit_goes (exit.Next t) go go' goes = goes t
  exit_goes exit.Stop go go' goes = goes 0
  exit_goes (exit.Choose' c u (more_of-CoreExit a end_of-CoreExit) v (more_of-CoreExit b end_of-CoreExit)) go go' goes = branch_goes P along c _ _ _ _ (exit_goes a go go' goes) (exit_goes b go go' goes)
