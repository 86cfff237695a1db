-- What comes behind a part goes on from the part's own outcome; a statement without sites runs as it does by itself.
use Rattle.std.specs.Prelude.{◌≡◌, ℕ, zero, suc, List, [], ◌∷◌, Option, Some, None, Result, Ok, Err}
use Rattle.std.proofs.Common.{refl}
use Rattle.task_ast.specs.declared.core_form.CoreExpr.{CoreExpr}
use Rattle.task_ast.specs.declared.core_form.CoreTarget.{CoreTarget}
use Rattle.task_ast.specs.declared.core_form.CoreEnd.{CoreEnd}
use Rattle.task_ast.specs.declared.core_form.CoreStmt.{CoreStmt, Row_of-CoreStmt, end_of-CoreStmt, more_of-CoreStmt}
use Rattle.task_ast.specs.declared.core_form.CoreStmt.TheVariants as stmt
use Rattle.task_ast.specs.declared.core_form.CoreExit.{CoreExit, end_of-CoreExit, more_of-CoreExit}
use Rattle.task_ast.specs.declared.core_form.CoreExit.TheVariants as exit
use Rattle.task_ast.specs.declared.core_form.CoreTask.{CoreTask}
use Rattle.task_ast.specs.declared.core_form.Core.{Core}
use Rattle.walk_run.specs.declared.trap.Trap.{Trap}
use Rattle.walk_run.specs.declared.place.Place.{Place}
use Rattle.walk_run.specs.declared.walked.EarlyEnd.{EarlyEnd}
use Rattle.walk_run.specs.Store.{Store, put_word, fresh}
use Rattle.walk_run.specs.Value.{value_of, target_place, end_place, with_room}
use Rattle.walk_run.specs.Plain.{Ran, done, trapped, chosen}
use Rattle.walk_run.specs.Walk.{Onward, move_words, on_found, from_ran, plain_walk, value_walk, branch_walk, each_valued, with_reading, call_walk, end_walk, room_walk, copy_walk, statement_walk, row_walk, body_walk, exit_walk, task_walk}
use Rattle.walk_run.specs.Outcome.{Outcome, ended, halted, from_outcome, statement_outcome, body_outcome, task_outcome}

module _ {A W : Type 0} (halt : EarlyEnd → Store → W) (next : A → Onward W) where
  -- a run is what goes on in this way from another's outcome
  abbrev Continues : Onward W → Onward (Outcome A) → Type 0
  Continues go on = (store : Store) (readings : List ℕ) → go store readings ≡ from_outcome halt (on store readings) next

  found_continues : {X : Type 0} (r : Result X Trap) (go : X → Onward W) (on : X → Onward (Outcome A)) → ((x : X) → Continues (go x) (on x)) → Continues (on_found halt r go) (on_found halted r on)
  found_continues (Ok x) go on h store readings = h x store readings
  found_continues (Err trap) go on h store readings = refl

  ran_continues : (r : Ran) (go : Onward W) (on : Onward (Outcome A)) → Continues go on → (readings : List ℕ) → from_ran halt r go readings ≡ from_outcome halt (from_ran halted r on readings) next
  ran_continues (done store) go on h readings = h store readings
  ran_continues (trapped trap store) go on h readings = refl

  plain_continues : (ran : Store → Ran) (go : Onward W) (on : Onward (Outcome A)) → Continues go on → Continues (plain_walk halt ran go) (plain_walk halted ran on)
  plain_continues ran go on h store readings = ran_continues (ran store) go on h readings

  value_continues : (e : CoreExpr) (go : ℕ → Onward W) (on : ℕ → Onward (Outcome A)) → ((w : ℕ) → Continues (go w) (on w)) → Continues (value_walk halt e go) (value_walk halted e on)
  value_continues e go on h store readings = found_continues (value_of e store) go on h store readings

  chosen_continues : (word : ℕ) (a b : Onward W) (x y : Onward (Outcome A)) → Continues a x → Continues b y → Continues (chosen word a b) (chosen word x y)
  chosen_continues zero a b x y yes_h no_h = no_h
  chosen_continues (suc n) a b x y yes_h no_h = yes_h

  branch_continues : (c : CoreExpr) (a b : Onward W) (x y : Onward (Outcome A)) → Continues a x → Continues b y → Continues (branch_walk halt c a b) (branch_walk halted c x y)
  branch_continues c a b x y yes_h no_h = value_continues c _ _ (λ word. chosen_continues word a b x y yes_h no_h)

  pub values_continue : (es : List CoreExpr) (go : Onward W) (on : Onward (Outcome A)) → Continues go on → Continues (each_valued halt es go) (each_valued halted es on)
  values_continue [] go on h = h
  values_continue (e ∷ es) go on h = value_continues e _ _ (λ word. values_continue es go on h)

  pub reading_continues : (go : ℕ → Onward W) (on : ℕ → Onward (Outcome A)) → ((r : ℕ) → Continues (go r) (on r)) → Continues (with_reading halt go) (with_reading halted on)
  reading_continues go on h store [] = refl
  reading_continues go on h store (r ∷ readings) = h r store readings

  call_continues : (target : Option CoreTarget) (args : List CoreExpr) (go : Onward W) (on : Onward (Outcome A)) → Continues go on → Continues (call_walk halt target args go) (call_walk halted target args on)
  call_continues None args go on h store readings = values_continue args _ _ (reading_continues _ _ (λ r. h)) store readings
  call_continues (Some t) args go on h store readings =
      found_continues (target_place t store) _ _ (λ at. values_continue args _ _ (reading_continues _ _ (λ r after. h (put_word at r after)))) store readings

  end_continues : (e : CoreEnd) (go : Place → Onward W) (on : Place → Onward (Outcome A)) → ((at : Place) → Continues (go at) (on at)) → Continues (end_walk halt e go) (end_walk halted e on)
  end_continues e go on h store readings = found_continues (end_place e store) go on h store readings

  room_continues : (at : Place) (n : ℕ) (go : Onward W) (on : Onward (Outcome A)) → Continues go on → Continues (room_walk halt at n go) (room_walk halted at n on)
  room_continues at n go on h store readings = found_continues (with_room store at n) _ _ (λ _. h) store readings

  copy_continues : (to from : CoreEnd) (words : CoreExpr) (go : Onward W) (on : Onward (Outcome A)) → Continues go on → Continues (copy_walk halt to from words go) (copy_walk halted to from words on)
  copy_continues to from words go on h =
      end_continues to _ _ (λ t. end_continues from _ _ (λ f. value_continues words _ _ (λ n.
      room_continues t n _ _ (room_continues f n _ _ (λ store. h (move_words n t f store))))))

  mutual
    pub statement_continues : (s : CoreStmt) (go : Onward W) (on : Onward (Outcome A)) → Continues go on → Continues (statement_walk halt s go) (statement_walk halted s on)
    statement_continues (stmt.Assign target e) go on h = plain_continues _ go on h
    statement_continues (stmt.Point pointer array index) go on h = plain_continues _ go on h
    statement_continues (stmt.If' c m yes_row n no_row) go on h = branch_continues c _ _ _ _ (row_continues yes_row go on h) (row_continues no_row go on h)
    statement_continues (stmt.Loop' variable turns m row) go on h = plain_continues _ go on h
    statement_continues (stmt.Io site target peripheral args) go on h = call_continues target args go on h
    statement_continues (stmt.Block' site m row) go on h = row_continues row go on h
    statement_continues (stmt.Copy site to from words) go on h = copy_continues to from words go on h

    row_continues : {n : _} (row : Row_of-CoreStmt n) (go : Onward W) (on : Onward (Outcome A)) → Continues go on → Continues (row_walk halt row go) (row_walk halted row on)
    row_continues end_of-CoreStmt go on h = h
    row_continues (more_of-CoreStmt s rest) go on h = statement_continues s _ _ (row_continues rest go on h)

  pub body_continues : (body : List CoreStmt) (go : Onward W) (on : Onward (Outcome A)) → Continues go on → Continues (body_walk halt body go) (body_walk halted body on)
  body_continues [] go on h = h
  body_continues (s ∷ rest) go on h = statement_continues s _ _ (body_continues rest go on h)

  pub exit_continues : (e : CoreExit) (go : ℕ → Onward W) (on : ℕ → Onward (Outcome A)) → ((t : ℕ) → Continues (go t) (on t)) → Continues (exit_walk halt e go) (exit_walk halted e on)
  exit_continues (exit.Next t) go on h = h t
  exit_continues exit.Stop go on h = h 0
  exit_continues (exit.Choose' c u (more_of-CoreExit a end_of-CoreExit) v (more_of-CoreExit b end_of-CoreExit)) go on h =
      branch_continues c _ _ _ _ (exit_continues a go on h) (exit_continues b go on h)

-- what comes behind a statement goes on from its outcome
pub after_statement : {W : Type 0} (halt : EarlyEnd → Store → W) (s : CoreStmt) (go : Onward W) (store : Store) (readings : List ℕ)
    → statement_walk halt s go store readings ≡ from_outcome halt (statement_outcome s store readings) (λ _. go)
after_statement halt s go = statement_continues halt (λ _. go) s go (ended tt) (λ store readings. refl)

-- what comes behind statements goes on from their outcome
pub after_body : {W : Type 0} (halt : EarlyEnd → Store → W) (body : List CoreStmt) (go : Onward W) (store : Store) (readings : List ℕ)
    → body_walk halt body go store readings ≡ from_outcome halt (body_outcome body store readings) (λ _. go)
after_body halt body go = body_continues halt (λ _. go) body go (ended tt) (λ store readings. refl)

-- what comes behind a task goes on from its outcome
pub after_task : {W : Type 0} (halt : EarlyEnd → Store → W) (c : Core) (t : CoreTask) (go : ℕ → Onward W) (store : Store) (readings : List ℕ)
    → task_walk halt c t go store readings ≡ from_outcome halt (task_outcome c t store readings) go
after_task halt c t go store readings =
    body_continues halt go t.body _ _ (exit_continues halt go t.exit go ended (λ next s r. refl)) (fresh c store) readings
