-- What goes along holds of each word of an attempt where it holds of what comes behind: of events, values, calls and blocks.
use Rattle.std.proofs.Common.{◌≡◌, ℕ, zero, suc, ◌+◌, ◌≤◌, List, [], ◌∷◌, Option, Some, None, Result, Ok, Err, refl, sym, ◌∙◌, subst, le-add_right, le_refl}
use Rattle.task_ast.specs.declared.core_form.CoreExpr.{CoreExpr}
use Rattle.task_ast.specs.declared.core_form.CoreTarget.{CoreTarget}
use Rattle.task_ast.specs.declared.core_form.CoreStmt.{CoreStmt}
use Rattle.io_annot.specs.declared.choice.Mode.{Mode}
use Rattle.io_annot.specs.declared.choice.Mode.TheVariants as mode
use Rattle.io_annot.specs.declared.choice.Choice.{Choice}
use Rattle.io_annot.specs.declared.choice.Choice.TheVariants.{Keep, Issue}
use Rattle.io_annot.specs.Choice.{choice}
use Rattle.block_scope.specs.Enter.{entered}
use Rattle.io_depend.specs.Depend.{dependents}
use Rattle.walk_run.specs.declared.trap.Trap.{Trap}
use Rattle.walk_run.specs.declared.place.Place.{Place}
use Rattle.walk_run.specs.Store.{Store, put_word}
use Rattle.walk_run.specs.Value.{value_of, target_place}
use Rattle.walk_run.specs.Plain.{Ran, done, trapped, chosen, plain_done}
use Rattle.walk_run.specs.PlainSteps.{expr_steps, target_steps, condition_steps, plain_steps}
use Rattle.devices.specs.Journal.{JournalEvent, looks, keeps, drops, issues, seals}
use Rattle.task_attempts.specs.State.{Setting, arguments, Record, of_reading, of_block, Here, Log, Rest, Steps}
use Rattle.task_attempts.specs.Changes.{with_store, with_mode, with_steps, spent, spent_by, with_record, with_looks, with_issue}
use Rattle.task_attempts.specs.Costs.{call_steps, block_steps}
use Rattle.task_attempts.specs.Told.{told, unless_trap, drop_one, drop_all, seal, look}
use Rattle.task_attempts.specs.Values.{value, values, reading_place, put_into, branch, from_ran, plain_log}
use Rattle.task_attempts.specs.Calls.{annotation, number_of, issue, issue_anew, kept_in, issued_with, by_choice, by_record, call_inside, call_log}
use Rattle.task_attempts.specs.Blocks.{stamp_in, block_sealed, block_end, block_inside, block_log}
use Rattle.task_attempts.specs.Along.{IsInner, IsLater, GoesAlong}

-- a place with nothing new that counts is later
alike : (a b : Here) (s : Steps) → b.standing.committed ≡ a.standing.committed → b.standing.next ≡ a.standing.next → b.steps ≡ a.steps → IsLater a s b s
alike a b s c n same = record {
  committed = c;
  next = n;
  steps = λ scheme. subst (λ steps. a.steps scheme ≤ steps scheme) (sym same) (le_refl (a.steps scheme));
  alike = λ is. is ∙ sym same;
}

-- other steps with so many more
abbrev more : Steps → Steps → Steps
more n s = λ scheme. s scheme + n scheme

-- a place with more steps is later
spent_later : (n : Steps) (here : Here) (s : Steps) → IsLater here s (spent_by n here) (more n s)
spent_later n here s = record { committed = refl; next = refl; steps = λ scheme. le-add_right (here.steps scheme) (n scheme); alike = λ is. λ i. more n (is i) }

module _ (P : Here → Steps → Log → Log → Type 0) (along : GoesAlong P) where
  -- the claim holds of two continuations
  abbrev Goes : Rest → Rest → Type 0
  Goes go go' = (here : Here) (s : Steps) → P here s (go here) (go' (with_steps s here))

  pub told_goes : (e : JournalEvent) → IsInner e → (go go' : Rest) → Goes go go' → Goes (told e go) (told e go')
  told_goes e inner go go' goes here s = along.event e inner None here s (go here) (go' (with_steps s here)) (goes here s)

  -- from a place with something new that doesn't count
  pub from_alike : (here new : Here) (s : Steps) → new.standing.committed ≡ here.standing.committed → new.standing.next ≡ here.standing.next → new.steps ≡ here.steps → (a b : Log) → P new s a b → P here s a b
  from_alike here new s c n same a b p = along.later here s new s (alike here new s c n same) a b p

  pub from_spent_by : (n : Steps) (here : Here) (s : Steps) (a b : Log) → P (spent_by n here) (more n s) a b → P here s a b
  from_spent_by n here s a b p = along.later here s (spent_by n here) (more n s) (spent_later n here s) a b p

  pub from_spent : (n : ℕ) (here : Here) (s : Steps) (a b : Log) → P (spent n here) (more (λ scheme. n) s) a b → P here s a b
  from_spent n here s a b p = from_spent_by (λ scheme. n) here s a b p

  -- ---- events

  pub found_goes : {A : Type 0} (r : Result A Trap) (go go' : A → Rest) → ((x : A) → Goes (go x) (go' x)) → Goes (unless_trap r go) (unless_trap r go')
  found_goes (Ok x) go go' goes here s = goes x here s
  found_goes (Err why) go go' goes here s = along.trap why here s

  drop_goes : (k : ℕ) (go go' : Rest) → Goes go go' → Goes (drop_one k go) (drop_one k go')
  drop_goes k go go' goes here s = from_alike here (with_record k None here) s refl refl refl _ _ (told_goes (drops k) tt go go' goes (with_record k None here) s)

  drops_go : (ks : List ℕ) (go go' : Rest) → Goes go go' → Goes (drop_all ks go) (drop_all ks go')
  drops_go [] go go' goes = goes
  drops_go (k ∷ ks) go go' goes = drop_goes k (drop_all ks go) (drop_all ks go') (drops_go ks go go' goes)

  pub seal_goes : (k : ℕ) (r : Record) (go go' : Rest) → Goes go go' → Goes (seal k r go) (seal k r go')
  seal_goes k r go go' goes here s = from_alike here (with_record k (Some r) here) s refl refl refl _ _ (told_goes (seals k) tt go go' goes (with_record k (Some r) here) s)

  look_goes : (k : ℕ) (go go' : ℕ → Rest) → ((t : ℕ) → Goes (go t) (go' t)) → Goes (look k go) (look k go')
  look_goes k go go' goes here s = from_alike here _ s refl refl refl _ _ (told_goes (looks k _) tt (go _) (go' _) (goes _) (with_looks _ here) s)

  -- ---- what is valued

  pub value_goes : (e : CoreExpr) (go go' : ℕ → Rest) → ((w : ℕ) → Goes (go w) (go' w)) → Goes (value e go) (value e go')
  value_goes e go go' goes here s = from_spent (expr_steps e) here s _ _ (found_goes (value_of e here.store) go go' goes (spent (expr_steps e) here) _)

  values_go : (es : List CoreExpr) (go go' : List ℕ → Rest) → ((ws : List ℕ) → Goes (go ws) (go' ws)) → Goes (values es go) (values es go')
  values_go [] go go' goes = goes []
  values_go (e ∷ es) go go' goes = value_goes e _ _ (λ w. values_go es _ _ (λ ws. goes (w ∷ ws)))

  place_goes : (onto : Option CoreTarget) (go go' : Option Place → Rest) → ((at : Option Place) → Goes (go at) (go' at)) → Goes (reading_place onto go) (reading_place onto go')
  place_goes None go go' goes here s = goes None here s
  place_goes (Some t) go go' goes here s = from_spent (target_steps t) here s _ _ (found_goes (target_place t here.store) _ _ (λ at. goes (Some at)) (spent (target_steps t) here) _)

  chosen_goes : (word : ℕ) (a a' b b' : Rest) → Goes a a' → Goes b b' → Goes (chosen word a b) (chosen word a' b')
  chosen_goes zero a a' b b' yes_goes no_goes = no_goes
  chosen_goes (suc n) a a' b b' yes_goes no_goes = yes_goes

  pub branch_goes : (c : CoreExpr) (a a' b b' : Rest) → Goes a a' → Goes b b' → Goes (branch c a b) (branch c a' b')
  branch_goes c a a' b b' yes_goes no_goes here s =
      from_spent (condition_steps c) here s _ _ (found_goes (value_of c here.store) _ _ (λ word. chosen_goes word a a' b b' yes_goes no_goes) (spent (condition_steps c) here) _)

  pub stored_goes : (store : Store) (go go' : Rest) → Goes go go' → (here : Here) (s : Steps) → P here s (go (with_store store here)) (go' (with_store store (with_steps s here)))
  stored_goes store go go' goes here s = from_alike here (with_store store here) s refl refl refl _ _ (goes (with_store store here) s)

  ran_goes : (r : Ran) (go go' : Rest) → Goes go go' → Goes (from_ran r go) (from_ran r go')
  ran_goes (done store) go go' goes here s = stored_goes store go go' goes here s
  ran_goes (trapped why store) go go' goes here s = from_alike here (with_store store here) s refl refl refl _ _ (along.trap why (with_store store here) s)

  pub plain_goes : (statement : CoreStmt) (go go' : Rest) → Goes go go' → Goes (plain_log statement go) (plain_log statement go')
  plain_goes statement go go' goes here s =
      from_spent (plain_steps statement here.store) here s _ _ (ran_goes (plain_done statement here.store) go go' goes (spent (plain_steps statement here.store) here) _)

  -- ---- calls

  issue_goes : (setting : Setting) (k p : ℕ) (args : List ℕ) (go go' : ℕ → Rest) → ((r : ℕ) → Goes (go r) (go' r)) → Goes (issue setting k p args go) (issue setting k p args go')
  issue_goes setting k p args go go' goes here s = from_alike here (with_issue p here) s refl refl refl _ _ (told_goes (issues k p args _) tt (go _) (go' _) (goes _) (with_issue p here) s)

  anew_goes : (setting : Setting) (k p : ℕ) (args : List ℕ) (t : ℕ) (go go' : ℕ → Rest) → ((r : ℕ) → Goes (go r) (go' r)) → Goes (issue_anew setting k p args t go) (issue_anew setting k p args t go')
  anew_goes setting k p args t go go' goes =
      let ks = dependents setting.task k in
      let sealed : (ℕ → Rest) → ℕ → Rest = λ go r. seal k (of_reading r t args) (go r) in
      let first = issue setting k p args (sealed go) in
      let second = issue setting k p args (sealed go') in
      drop_goes k (drop_all ks first) (drop_all ks second) (drops_go ks first second
      (issue_goes setting k p args (sealed go) (sealed go') (λ r. seal_goes k (of_reading r t args) (go r) (go' r) (goes r))))

  choice_goes : (setting : Setting) (k p : ℕ) (made_with args : List ℕ) (t : ℕ) (go go' : ℕ → Rest) (c : Choice) → ((r : ℕ) → Goes (go r) (go' r)) → Goes (by_choice setting k p made_with args t go c) (by_choice setting k p made_with args t go' c)
  choice_goes setting k p made_with args t go go' (Keep v) goes here s =
      along.event (keeps k v) tt (Some (record { made_with = arguments made_with; valued = arguments args })) here s (go v here) (go' v (with_steps s here)) (goes v here s)
  choice_goes setting k p made_with args t go go' Issue goes here s = anew_goes setting k p args t go go' goes here s

  record_goes : (setting : Setting) (k p : ℕ) (args : List ℕ) (t : ℕ) (go go' : ℕ → Rest) (r : Option Record) → ((w : ℕ) → Goes (go w) (go' w)) → Goes (by_record setting k p args t go r) (by_record setting k p args t go' r)
  record_goes setting k p args t go go' r goes here s = choice_goes setting k p (issued_with r) args t go go' (choice here.mode (annotation setting k) (kept_in r) t) goes here s

  put_goes : (at : Option Place) (word : ℕ) (go go' : Rest) → Goes go go' → (here : Here) (s : Steps) → P here s (go (put_into at word here)) (go' (put_into at word (with_steps s here)))
  put_goes None word go go' goes here s = goes here s
  put_goes (Some at) word go go' goes here s = stored_goes (put_word at word here.store) go go' goes here s

  called_goes : (setting : Setting) (k p : ℕ) (at : Option Place) (words : List ℕ) (go go' : Rest) → Goes go go' → (t : ℕ) → Goes (call_inside setting k p at words go t) (call_inside setting k p at words go' t)
  called_goes setting k p at words go go' goes t inside s =
      record_goes setting k p words t (λ word after. go (put_into at word after)) (λ word after. go' (put_into at word after)) (inside.standing.account.records k)
      (λ word. put_goes at word go go' goes) inside s

  pub call_goes : (setting : Setting) (k : ℕ) (onto : Option CoreTarget) (p : ℕ) (args : List CoreExpr) (go go' : Rest) → Goes go go' → Goes (call_log setting k onto p args go) (call_log setting k onto p args go')
  call_goes setting k onto p args go go' goes here s =
      let number = number_of setting p in
      from_spent (call_steps setting.task k) here s _ _
      (place_goes onto _ _ (λ at. values_go args _ _ (λ words. look_goes k (call_inside setting k number at words go) (call_inside setting k number at words go') (called_goes setting k number at words go go' goes)))
      (spent (call_steps setting.task k) here) _)

  -- ---- blocks

  mode_goes : (m : Mode) (go go' : Rest) → Goes go go' → (here : Here) (s : Steps) → P here s (go (with_mode m here)) (go' (with_mode m (with_steps s here)))
  mode_goes m go go' goes here s = from_alike here (with_mode m here) s refl refl refl _ _ (goes (with_mode m here) s)

  sealed_goes : (k t : ℕ) (inside : Mode) (go go' : Rest) → Goes go go' → Goes (block_sealed k t inside go) (block_sealed k t inside go')
  sealed_goes k t mode.Keep go go' goes = goes
  sealed_goes k t mode.Own go go' goes = drop_goes k (seal k (of_block t) go) (seal k (of_block t) go') (seal_goes k (of_block t) go go' goes)
  sealed_goes k t mode.Force go go' goes = drop_goes k (seal k (of_block t) go) (seal k (of_block t) go') (seal_goes k (of_block t) go go' goes)

  block_end_goes : (k t : ℕ) (outside inside : Mode) (go go' : Rest) → Goes go go' → Goes (block_end k t outside inside go) (block_end k t outside inside go')
  block_end_goes k t outside inside go go' goes here s = from_spent block_steps here s _ _ (sealed_goes k t inside _ _ (mode_goes outside go go' goes) (spent block_steps here) _)

  -- a block's body and its end
  inside_goes : (setting : Setting) (k : ℕ) (body : Rest → Rest) → ((go go' : Rest) → Goes go go' → Goes (body go) (body go')) → (go go' : Rest) → Goes go go' → (t : ℕ)
      → Goes (block_inside setting k body go t) (block_inside setting k body go' t)
  inside_goes setting k body body_goes go go' goes t before s =
      let inside = entered before.mode (annotation setting k) (stamp_in (before.standing.account.records k)) t in
      mode_goes inside (body (block_end k t before.mode inside go)) (body (block_end k t before.mode inside go')) (body_goes _ _ (block_end_goes k t before.mode inside go go' goes)) before s

  pub block_goes : (setting : Setting) (k : ℕ) (body : Rest → Rest) → ((go go' : Rest) → Goes go go' → Goes (body go) (body go')) → (go go' : Rest) → Goes go go' → Goes (block_log setting k body go) (block_log setting k body go')
  block_goes setting k body body_goes go go' goes here s =
      from_spent block_steps here s _ _ (look_goes k (block_inside setting k body go) (block_inside setting k body go') (inside_goes setting k body body_goes go go' goes) (spent block_steps here) _)
