-- The law of records: records that are followed agree, in every boot of every run.
use Rattle.std.proofs.Common.{◌≡◌, ◌≢◌, ℕ, zero, suc, ◌+◌, Bool, true, false, ◌||◌, ◌==◌, cond, List, [], ◌∷◌, ◌++◌, length, Option, Some, None, Result, Ok, Err, refl, sym, ap, subst, ◌∙◌, leb, leb-true, eqb-true, eq-eqb, append-nil, if◌then◌else◌}
use Rattle.std.specs.Prelude.{⊤, slice_get}
use Rattle.attempt_laws.proofs.MoveLaws.{put_back, put_source}
use Rattle.attempt_laws.proofs.MovedLaws.{moved_source, moves_alike, source_many}
use Rattle.attempt_laws.proofs.SiteLists.{OnlyMet, all_only_met, append_joins, not_both, once_back, once_skip, skip_has}
use Rattle.attempt_laws.specs.Records.{AllHold, AllStand, Fits, Hold, IsNumbered, IsOnce, Made, MadeCopy, Stands, all_acts_in}
use Rattle.block_scope.specs.Enter.{entered}
use Rattle.devices.specs.Journal.{JournalEvent}
use Rattle.devices.specs.Reading.{reading_in}
use Rattle.ease_base.specs.Found.{with_found}
use Rattle.io_annot.specs.Choice.{choice, is_expired}
use Rattle.io_annot.specs.declared.choice.Choice.{Choice}
use Rattle.io_annot.specs.declared.choice.Mode.{Mode}
use Rattle.io_depend.specs.Depend.{dependents, flow}
use Rattle.io_depend.specs.Flow.{all_passed, no_carrying}
use Rattle.io_depend.specs.Sets.{has}
use Rattle.io_flow.proofs.Dependence.{dependence, differing}
use Rattle.io_flow.specs.Written.{Includes, or_left, or_right}
use Rattle.io_flow.proofs.FlowLaws.{not_in, or_false}
use Rattle.io_flow.proofs.FlowMeets.{Meet, append_right}
use Rattle.io_flow.proofs.FlowRuns.{still}
use Rattle.io_flow.specs.Laws.{PointsNowhere}
use Rattle.io_flow.specs.Replay.{Upto, all_sites_in, all_until, args_found, meets, met, over, put_if, row_sites_in, row_until, sites_in, stopped, unmet, until, upto_found, upto_then}
use Rattle.region_split.specs.Class.{class_of}
use Rattle.region_split.specs.Regions.{region_of}
use Rattle.region_split.specs.declared.class.DmaClass.{DmaClass}
use Rattle.region_split.specs.declared.class.Memory.{Memory}
use Rattle.task_ast.specs.Pointing.{pointing}
use Rattle.task_ast.specs.declared.core_form.Core.{Core}
use Rattle.task_ast.specs.declared.core_form.CoreEnd.{CoreEnd}
use Rattle.task_ast.specs.declared.core_form.CoreExit.{CoreExit, end_of-CoreExit, more_of-CoreExit}
use Rattle.task_ast.specs.declared.core_form.CoreExpr.{CoreExpr}
use Rattle.task_ast.specs.declared.core_form.CoreStmt.{CoreStmt, Row_of-CoreStmt, end_of-CoreStmt, more_of-CoreStmt}
use Rattle.task_ast.specs.declared.core_form.CoreTarget.{CoreTarget}
use Rattle.task_ast.specs.declared.core_form.CoreTask.{CoreTask}
use Rattle.task_ast.specs.declared.tree.Ann.{Ann}
use Rattle.task_attempts.specs.Attempts.{body_log, exit_log, row_log, statement_log}
use Rattle.task_attempts.specs.Blocks.{block_end, block_log, block_sealed, stamp_in}
use Rattle.task_attempts.specs.Boots.{task_of}
use Rattle.task_attempts.specs.Calls.{annotation, by_choice, by_record, call_log, issue, issue_anew, issued_with, kept_in, number_of}
use Rattle.task_attempts.specs.Changes.{put, spent, spent_by, with_issue, with_looks, with_mode, with_record, with_region, with_store}
use Rattle.task_attempts.specs.Copies.{copy_again, copy_by_class, copy_by_record, copy_log, copy_valued, memory_at, memory_or_ram, put_words, words_at}
use Rattle.task_attempts.specs.Costs.{call_steps, copy_steps}
use Rattle.task_attempts.specs.State.{Here, Log, Record, Rest, Rules, Setting, Valued, arguments, of_block, of_copy, of_reading, range}
use Rattle.task_attempts.specs.Told.{drop_all, drop_one, logged, look, seal, trap, unless_trap}
use Rattle.task_attempts.specs.Values.{branch, from_ran, value, values}
use Rattle.walk_run.specs.Plain.{Ran, chosen, done, plain_done, trapped}
use Rattle.walk_run.specs.PlainSteps.{condition_steps, end_steps, expr_steps, plain_steps, target_steps}
use Rattle.walk_run.specs.Store.{Store, fresh, pointed, put_word, words_of}
use Rattle.walk_run.specs.Value.{end_place, target_place, value_of, with_room}
use Rattle.walk_run.specs.Walk.{move_words}
use Rattle.walk_run.specs.declared.place.Place.{Place}
use Rattle.walk_run.specs.declared.trap.Trap.{Trap}
use Rattle.task_ast.specs.declared.core_form.CoreStmt.TheVariants as stmt
use Rattle.task_ast.specs.declared.core_form.CoreExit.TheVariants as exit
use Rattle.io_annot.specs.declared.choice.Mode.TheVariants as mode
use Rattle.region_split.specs.declared.class.DmaClass.TheVariants as class
use Rattle.region_split.specs.declared.class.Memory.TheVariants as memory
use Rattle.task_ast.specs.declared.tree.Ann.TheVariants as ann
use Rattle.walk_run.specs.declared.trap.Trap.TheVariants as cause
use Rattle.io_annot.specs.declared.choice.Choice.TheVariants as act

-- ---- what a later issue leaves of a record

abbrev pub Readings : Type 0
Readings = ℕ → ℕ

made_still : (t : CoreTask) (base : Store) (l l' : Readings) (k : ℕ) (v : Valued) → ((a : ℕ) → has (flow t a).sites k ≡ true → l a ≡ l' a) → Made t base l k v → Made t base l' k v
made_still t base l l' k v same made = record { reading = made.reading; meets = made.meets; same = λ a found. made.same a found ∙ same a found }

-- a record of a site with the same last reading, from which nothing was issued that flows into it
stands_still : (t : CoreTask) (base : Store) (l l' : Readings) (k : ℕ) (r : Option Record) → (r ≢ None → l k ≡ l' k) → (r ≢ None → (v : Valued) → Made t base l k v → Made t base l' k v) → Stands t base l k r → Stands t base l' k r
stands_still t base l l' k None same still stands = tt
stands_still t base l l' k (Some (of_reading value stamp args)) same still stands = (stands.0 ∙ same (λ is. cc is), still (λ is. cc is) (arguments args) stands.1)
stands_still t base l l' k (Some (of_block stamp)) same still stands = tt
stands_still t base l l' k (Some (of_copy kind to from words)) same still stands =
    record { store = stands.store; many = stands.many; to_fits = stands.to_fits; from_fits = stands.from_fits; made = still (λ is. cc is) _ stands.made; moved = stands.moved }

-- two runs that meet a site, where one has the last readings of all that flows into it
made_agrees : (t : CoreTask) (base : Store) → PointsNowhere base → (l : Readings) (k : ℕ) (v w : Valued) → Made t base l k v → all_until k l t.body base ≡ met w → v ≡ w
made_agrees t base unset l k v w made meets_now = both _ _ (dependence t k made.reading l made.same base unset) made.meets meets_now
  where
    both : (u u' : Upto) → Meet (pointing t) (all_passed (pointing t) (differing made.reading l) t.body false no_carrying) u u' → u ≡ met v → u' ≡ met w → v ≡ w
    both (met x) (met y) same is is' = (cc is) ∙ same ∙ (cc is')
    both (over x) u' same is is' = absurd (cc is)
    both (stopped code) u' same is is' = absurd (cc is)
    both (met x) (over y) same is is' = absurd (cc is')
    both (met x) (stopped code) same is is' = absurd (cc is')

-- ---- a place inside an attempt

-- the run that is left from a place, up to a site
abbrev On : Type 0
On = (k : ℕ) → Readings → Store → Upto

abbrev pub Left : Type 0
Left = (k : ℕ) → Readings → Upto

-- Inside an attempt, with these sites left: with the last readings at the sites before, the whole run comes to each site that is left
-- as the rest of the run does; and the records stand.
pub record At (c : Core) (t : CoreTask) (ls : List ℕ) (left : Left) (l : Readings) (base : Store) (next : ℕ) (records : ℕ → Option Record) : Type 0 where
  pub task : task_of c next ≡ Some t
  pub unset : (p : ℕ) → pointed base p ≡ None
  pub comes : (reading : Readings) → ((a : ℕ) → has ls a ≡ false → reading a ≡ l a) → (k : ℕ) → has ls k ≡ true → all_until k reading t.body base ≡ left k reading
  pub stand : (k : ℕ) → Stands t base l k (records k)

same_task : (a b : CoreTask) → Some a ≡ Some b → a ≡ b
same_task a b is = cc is

-- what was made is a record of such a site
made_acts : (t : CoreTask) (base : Store) (l : Readings) (k : ℕ) (v : Valued) → Made t base l k v → has (all_acts_in t.body) k ≡ true
made_acts t base l k v made = subst (OnlyMet (has (all_acts_in t.body) k)) made.meets (all_only_met k made.reading t.body base)

-- only a copy from nonvolatile into volatile words is of class Private
pub private_memories : (from to : Memory) → class_of from to ≡ class.Private → from ≢ to
private_memories memory.Fram memory.Fram is = absurd (cc is)
private_memories memory.Fram memory.ConstFram is = absurd (cc is)
private_memories memory.Fram memory.Ram is = λ same. cc same
private_memories memory.ConstFram memory.Fram is = absurd (cc is)
private_memories memory.ConstFram memory.ConstFram is = absurd (cc is)
private_memories memory.ConstFram memory.Ram is = absurd (cc is)
private_memories memory.Ram memory.Fram is = absurd (cc is)
private_memories memory.Ram memory.ConstFram is = absurd (cc is)
private_memories memory.Ram memory.Ram is = absurd (cc is)

-- the store that what was valued puts
abbrev pub put_of : Valued → Store → Store
put_of (arguments args) store = store
put_of (range to from words) store = put_words to words store

module _ (rules : Rules) (t : CoreTask) (numbered : IsNumbered t) where
  pub at_holds : (ls : List ℕ) (left : Left) (l : Readings) (base : Store) (next : ℕ) (records : ℕ → Option Record) → At rules.core t ls left l base next records → Hold rules.core base next records
  at_holds ls left l base next records at = record {
    of_task = λ t' is. subst (λ t. AllStand t base records) (same_task t t' (sym at.task ∙ is)) (record { last = l; unset = at.unset; stand = at.stand });
  }

  -- another form of what is left
  at_as : (ls : List ℕ) (left left' : Left) (l : Readings) (base : Store) (next : ℕ) (records : ℕ → Option Record) → ((k : ℕ) (reading : Readings) → left k reading ≡ left' k reading) → At rules.core t ls left l base next records → At rules.core t ls left' l base next records
  at_as ls left left' l base next records same at = record { task = at.task; unset = at.unset; comes = λ reading agree k there. at.comes reading agree k there ∙ same k reading; stand = at.stand }

  -- fewer sites
  at_fewer : (ls ls' : List ℕ) (left : Left) (l : Readings) (base : Store) (next : ℕ) (records : ℕ → Option Record) → Includes ls' ls → At rules.core t ls left l base next records → At rules.core t ls' left l base next records
  at_fewer ls ls' left l base next records fewer at =
      record { task = at.task; unset = at.unset; comes = λ reading agree k there. at.comes reading (λ a out. agree a (not_in ls' ls fewer a out)) k (fewer k there); stand = at.stand }

  -- a record is dropped, or sealed
  at_put : (ls : List ℕ) (left : Left) (l : Readings) (base : Store) (next : ℕ) (records : ℕ → Option Record) (j : ℕ) (r : Option Record) → Stands t base l j r → At rules.core t ls left l base next records → At rules.core t ls left l base next (put j r records)
  at_put ls left l base next records j r stands at = record { task = at.task; unset = at.unset; comes = at.comes; stand = λ k. by_site k (j == k) refl }
    where
      by_site : (k : ℕ) (b : Bool) → (j == k) ≡ b → Stands t base l k (cond b r (records k))
      by_site k true is = subst (λ k. Stands t base l k r) (eqb-true j k is) stands
      by_site k false is = at.stand k

  -- the store with which an attempt begins
  abbrev pub base_of : Here → Store
  base_of here = fresh rules.core here.standing.committed

  abbrev pub AtHere : List ℕ → Left → Readings → Here → Type 0
  AtHere ls left l here = At rules.core t ls left l (base_of here) here.standing.next here.standing.account.records

  -- from this place on all holds
  pub record Fine (log : Log) : Type 0 where
    pub all : AllHold rules.core log

  -- what comes behind is fine wherever the rest of the run is this
  abbrev Does : List ℕ → Rest → On → Type 0
  Does ls go on = (here : Here) (l : Readings) → AtHere ls (λ k reading. on k reading here.store) l here → Fine (go here)

  trap_fine : (ls : List ℕ) (left : Left) (l : Readings) (code : Trap) (here : Here) → AtHere ls left l here → Fine (trap code here)
  trap_fine ls left l code here at = record { all = ((tt, at_holds ls left l _ _ _ at), tt) }

  told_fine : (ls : List ℕ) (left : Left) (l : Readings) (e : JournalEvent) (rest : Log) (here : Here) → AtHere ls left l here → Fine rest → Fine (logged e None here ∷ rest)
  told_fine ls left l e rest here at fine = record { all = ((tt, at_holds ls left l _ _ _ at), fine.all) }

  -- goes on with what was found
  found_fine : {A : Type 0} (ls : List ℕ) (r : Result A Trap) (f : A → Left) (g : (k : ℕ) → Readings → Store → Upto) (go : A → Rest) (l : Readings) (here : Here)
      → ((x : A) → AtHere ls (λ k reading. upto_then (f x k reading) (g k reading)) l here → Fine (go x here))
      → AtHere ls (λ k reading. upto_then (upto_found r (λ x. f x k reading)) (g k reading)) l here → Fine (unless_trap r go here)
  found_fine ls (Ok x) f g go l here fine at = fine x at
  found_fine ls (Err code) f g go l here fine at = trap_fine ls _ l code here at

  -- the same with what was found known
  found_fine_in : {A : Type 0} (ls : List ℕ) (r : Result A Trap) (f : A → Left) (g : (k : ℕ) → Readings → Store → Upto) (go : A → Rest) (l : Readings) (here : Here)
      → ((x : A) → r ≡ Ok x → AtHere ls (λ k reading. upto_then (f x k reading) (g k reading)) l here → Fine (go x here))
      → AtHere ls (λ k reading. upto_then (upto_found r (λ x. f x k reading)) (g k reading)) l here → Fine (unless_trap r go here)
  found_fine_in ls (Ok x) f g go l here fine at = fine x refl at
  found_fine_in ls (Err code) f g go l here fine at = trap_fine ls _ l code here at

  chosen_fine : (ls : List ℕ) (word : ℕ) (f f' : (k : ℕ) → Readings → Store → Upto) (on : On) (a b : Rest) (l : Readings) (here : Here)
      → (AtHere ls (λ k reading. upto_then (f k reading here.store) (on k reading)) l here → Fine (a here))
      → (AtHere ls (λ k reading. upto_then (f' k reading here.store) (on k reading)) l here → Fine (b here))
      → AtHere ls (λ k reading. upto_then (chosen word (f k reading) (f' k reading) here.store) (on k reading)) l here → Fine (chosen word a b here)
  chosen_fine ls zero f f' on a b l here yes_fine no_fine at = no_fine at
  chosen_fine ls (suc n) f f' on a b l here yes_fine no_fine at = yes_fine at

  plain_fine : (ls : List ℕ) (s : CoreStmt) (go : Rest) (on : On) → Does ls go on → (r : Ran) (here : Here) (l : Readings)
      → AtHere ls (λ k reading. upto_then (unmet r) (on k reading)) l here → Fine (from_ran r go here)
  plain_fine ls s go on does (done store) here l at = does (with_store store here) l at
  plain_fine ls s go on does (trapped code store) here l at = trap_fine ls _ l code (with_store store here) at

  -- a condition, where each branch is fine
  branch_fine : (ls : List ℕ) (e : CoreExpr) (f f' : (k : ℕ) → Readings → Store → Upto) (on : On) (a b : Rest)
      → Does ls a (λ k reading store. upto_then (f k reading store) (on k reading)) → Does ls b (λ k reading store. upto_then (f' k reading store) (on k reading))
      → Does ls (branch e a b) (λ k reading store. upto_then (upto_found (value_of e store) (λ word. chosen word (f k reading) (f' k reading) store)) (on k reading))
  branch_fine ls e f f' on a b yes_does no_does here l at =
      found_fine ls (value_of e here.store) (λ word k reading. chosen word (f k reading) (f' k reading) here.store) on (λ word. chosen word a b) l (spent (condition_steps e) here)
      (λ word. chosen_fine ls word f f' on a b l (spent (condition_steps e) here) (yes_does (spent (condition_steps e) here) l) (no_does (spent (condition_steps e) here) l)) at

  -- ---- an I/O site

  found_twice : {A B : Type 0} (r : Result A Trap) (f : A → B) (g : B → Upto) → upto_found (with_found r (λ x. Ok (f x))) g ≡ upto_found r (λ x. g (f x))
  found_twice (Ok x) f g = refl
  found_twice (Err code) f g = refl

  -- arguments, with what comes behind them at any place with the same store
  values_fine : (ls : List ℕ) (es : List CoreExpr) (f : List ℕ → (k : ℕ) → Readings → Store → Upto) (on : On) (go : List ℕ → Rest)
      → ((ws : List ℕ) → Does ls (go ws) (λ k reading store. upto_then (f ws k reading store) (on k reading)))
      → Does ls (values es go) (λ k reading store. upto_then (upto_found (args_found es store) (λ ws. f ws k reading store)) (on k reading))
  values_fine ls [] f on go does here l at = does [] here l at
  values_fine ls (e ∷ es) f on go does here l at = by_value (value_of e here.store) (λ w. values_fine ls es (λ ws. f (w ∷ ws)) on (λ ws. go (w ∷ ws)) (λ ws. does (w ∷ ws))) at
    where
      by_value : (r : Result ℕ Trap) → ((w : ℕ) → Does ls (values es (λ ws. go (w ∷ ws))) (λ k reading store. upto_then (upto_found (args_found es store) (λ ws. f (w ∷ ws) k reading store)) (on k reading)))
          → AtHere ls (λ k reading. upto_then (upto_found (with_found r (λ word. with_found (args_found es here.store) (λ words. Ok (word ∷ words)))) (λ ws. f ws k reading here.store)) (on k reading)) l here
          → Fine (unless_trap r (λ word. values es (λ words. go (word ∷ words))) (spent (expr_steps e) here))
      by_value (Ok w) more at =
          more w (spent (expr_steps e) here) l (at_as ls _ _ l _ _ _ (λ k reading. ap (λ u. upto_then u (on k reading)) (found_twice (args_found es here.store) (λ ws. w ∷ ws) (λ ws. f ws k reading here.store))) at)
      by_value (Err code) more at = trap_fine ls _ l code (spent (expr_steps e) here) at

  -- ---- a site is passed

  abbrev Passing : (a : ℕ) → Valued → (ℕ → Store) → On → Left
  Passing a v put_to on k reading = upto_then (meets (a == k) v (put_to (reading a))) (on k reading)

  -- another last reading at a site
  abbrev ButAt : (a : ℕ) → (l l' : Readings) → Type 0
  ButAt a l l' = (b : ℕ) → (a == b) ≡ false → l' b ≡ l b

  pass : (ls : List ℕ) (a : ℕ) (v : Valued) (put_to : ℕ → Store) (on : On) (l l' : Readings) (w : ℕ) (base : Store) (next : ℕ) (records records' : ℕ → Option Record) → has ls a ≡ false → ButAt a l l' → l' a ≡ w
      → At rules.core t (a ∷ ls) (Passing a v put_to on) l base next records → ((k : ℕ) → Stands t base l' k (records' k)) → At rules.core t ls (λ k reading. on k reading (put_to w)) l' base next records'
  pass ls a v put_to on l l' w base next records records' once but is at stand = record {
    task = at.task;
    unset = at.unset;
    comes = λ reading agree k there.
        at.comes reading (λ b out. let p = or_false (a == b) (has ls b) out in agree b p.1 ∙ but b p.0) k (or_right (a == k) (has ls k) there)
        ∙ ap (λ b. upto_then (meets b v (put_to (reading a))) (on k reading)) (other k (a == k) refl there)
        ∙ ap (λ r. on k reading (put_to r)) (agree a once ∙ is);
    stand = stand;
  }
    where
      other : (k : ℕ) (b : Bool) → (a == k) ≡ b → has ls k ≡ true → b ≡ false
      other k true e there = not_both (has ls a) (subst (λ k. has ls k ≡ true) (sym (eqb-true a k e)) there) once
      other k false e there = refl

  met_here : (ls : List ℕ) (a : ℕ) (v : Valued) (put_to : ℕ → Store) (on : On) (l l' : Readings) (base : Store) (next : ℕ) (records : ℕ → Option Record) → ButAt a l l'
      → At rules.core t (a ∷ ls) (Passing a v put_to on) l base next records → all_until a l' t.body base ≡ met v
  met_here ls a v put_to on l l' base next records but at =
      let here : (a == a) ≡ true = eq-eqb a a refl in
      at.comes l' (λ b out. but b (or_false (a == b) (has ls b) out).0) a (or_left (a == a) (has ls a) here) ∙ ap (λ b. upto_then (meets b v (put_to (l' a))) (on a l')) here

  -- ---- an issue

  put_none : (j k : ℕ) (b : Bool) (records : ℕ → Option Record) → (j == k) ≡ b → (b ≡ false → records k ≡ None) → put j None records k ≡ None
  put_none j k true records is none = ap (λ b. cond b None (records k)) is
  put_none j k false records is none = ap (λ b. cond b None (records k)) is ∙ none refl

  -- after these records are dropped, they are gone, and no other has come
  drops_fine : (ks : List ℕ) (ls : List ℕ) (left : Store → Left) (l : Readings) (go : Rest) (here : Here) → AtHere ls (left here.store) l here
      → ((new : Here) → AtHere ls (left new.store) l new → ((j : ℕ) → has ks j ≡ true → new.standing.account.records j ≡ None) → ((j : ℕ) → here.standing.account.records j ≡ None → new.standing.account.records j ≡ None) → Fine (go new))
      → Fine (drop_all ks go here)
  drops_fine [] ls left l go here at fine = fine here at (λ j there. absurd (cc there)) (λ j none. none)
  drops_fine (k ∷ ks) ls left l go here at fine =
      let records = here.standing.account.records in
      let at' = at_put ls (left here.store) l _ _ records k None tt at in
      told_fine ls (left here.store) l _ _ (with_record k None here) at'
      (drops_fine ks ls left l go (with_record k None here) at'
      (λ new at'' gone still. fine new at'' (λ j there. by_site new gone still j (k == j) refl there) (λ j none. still j (put_none k j (k == j) records refl (λ _. none)))))
    where
      by_site : (new : Here) → ((j : ℕ) → has ks j ≡ true → new.standing.account.records j ≡ None) → ((j : ℕ) → put k None here.standing.account.records j ≡ None → new.standing.account.records j ≡ None)
          → (j : ℕ) (b : Bool) → (k == j) ≡ b → (b || has ks j) ≡ true → new.standing.account.records j ≡ None
      by_site new gone still j true is there = still j (put_none k j true here.standing.account.records is (λ no. absurd (cc no)))
      by_site new gone still j false is there = gone j there

  -- the last readings with a new one
  last_but : (a r : ℕ) (l : Readings) → ButAt a l (put a r l)
  last_but a r l b other = ap (λ b'. cond b' r (l b)) other

  last_is : (a r : ℕ) (l : Readings) → put a r l a ≡ r
  last_is a r l = ap (λ b. cond b r (l a)) (eq-eqb a a refl)

  -- where the records of a site's dependents are gone, those that are left stand with its new reading
  left_stand : (a r : ℕ) (l : Readings) (base : Store) (records : ℕ → Option Record) → ((j : ℕ) → has (dependents t a) j ≡ true → records j ≡ None)
      → (k : ℕ) → (a == k) ≡ false → Stands t base l k (records k) → Stands t base (put a r l) k (records k)
  left_stand a r l base records gone k other stands =
      stands_still t base l (put a r l) k (records k) (λ some. sym (last_but a r l k other))
      (λ some v made. made_still t base l (put a r l) k v (λ b found. by_site some v made b found (a == b) refl) made) stands
    where
      by_site : records k ≢ None → (v : Valued) → Made t base l k v → (b : ℕ) → has (flow t b).sites k ≡ true → (e : Bool) → (a == b) ≡ e → l b ≡ put a r l b
      by_site some v made b found true is =
          absurd (some (gone k (numbered.later a k (made_acts t base l k v made) (subst (λ b. has (flow t b).sites k ≡ true) (sym (eqb-true a b is)) found))))
      by_site some v made b found false is = sym (last_but a r l b is)

  -- and the site's own new record does
  sealed_stand : (a r stamp : ℕ) (args : List ℕ) (l : Readings) (base : Store) (records : ℕ → Option Record) → ((j : ℕ) → has (dependents t a) j ≡ true → records j ≡ None)
      → all_until a (put a r l) t.body base ≡ met (arguments args) → ((k : ℕ) → Stands t base l k (records k))
      → (k : ℕ) → Stands t base (put a r l) k (put a (Some (of_reading r stamp args)) records k)
  sealed_stand a r stamp args l base records gone meets_now stand k = by_site (a == k) refl
    where
      own : Stands t base (put a r l) a (Some (of_reading r stamp args))
      own = (sym (last_is a r l), record { reading = put a r l; meets = meets_now; same = λ b found. refl })

      by_site : (b : Bool) → (a == k) ≡ b → Stands t base (put a r l) k (cond b (Some (of_reading r stamp args)) (records k))
      by_site true is = subst (λ k. Stands t base (put a r l) k (Some (of_reading r stamp args))) (eqb-true a k is) own
      by_site false is = left_stand a r l base records gone k is (stand k)

  abbrev setting : Setting
  setting = record { rules = rules; task = t }

  -- what comes behind an I/O site at the place of its target
  abbrev Behind : List ℕ → (at : Option Place) → (go : ℕ → Rest) → On → Type 0
  Behind ls at go on = (w : ℕ) (here : Here) (l : Readings) → AtHere ls (λ k reading. on k reading (put_if at w here.store)) l here → Fine (go w here)

  anew_fine : (ls : List ℕ) (a p : ℕ) (args : List ℕ) (time : ℕ) (onto : Option Place) (go : ℕ → Rest) (on : On) → has ls a ≡ false → Behind ls onto go on
      → (here : Here) (l : Readings) → AtHere (a ∷ ls) (Passing a (arguments args) (λ w. put_if onto w here.store) on) l here → Fine (issue_anew setting a p args time go here)
  anew_fine ls a p args time onto go on once behind here l at =
      let left : Store → Left = λ store. Passing a (arguments args) (λ w. put_if onto w store) on in
      let at' = at_put (a ∷ ls) (left here.store) l _ _ here.standing.account.records a None tt at in
      told_fine (a ∷ ls) (left here.store) l _ _ (with_record a None here) at'
      (drops_fine (dependents t a) (a ∷ ls) left l (issue setting a p args (λ r. seal a (of_reading r time args) (go r))) (with_record a None here) at'
      (λ new at'' gone still.
      let r = reading_in rules.world.feeds p (new.standing.account.issued p + 1) in
      let stand = sealed_stand a r time args l _ new.standing.account.records gone (met_here ls a (arguments args) (λ w. put_if onto w new.store) on l (put a r l) _ _ _ (last_but a r l) at'') at''.stand in
      let behind_at = pass ls a (arguments args) (λ w. put_if onto w new.store) on l (put a r l) r _ _ new.standing.account.records _ once (last_but a r l) (last_is a r l) at'' stand in
      let sealed = with_record a (Some (of_reading r time args)) (with_issue p new) in
      told_fine (a ∷ ls) (left new.store) l _ _ (with_issue p new) at''
      (told_fine ls _ (put a r l) _ _ sealed behind_at (behind r sealed (put a r l) behind_at))))

  -- ---- an I/O site with its record

  -- a value that is kept is the last reading, and its record was made with these arguments
  abbrev IsAllowed : (last : ℕ) → (made_with args : List ℕ) → Choice → Type 0
  IsAllowed last made_with args (act.Keep v) = (last ≡ v) × (arguments args ≡ arguments made_with)
  IsAllowed last made_with args act.Issue = ⊤

  allowed_if : (last : ℕ) (made_with args : List ℕ) (b : Bool) (x y : Choice) → IsAllowed last made_with args x → IsAllowed last made_with args y → IsAllowed last made_with args (if b then x else y)
  allowed_if last made_with args true x y p q = p
  allowed_if last made_with args false x y p q = q

  own_allowed : (last : ℕ) (made_with args : List ℕ) (a_note : Ann) (v stamp time : ℕ) → IsAllowed last made_with args (act.Keep v) → IsAllowed last made_with args (choice mode.Own a_note (Some (v, stamp)) time)
  own_allowed last made_with args ann.Single v stamp time kept = kept
  own_allowed last made_with args (ann.Timely limit) v stamp time kept = allowed_if last made_with args (is_expired limit stamp time) act.Issue (act.Keep v) tt kept
  own_allowed last made_with args ann.Always v stamp time kept = tt

  kept_allowed : (last : ℕ) (made_with args : List ℕ) (m : Mode) (a_note : Ann) (v stamp time : ℕ) → IsAllowed last made_with args (act.Keep v) → IsAllowed last made_with args (choice m a_note (Some (v, stamp)) time)
  kept_allowed last made_with args mode.Keep a_note v stamp time kept = kept
  kept_allowed last made_with args mode.Force a_note v stamp time kept = tt
  kept_allowed last made_with args mode.Own a_note v stamp time kept = own_allowed last made_with args a_note v stamp time kept

  allowed : (l : Readings) (base : Store) (a : ℕ) (args : List ℕ) (m : Mode) (a_note : Ann) (r : Option Record) (time : ℕ) → PointsNowhere base → all_until a l t.body base ≡ met (arguments args)
      → Stands t base l a r → IsAllowed (l a) (issued_with r) args (choice m a_note (kept_in r) time)
  allowed l base a args m a_note None time unset meets_now stands = tt
  allowed l base a args m a_note (Some (of_reading v stamp made_with)) time unset meets_now stands =
      kept_allowed (l a) made_with args m a_note v stamp time (sym stands.0, sym (made_agrees t base unset l a (arguments made_with) (arguments args) stands.1 meets_now))
  allowed l base a args m a_note (Some (of_block stamp)) time unset meets_now stands = tt
  allowed l base a args m a_note (Some (of_copy kind to from words)) time unset meets_now stands = tt

  choice_fine : (ls : List ℕ) (a p : ℕ) (made_with args : List ℕ) (time : ℕ) (onto : Option Place) (go : ℕ → Rest) (on : On) → has ls a ≡ false → Behind ls onto go on → (x : Choice)
      → (here : Here) (l : Readings) → IsAllowed (l a) made_with args x → AtHere (a ∷ ls) (Passing a (arguments args) (λ w. put_if onto w here.store) on) l here → Fine (by_choice setting a p made_with args time go x here)
  choice_fine ls a p made_with args time onto go on once behind (act.Keep v) here l ok at = record {
    all = ((ok.1, at_holds _ _ l _ _ _ at), (behind v here l (pass ls a (arguments args) (λ w. put_if onto w here.store) on l l v _ _ _ _ once (λ b other. refl) ok.0 at at.stand)).all);
  }
  choice_fine ls a p made_with args time onto go on once behind act.Issue here l ok at = anew_fine ls a p args time onto go on once behind here l at

  look_fine : (ls : List ℕ) (k : ℕ) (go : ℕ → Rest) (on : On) → ((time : ℕ) → Does ls (go time) on) → Does ls (look k go) on
  look_fine ls k go on does here l at = told_fine ls _ l _ _ (with_looks _ here) at (does _ (with_looks _ here) l at)

  -- from the arguments of an I/O site on
  args_fine : (ls : List ℕ) (a p : ℕ) (args : List CoreExpr) (onto : Option Place) (go : ℕ → Rest) (on : On) → has ls a ≡ false → Behind ls onto go on
      → Does (a ∷ ls) (values args (λ words. look a (λ time inside. by_record setting a p words time go (inside.standing.account.records a) inside)))
      (λ k reading store. upto_then (upto_found (args_found args store) (λ ws. meets (a == k) (arguments ws) (put_if onto (reading a) store))) (on k reading))
  args_fine ls a p args onto go on once behind =
      values_fine (a ∷ ls) args (λ ws k reading store. meets (a == k) (arguments ws) (put_if onto (reading a) store)) on _
      (λ words. look_fine (a ∷ ls) a _ (λ k reading store. Passing a (arguments words) (λ w. put_if onto w store) on k reading)
      (λ time here l at. choice_fine ls a p (issued_with (here.standing.account.records a)) words time onto go on once behind _ here l
      (allowed l _ a words here.mode (annotation setting a) (here.standing.account.records a) time at.unset (met_here ls a (arguments words) (λ w. put_if onto w here.store) on l l _ _ _ (λ b other. refl) at) (at.stand a)) at))

  io_fine : (ls : List ℕ) (a p : ℕ) (onto : Option CoreTarget) (args : List CoreExpr) (go : Rest) (on : On) → has ls a ≡ false → Does ls go on
      → Does (a ∷ ls) (call_log setting a onto p args go) (λ k reading store. upto_then (until k reading (stmt.Io a onto p args) store) (on k reading))
  io_fine ls a p None args go on once does here l at = args_fine ls a (number_of setting p) args None (λ word. go) on once (λ w. does) (spent (call_steps t a) here) l at
  io_fine ls a p (Some tg) args go on once does here l at =
      found_fine (a ∷ ls) (target_place tg here.store) (λ at k reading. upto_found (args_found args here.store) (λ ws. meets (a == k) (arguments ws) (put_word at (reading a) here.store))) on _ l
      (spent (target_steps tg) (spent (call_steps t a) here))
      (λ onto. args_fine ls a (number_of setting p) args (Some onto) (λ word after. go (with_store (put_word onto word after.store) after)) on once
      (λ w at_word l' at'. does (with_store (put_word onto w at_word.store) at_word) l' at') (spent (target_steps tg) (spent (call_steps t a) here)) l)
      (at_as (a ∷ ls) _ _ l _ _ _
      (λ k reading. ap (λ u. upto_then u (on k reading)) (found_twice (target_place tg here.store) (λ at. Some at)
      (λ at. upto_found (args_found args here.store) (λ ws. meets (a == k) (arguments ws) (put_if at (reading a) here.store))))) at)

  -- ---- a block

  block_record_fine : (ls : List ℕ) (k time : ℕ) (go : Rest) (on : On) → Does ls go on → Does ls (drop_one k (seal k (of_block time) go)) on
  block_record_fine ls k time go on does here l at =
      let dropped = with_record k None here in
      let at' = at_put ls _ l _ _ here.standing.account.records k None tt at in
      let at'' = at_put ls _ l _ _ dropped.standing.account.records k (Some (of_block time)) tt at' in
      told_fine ls _ l _ _ dropped at' (told_fine ls _ l _ _ (with_record k (Some (of_block time)) dropped) at'' (does (with_record k (Some (of_block time)) dropped) l at''))

  sealed_fine : (ls : List ℕ) (k time : ℕ) (inside : Mode) (go : Rest) (on : On) → Does ls go on → Does ls (block_sealed k time inside go) on
  sealed_fine ls k time mode.Keep go on does = does
  sealed_fine ls k time mode.Own go on does = block_record_fine ls k time go on does
  sealed_fine ls k time mode.Force go on does = block_record_fine ls k time go on does

  block_fine : (ls ls' : List ℕ) (k : ℕ) (body : Rest → Rest) (on on' : On) → ((go : Rest) → Does ls go on → Does ls' (body go) on') → (go : Rest) → Does ls go on → Does ls' (block_log setting k body go) on'
  block_fine ls ls' k body on on' row_fine go does here l at =
      look_fine ls' k _ on'
      (λ time before l' at'.
      let inside = entered before.mode (annotation setting k) (stamp_in (before.standing.account.records k)) time in
      row_fine (block_end k time before.mode inside go)
      (λ after l'' at''. sealed_fine ls k time inside _ on (λ end l3 at3. does (with_mode before.mode end) l3 at3) (spent 64 after) l'' at'') (with_mode inside before) l' at')
      (spent 64 here) l at

  -- ---- a copy

  -- a place that was tested
  abbrev if_room : Bool → Place → Result Place Trap
  if_room b at = if b then Ok at else Err cause.Range

  room_fits : (store : Store) (at : Place) (n : ℕ) (x : Place) → with_room store at n ≡ Ok x → Fits store at n
  room_fits store at n x = by_room (leb (at.index + n) (length (words_of store at.array))) refl
    where
      by_room : (b : Bool) → leb (at.index + n) (length (words_of store at.array)) ≡ b → if_room b at ≡ Ok x → Fits store at n
      by_room true is ok = leb-true (at.index + n) (length (words_of store at.array)) is
      by_room false is ok = absurd (cc ok)

  -- where a copy's record, made over one store, agrees with the copy over another
  abbrev AgreesFrom : (store made : Store) → (to from : Place) → (n : ℕ) → (words : List ℕ) → (to' from' : Place) → (many : ℕ) → Type 0
  AgreesFrom store made to from n words to' from' many =
      Fits made to' many → words_at made from' many ≡ words_at store from n → words_at (move_words many to' from' made) to' many ≡ words → copy_valued store to from n ≡ range to' from' words

  -- a copy's record agrees with the run that meets the copy now
  copy_agrees : (base : Store) (l : Readings) (k : ℕ) (to from : Place) (n : ℕ) (store : Store) → PointsNowhere base → Fits store to n → Fits store from n
      → all_until k l t.body base ≡ met (range to from (words_at store from n)) → (to' from' : Place) (words : List ℕ) → MadeCopy t base l k to' from' words → copy_valued store to from n ≡ range to' from' words
  copy_agrees base l k to from n store unset to_fits from_fits meets_now to' from' words made =
      let e = made_agrees t base unset l k _ _ made.made meets_now in
      let same : words_at made.store from' made.many ≡ words_at store from n = range_words _ _ _ _ _ _ e in
      let many : made.many ≡ n = sym (source_many made.many from' made.store made.from_fits) ∙ ap length same ∙ source_many n from store from_fits in
      by_many made.many many (by_from from' (range_from _ _ _ _ _ _ e) (by_to to' (range_to _ _ _ _ _ _ e))) made.to_fits same made.moved
    where
      range_to : (a b c d : Place) (v w : List ℕ) → range a b v ≡ range c d w → a ≡ c
      range_to a b c d v w e = cc e

      range_from : (a b c d : Place) (v w : List ℕ) → range a b v ≡ range c d w → b ≡ d
      range_from a b c d v w e = cc e

      range_words : (a b c d : Place) (v w : List ℕ) → range a b v ≡ range c d w → v ≡ w
      range_words a b c d v w e = cc e

      goal : AgreesFrom store made.store to from n words to from n
      goal fits same is = ap (λ ws. range to from ws) (sym (moves_alike n to from made.store store fits to_fits same) ∙ is)

      by_to : (to' : Place) → to' ≡ to → AgreesFrom store made.store to from n words to' from n
      by_to to' e = subst (λ to'. AgreesFrom store made.store to from n words to' from n) (sym e) goal

      by_from : (from' : Place) → from' ≡ from → AgreesFrom store made.store to from n words to' from n → AgreesFrom store made.store to from n words to' from' n
      by_from from' e = subst (λ from'. AgreesFrom store made.store to from n words to' from' n) (sym e)

      by_many : (many : ℕ) → many ≡ n → AgreesFrom store made.store to from n words to' from' n → AgreesFrom store made.store to from n words to' from' many
      by_many many e = subst (AgreesFrom store made.store to from n words to' from') (sym e)

  -- what is left at a copy
  abbrev Copying : (a : ℕ) → (to from : Place) → (n : ℕ) → Store → On → Left
  Copying a to from n store on = Passing a (range to from (words_at store from n)) (λ w. move_words n to from store) on

  -- a copy with a record
  again_fine : (ls : List ℕ) (a : ℕ) (to from : Place) (n : ℕ) (go : Rest) (on : On) → has ls a ≡ false → Does ls go on → (kind : DmaClass) (to' from' : Place) (words : List ℕ) (here : Here) (l : Readings) → Fits here.store to n → Fits here.store from n
      → MadeCopy t (base_of here) l a to' from' words → AtHere (a ∷ ls) (Copying a to from n here.store on) l here → Fine (copy_again kind a to' from' words (copy_valued here.store to from n) go here)
  again_fine ls a to from n go on once does kind to' from' words here l to_fits from_fits made at =
      let agree = copy_agrees (base_of here) l a to from n here.store at.unset to_fits from_fits (met_here ls a _ (λ w. move_words n to from here.store) on l l _ _ _ (λ b other. refl) at) to' from' words made in
      let same : put_words to' words here.store ≡ move_words n to from here.store = ap (λ v. put_of v here.store) (sym agree) ∙ put_back n to from here.store to_fits in
      let behind = pass ls a _ (λ w. move_words n to from here.store) on l l (l a) _ _ _ _ once (λ b other. refl) refl at at.stand in
      let after = with_store (put_words to' words here.store) here in
      record { all = ((agree, at_holds _ _ l _ _ _ at), (does after l (at_as ls _ _ l _ _ _ (λ k reading. ap (on k reading) (sym same)) behind)).all) }

  -- a copy without a record
  class_fine : (ls : List ℕ) (a : ℕ) (to from : Place) (n : ℕ) (go : Rest) (on : On) → has ls a ≡ false → Does ls go on → (kind : DmaClass) (here : Here) (l : Readings) → Fits here.store to n → Fits here.store from n
      → (kind ≡ class.Private → from.array ≢ to.array) → AtHere (a ∷ ls) (Copying a to from n here.store on) l here → Fine (copy_by_class kind a to from n go here)
  class_fine ls a to from n go on once does class.Single here l to_fits from_fits apart at =
      let after = with_store (move_words n to from here.store) here in
      let behind = pass ls a _ (λ w. move_words n to from here.store) on l l (l a) _ _ _ _ once (λ b other. refl) refl at at.stand in
      let words = words_at (move_words n to from here.store) to n in
      let meets_now = met_here ls a _ (λ w. move_words n to from here.store) on l l _ _ _ (λ b other. refl) at in
      let made : MadeCopy t (base_of here) l a to from words = record { store = here.store; many = n; to_fits = to_fits; from_fits = from_fits; made = record { reading = l; meets = meets_now; same = λ b found. refl }; moved = refl } in
      let sealed_at = at_put ls _ l _ _ here.standing.account.records a (Some (of_copy class.Single to from words)) made behind in
      told_fine _ _ l _ _ after behind (told_fine _ _ l _ _ (with_record a (Some (of_copy class.Single to from words)) after) sealed_at (does (with_record a (Some (of_copy class.Single to from words)) after) l sealed_at))
  class_fine ls a to from n go on once does class.Private here l to_fits from_fits apart at =
      let words = words_at here.store from n in
      let behind = pass ls a _ (λ w. move_words n to from here.store) on l l (l a) _ _ _ _ once (λ b other. refl) refl at at.stand in
      let meets_now = met_here ls a _ (λ w. move_words n to from here.store) on l l _ _ _ (λ b other. refl) at in
      let made : MadeCopy t (base_of here) l a to from words = record { store = here.store; many = n; to_fits = to_fits; from_fits = from_fits; made = record { reading = l; meets = meets_now; same = λ b found. refl }; moved = moved_source n to from here.store to_fits from_fits (apart refl) } in
      let sealed_at = at_put ls _ l _ _ here.standing.account.records a (Some (of_copy class.Private to from words)) made behind in
      let inside = with_record a (Some (of_copy class.Private to from words)) here in
      let after = with_store (put_words to words here.store) inside in
      let same = put_source n to from here.store from_fits (apart refl) in
      told_fine _ _ l _ _ here at (told_fine _ _ l _ _ inside sealed_at (told_fine _ _ l _ _ after sealed_at (does after l (at_as ls _ _ l _ _ _ (λ k reading. ap (on k reading) (sym same)) sealed_at))))
  class_fine ls a to from n go on once does class.Exclude here l to_fits from_fits apart at =
      let after = with_store (move_words n to from here.store) here in
      let behind = pass ls a _ (λ w. move_words n to from here.store) on l l (l a) _ _ _ _ once (λ b other. refl) refl at at.stand in
      told_fine _ _ l _ _ after behind (does after l behind)
  class_fine ls a to from n go on once does class.Always here l to_fits from_fits apart at =
      let after = with_store (move_words n to from here.store) here in
      let behind = pass ls a _ (λ w. move_words n to from here.store) on l l (l a) _ _ _ _ once (λ b other. refl) refl at at.stand in
      told_fine _ _ l _ _ after behind (does after l behind)

  fresh_fine : (ls : List ℕ) (a : ℕ) (to from : Place) (n : ℕ) (go : Rest) (on : On) → has ls a ≡ false → Does ls go on → (here : Here) (l : Readings) → Fits here.store to n → Fits here.store from n
      → AtHere (a ∷ ls) (Copying a to from n here.store on) l here → Fine (copy_by_class (class_of (memory_at setting from) (memory_at setting to)) a to from n go here)
  fresh_fine ls a to from n go on once does here l to_fits from_fits at =
      class_fine ls a to from n go on once does (class_of (memory_at setting from) (memory_at setting to)) here l to_fits from_fits
      (λ is same. private_memories (memory_at setting from) (memory_at setting to) is (ap (λ x. memory_or_ram (slice_get rules.core.arrays x)) same)) at

  copy_at_fine : (ls : List ℕ) (a : ℕ) (to from : Place) (n : ℕ) (go : Rest) (on : On) → has ls a ≡ false → Does ls go on → (r : Option Record) (here : Here) (l : Readings) → Fits here.store to n → Fits here.store from n
      → Stands t (base_of here) l a r → AtHere (a ∷ ls) (Copying a to from n here.store on) l here → Fine (copy_by_record setting a to from n go r here)
  copy_at_fine ls a to from n go on once does (Some (of_copy kind to' from' words)) here l to_fits from_fits stands at = again_fine ls a to from n go on once does kind to' from' words (spent _ here) l to_fits from_fits stands at
  copy_at_fine ls a to from n go on once does (Some (of_reading v stamp args)) here l to_fits from_fits stands at = fresh_fine ls a to from n go on once does (spent _ here) l to_fits from_fits at
  copy_at_fine ls a to from n go on once does (Some (of_block stamp)) here l to_fits from_fits stands at = fresh_fine ls a to from n go on once does (spent _ here) l to_fits from_fits at
  copy_at_fine ls a to from n go on once does None here l to_fits from_fits stands at = fresh_fine ls a to from n go on once does (spent _ here) l to_fits from_fits at

  copy_fine : (ls : List ℕ) (a : ℕ) (to from : CoreEnd) (words : CoreExpr) (go : Rest) (on : On) → has ls a ≡ false → Does ls go on
      → Does (a ∷ ls) (copy_log setting a to from words go) (λ k reading store. upto_then (until k reading (stmt.Copy a to from words) store) (on k reading))
  copy_fine ls a to from words go on once does here l at0 =
      let store = here.store in
      let at_spent = spent_by (copy_steps rules.core t a) here in
      found_fine (a ∷ ls) (end_place to store)
      (λ x k reading. upto_found (end_place from store) (λ f. upto_found (value_of words store) (λ n. upto_found (with_room store x n) (λ _. upto_found (with_room store f n) (λ _. meets (a == k) (range x f (words_at store f n)) (move_words n x f store))))))
      on _ l (spent (end_steps to) at_spent)
      (λ x. found_fine (a ∷ ls) (end_place from store)
      (λ f k reading. upto_found (value_of words store) (λ n. upto_found (with_room store x n) (λ _. upto_found (with_room store f n) (λ _. meets (a == k) (range x f (words_at store f n)) (move_words n x f store)))))
      on _ l (spent (end_steps from) (spent (end_steps to) at_spent))
      (λ f. found_fine (a ∷ ls) (value_of words store)
      (λ n k reading. upto_found (with_room store x n) (λ _. upto_found (with_room store f n) (λ _. meets (a == k) (range x f (words_at store f n)) (move_words n x f store))))
      on _ l (spent (expr_steps words) (spent (end_steps from) (spent (end_steps to) at_spent)))
      (λ n.
      let inside = spent (expr_steps words) (spent (end_steps from) (spent (end_steps to) at_spent)) in
      found_fine_in (a ∷ ls) (with_room store x n) (λ _ k reading. upto_found (with_room store f n) (λ _. meets (a == k) (range x f (words_at store f n)) (move_words n x f store))) on _ l inside
      (λ y to_room. found_fine_in (a ∷ ls) (with_room store f n) (λ _ k reading. meets (a == k) (range x f (words_at store f n)) (move_words n x f store)) on _ l inside
      (λ z from_room at. copy_at_fine ls a x f n go on once does (inside.standing.account.records a) (with_region (region_of t a) inside) l
      (room_fits store x n y to_room) (room_fits store f n z from_room) (at.stand a) at)))))
      at0

  -- ---- statements

  then_joins : (u : Upto) (f g : Store → Upto) → upto_then (upto_then u f) g ≡ upto_then u (λ s. upto_then (f s) g)
  then_joins (over store) f g = refl
  then_joins (met v) f g = refl
  then_joins (stopped code) f g = refl

  mutual
    statement_fine : (s : CoreStmt) (ls : List ℕ) (go : Rest) (on : On) → IsOnce (sites_in s ++ ls) → Does ls go on → Does (sites_in s ++ ls) (statement_log setting s go) (λ k reading store. upto_then (until k reading s store) (on k reading))
    statement_fine (stmt.Assign onto e) ls go on once does here l at = plain_fine ls (stmt.Assign onto e) go on does (plain_done (stmt.Assign onto e) here.store) (spent (plain_steps (stmt.Assign onto e) here.store) here) l at
    statement_fine (stmt.Point pointer array index) ls go on once does here l at = plain_fine ls (stmt.Point pointer array index) go on does (plain_done (stmt.Point pointer array index) here.store) (spent (plain_steps (stmt.Point pointer array index) here.store) here) l at
    statement_fine (stmt.If' e size_a a size_b b) ls go on once does here l at =
        let yes_sites = row_sites_in a in
        let no_sites = row_sites_in b in
        let joins = append_joins yes_sites no_sites ls in
        let once' = subst IsOnce joins once in
        let all = (yes_sites ++ no_sites) ++ ls in
        branch_fine all e (λ k reading. row_until k reading a) (λ k reading. row_until k reading b) on (row_log setting a go) (row_log setting b go)
        (λ new l' at'. row_fine a ls go on (once_skip yes_sites no_sites ls once') does new l' (at_fewer all (yes_sites ++ ls) _ l' _ _ _ (λ n there. subst (λ xs. has xs n ≡ true) (sym joins) (skip_has yes_sites no_sites ls n there)) at'))
        (λ new l' at'. row_fine b ls go on (once_back yes_sites (no_sites ++ ls) once') does new l' (at_fewer all (no_sites ++ ls) _ l' _ _ _ (λ n there. subst (λ xs. has xs n ≡ true) (sym joins) (append_right yes_sites (no_sites ++ ls) n there)) at'))
        here l at
    statement_fine (stmt.Loop' variable turns size body) ls go on once does here l at = plain_fine ls (stmt.Loop' variable turns size body) go on does (plain_done (stmt.Loop' variable turns size body) here.store) (spent (plain_steps (stmt.Loop' variable turns size body) here.store) here) l at
    statement_fine (stmt.Io k onto p args) ls go on once does here l at = io_fine ls k p onto args go on once.0 does here l at
    statement_fine (stmt.Block' k size body) ls go on once does here l at =
        block_fine ls (row_sites_in body ++ ls) k (row_log setting body) on (λ k reading store. upto_then (row_until k reading body store) (on k reading)) (λ go' does'. row_fine body ls go' on once.1 does') go does here l
        (at_fewer (k ∷ (row_sites_in body ++ ls)) (row_sites_in body ++ ls) _ l _ _ _ (λ n there. or_right (k == n) (has (row_sites_in body ++ ls) n) there) at)
    statement_fine (stmt.Copy k to from words) ls go on once does here l at = copy_fine ls k to from words go on once.0 does here l at

    row_fine : {size : _} (b : Row_of-CoreStmt size) (ls : List ℕ) (go : Rest) (on : On) → IsOnce (row_sites_in b ++ ls) → Does ls go on → Does (row_sites_in b ++ ls) (row_log setting b go) (λ k reading store. upto_then (row_until k reading b store) (on k reading))
    row_fine end_of-CoreStmt ls go on once does here l at = does here l at
    row_fine (more_of-CoreStmt s rest) ls go on once does here l at =
        let joins = append_joins (sites_in s) (row_sites_in rest) ls in
        let once' = subst IsOnce joins once in
        statement_fine s (row_sites_in rest ++ ls) (row_log setting rest go) (λ k reading store. upto_then (row_until k reading rest store) (on k reading)) once'
        (row_fine rest ls go on (once_back (sites_in s) (row_sites_in rest ++ ls) once') does) here l
        (at_fewer _ _ _ l _ _ _ (λ n there. subst (λ xs. has xs n ≡ true) (sym joins) there)
        (at_as _ _ _ l _ _ _ (λ k reading. then_joins (until k reading s here.store) (row_until k reading rest) (on k reading)) at))

  body_fine : (b : List CoreStmt) (ls : List ℕ) (go : Rest) (on : On) → IsOnce (all_sites_in b ++ ls) → Does ls go on → Does (all_sites_in b ++ ls) (body_log setting b go) (λ k reading store. upto_then (all_until k reading b store) (on k reading))
  body_fine [] ls go on once does here l at = does here l at
  body_fine (s ∷ rest) ls go on once does here l at =
      let joins = append_joins (sites_in s) (all_sites_in rest) ls in
      let once' = subst IsOnce joins once in
      statement_fine s (all_sites_in rest ++ ls) (body_log setting rest go) (λ k reading store. upto_then (all_until k reading rest store) (on k reading)) once'
      (body_fine rest ls go on (once_back (sites_in s) (all_sites_in rest ++ ls) once') does) here l
      (at_fewer _ _ _ l _ _ _ (λ n there. subst (λ xs. has xs n ≡ true) (sym joins) there)
      (at_as _ _ _ l _ _ _ (λ k reading. then_joins (until k reading s here.store) (all_until k reading rest) (on k reading)) at))

  -- ---- the exit

  -- at an exit no site is left
  abbrev pub Ends : Rest → Type 0
  Ends go = (here : Here) (l : Readings) (left : Left) → AtHere [] left l here → Fine (go here)

  exit_found : (r : Result ℕ Trap) (a b : Rest) (here : Here) (l : Readings) (left : Left) → Ends a → Ends b → AtHere [] left l here → Fine (unless_trap r (λ word. chosen word a b) here)
  exit_found (Ok zero) a b here l left yes_end no_end at = no_end here l left at
  exit_found (Ok (suc n)) a b here l left yes_end no_end at = yes_end here l left at
  exit_found (Err code) a b here l left yes_end no_end at = trap_fine [] left l code here at

  exit_fine : (e : CoreExit) (go : ℕ → Rest) → ((n : ℕ) → Ends (go n)) → Ends (exit_log e go)
  exit_fine (exit.Next n) go ends here l left at = ends n here l left at
  exit_fine exit.Stop go ends here l left at = ends 0 here l left at
  exit_fine (exit.Choose' e size_a (more_of-CoreExit a end_of-CoreExit) size_b (more_of-CoreExit b end_of-CoreExit)) go ends here l left at = exit_found (value_of e here.store) (exit_log a go) (exit_log b go) (spent (condition_steps e) here) l left (exit_fine a go ends) (exit_fine b go ends) at

  -- a whole task, from its committed store with records that stand
  pub task_fine : (go : ℕ → Rest) → ((n : ℕ) → Ends (go n)) → (here : Here) → here.store ≡ (base_of here) → task_of rules.core here.standing.next ≡ Some t → AllStand t (base_of here) here.standing.account.records
      → Fine (body_log setting t.body (exit_log t.exit go) here)
  task_fine go ends here same is stand =
      let nothing_behind : all_sites_in t.body ++ [] ≡ all_sites_in t.body = append-nil (all_sites_in t.body) in
      body_fine t.body [] (exit_log t.exit go) (λ k reading store. over store) (subst IsOnce (sym nothing_behind) numbered.once) (λ new l at. exit_fine t.exit go ends new l _ at) here stand.last
      (record {
        task = is;
        unset = stand.unset;
        comes = λ reading agree k there. ap (all_until k reading t.body) (sym same) ∙ sym (then_over (all_until k reading t.body here.store));
        stand = stand.stand;
      })
    where
      then_over : (u : Upto) → upto_then u (λ store. over store) ≡ u
      then_over (over store) = refl
      then_over (met v) = refl
      then_over (stopped code) = refl
