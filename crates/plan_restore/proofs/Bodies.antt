-- The acts of statements and exits: from an open state on, with what comes behind.
use Rattle.std.proofs.Common.{◌≡◌, ◌∙◌, ◌⊎◌, inl, inr, ℕ, suc, ◌+◌, ◌<◌, Bool, true, false, List, [], ◌∷◌, ◌++◌, length, map, refl, sym, ap, subst, arith}
use Rattle.std.specs.Prelude.{Option, Some, None}
use Rattle.std.specs.List.{AllByRecursion}
use Rattle.std.proofs.lemmas.List.{length-append}
use Rattle.task_ast.specs.declared.core_form.CoreExpr.{CoreExpr}
use Rattle.task_ast.specs.declared.core_form.CoreStmt.{CoreStmt, Row_of-CoreStmt, end_of-CoreStmt, more_of-CoreStmt}
use Rattle.task_ast.specs.declared.core_form.CoreStmt.TheVariants as stmt
use Rattle.task_ast.specs.declared.core_form.CoreExit.{CoreExit, end_of-CoreExit, more_of-CoreExit}
use Rattle.task_ast.specs.declared.core_form.CoreExit.TheVariants as exit
use Rattle.task_ast.specs.declared.core_form.CoreTask.{CoreTask}
use Rattle.task_ast.specs.declared.core_form.Core.{Core}
use Rattle.task_ast.specs.declared.core_form.Site.{Site}
use Rattle.task_ast.specs.declared.core_form.Site.TheVariants as site
use Rattle.task_ast.specs.CoreSites.{Standing, a_call, a_block, a_copy, site_numbers, row_numbers, all_numbers, standings, row_standings, all_standings}
use Rattle.task_ast.specs.Pointing.{pointing, target_arrays, reading_arrays, addresses, row_addresses, all_addresses}
use Rattle.task_ast.specs.WellFormed.{IsCoreStmt, AreCoreStmts, scope_of}
use Rattle.io_depend.specs.Sets.{has}
use Rattle.region_split.specs.Regions.{touches, row_touches, all_touches, region_of, regions}
use Rattle.region_split.specs.Owners.{all_first}
use Rattle.walk_run.specs.Store.{Store}
use Rattle.walk_run.specs.Value.{value_of}
use Rattle.walk_run.specs.Plain.{plain_done}
use Rattle.walk_run.specs.PlainWrites.{plain_writes}
use Rattle.word_isa.specs.declared.parts.Scheme.{Scheme}
use Rattle.word_isa.specs.declared.parts.Scheme.TheVariants.{Undo, Bank}
use Rattle.task_attempts.specs.Boots.{task_of}
use Rattle.task_attempts.specs.Calls.{site_at}
use Rattle.run_plan.specs.declared.act.Leg.TheVariants.{Across, ToKept, FromKept}
use Rattle.run_plan.specs.declared.act.Act.{Act}
use Rattle.run_plan.specs.declared.act.Act.TheVariants as act
use Rattle.run_plan.specs.Cells.{State}
use Rattle.run_plan.specs.Small.{Doing, one}
use Rattle.run_plan.specs.Deeds.{act_done}
use Rattle.run_plan.specs.Finding.{statement_of}
use Rattle.run_plan.specs.Kinds.{IsCall, IsBlock, IsCopy, stands_at, standing_or_none}
use Rattle.run_plan.specs.PlanOf.{Around, save_acts, issue_acts, call_acts, block_end_acts, block_acts, anew_acts, again_acts, copy_acts, unless_plain, statement_acts, row_acts, body_acts, exit_act, around}
use Rattle.run_plan.specs.Runs.{Onward, Planned, at_task, doing, act_run, acts_run, act_steps, straight}
use Rattle.run_plan.specs.RunRows.{run_test, run_choose, run_leave, run_by_class, run_joined}
use Rattle.plan_restore.proofs.Lists.{has_front, has_behind}
use Rattle.plan_restore.proofs.Writing.{TouchMay, plain_writes_may}
use Rattle.plan_restore.proofs.Steps.{Holds, DoneGoes, DoneKeeps, act_fine, act_keeps, by_ways, done_goes}
use Rattle.plan_restore.proofs.Open.{MayWrite, IsSafe, Open, open_safe}
use Rattle.plan_restore.proofs.Acts
use Rattle.plan_restore.proofs.Acts.{FineFor, HasRecordWhere, ToMay}
use Rattle.plan_restore.proofs.Saving
use Rattle.plan_restore.proofs.Saving.{Saved}
use Rattle.plan_restore.proofs.Committing.{Again, commit_holds}
use Rattle.plan_laws.specs.PlacedSites.{Placed, placed_parts, same_long, row_long, copies_at, region_there, Next, front_next, back_next, first_next}
use Rattle.plan_restore.proofs.Positions.{saved, turns, turns_joined, turns_writing, Allowed, allowed_parts, allowed_here, turns_are, row_turns_are}

-- what is standing where nothing else does
stands_once : (t : CoreTask) (k : ℕ) (x y : Standing) → stands_at t k ≡ Some x → stands_at t k ≡ Some y → x ≡ y
stands_once t k x y one two = ap (λ o. out o) (sym one ∙ two)
  where
    out : Option Standing → Standing
    out None = x
    out (Some z) = z

module _ (p : Planned) (t : CoreTask) (number : ℕ) (e : Store) (there : task_of p.rules.core number ≡ Some t) (split : at_task p.plan.firsts number [] ≡ all_first p.rules.core t) (again : Onward) (fine_again : Again p again) where
  abbrev c : Core
  c = p.rules.core

  abbrev d : Doing
  d = doing p number t

  abbrev a : Around
  a = around p.plan.scheme t

  abbrev Now : (m r : ℕ) → State → Type 0
  Now m r s = Open p.plan.scheme c t number (at_task p.plan.firsts number []) e m r s

  abbrev W : (saved array : ℕ) → Type 0
  W = MayWrite p.plan.scheme c t

  abbrev Safe : Store → State → Type 0
  Safe = IsSafe p

  safe : (m r : ℕ) (s : State) → Now m r s → Safe e s
  safe m r s h = open_safe p t number e m r s there h

  -- what comes behind goes on from each state that is open with so many regions saved
  abbrev pub Go : (m : ℕ) → Onward → Type 0
  Go m go = Holds p Safe e (Now m m) go

  -- an act that keeps a state open
  kept : (x : Act) (m : ℕ) (go : Onward) → ((s : State) → Now m m s → DoneKeeps p Safe d x (Now m m) (λ w. Now m m) (act_done d x s)) → Go m go → Holds p Safe e (Now m m) (act_steps d x (straight go))
  kept x m go does_keep behind = act_keeps p Safe d x e (Now m m) (λ w. Now m m) (safe m m) (λ w. safe m m) does_keep (straight go) (λ w. behind)

  -- an act that goes from an open state to an open state
  gone : (x : Act) (m : ℕ) (go : Onward) → ((s : State) → Now m m s → DoneGoes p Safe d x e (Now m m) (λ w. Now m m) (act_done d x s) s) → Go m go → Holds p Safe e (Now m m) (act_steps d x (straight go))
  gone x m go goes behind = act_fine p Safe d x e (Now m m) (Now m m) (λ w. Now m m) (safe m m) (λ w. safe m m) goes (straight go) (λ w. behind)

  -- ---- calls

  drop_holds : (m k : ℕ) (go : Onward) → Go m go → Go m (act_run d again (act.Drop k) go)
  drop_holds m k go behind = kept (act.Drop k) m go (λ s h. Acts.drop_keeps p t number e split (act.Drop k) (λ b. b) m m k s) behind

  drops_hold : (m : ℕ) (ks : List ℕ) (acts : List Act) (go : Onward) → Go m (acts_run d again acts go) → Go m (acts_run d again (map act.Drop ks ++ acts) go)
  drops_hold m [] acts go behind = behind
  drops_hold m (k ∷ ks) acts go behind = drop_holds m k (acts_run d again (map act.Drop ks ++ acts) go) (drops_hold m ks acts go behind)

  seal_holds : (m k : ℕ) → (IsCopy t k → ⊥) → (go : Onward) → Go m go → Go m (act_run d again (act.Seal k) go)
  seal_holds m k bare go behind = gone (act.Seal k) m go (λ s h. Acts.seal_goes p t number e split (act.Seal k) (λ b. b) m m k s h bare (site_at t.sites k) refl) behind

  call_bare : (k : ℕ) → IsCall t k → IsCopy t k → ⊥
  call_bare k call copy = let clash : a_call ≡ a_copy copy.0 = stands_once t k a_call (a_copy copy.0) call copy.1 in cc clash

  block_bare : (k : ℕ) → IsBlock t k → IsCopy t k → ⊥
  block_bare k block copy = let clash : a_block ≡ a_copy copy.0 = stands_once t k a_block (a_copy copy.0) block copy.1 in cc clash

  call_holds : (m k : ℕ) → IsCall t k → FineFor (W m) (pointing t) (statement_of d k) → (go : Onward) → Go m go → Go m (acts_run d again (call_acts a k) go)
  call_holds m k call fine go behind =
      let write = kept (act.Write k) m go (λ s h. Acts.write_keeps p t number e split (act.Write k) (λ b. b) m s h) behind in
      let after = act_run d again (act.Write k) go in
      let seal = seal_holds m k (call_bare k call) after write in
      let issue = kept (act.Issue k) m (act_run d again (act.Seal k) after) (λ s h. Acts.issue_keeps p t number e split (act.Issue k) (λ b. b) m m k s h (statement_of d k)) seal in
      let first = drop_holds m k _ (drops_hold m (a.dependents k) (act.Issue k ∷ act.Seal k ∷ []) after issue) in
      let take = kept (act.Take k) m after (λ s h. Acts.take_keeps p t number e split (act.Take k) (λ b. b) m m k s h) write in
      let choose : Go m (act_run d again (act.Choose k (issue_acts a k) (act.Take k ∷ [])) after) =
      subst (Go m) (sym (run_choose d again k (issue_acts a k) (act.Take k ∷ []) after))
      (act_fine p Safe d (act.Choose k (issue_acts a k) (act.Take k ∷ [])) e (Now m m) (Now m m) (λ w. Now m m) (safe m m) (λ w. safe m m)
      (λ s h. Acts.call_goes p t number e split (act.Choose k (issue_acts a k) (act.Take k ∷ [])) (λ b. b) (Now m m) k s h (site_at t.sites k))
      _ (by_ways p Safe e (λ w. Now m m) _ _ after after first take write write)) in
      let look = kept (act.Look k) m _ (λ s h. Acts.look_keeps p t number e split (act.Look k) (λ b. b) m m k s h) choose in
      act_keeps p Safe d (act.Value k) e (Now m m) (λ w. Now m m) (safe m m) (λ w. safe m m) (λ s h. value_of_call s h) (straight _) (λ w. look)
    where
      value_of_call : (s : State) → Now m m s → DoneKeeps p Safe d (act.Value k) (Now m m) (λ w. Now m m) (act_done d (act.Value k) s)
      value_of_call s h =
          let e0 : m + 0 ≡ m = omega arith in
          subst (λ r. DoneKeeps p Safe d (act.Value k) (Now m m) (λ w. Now m r) (act_done d (act.Value k) s)) e0
          (Acts.value_keeps p t number e split (act.Value k) (λ b. b) m m 0 s h (statement_of d k) (subst (λ r. FineFor (W r) (pointing t) (statement_of d k)) (sym e0) fine))

  -- ---- blocks

  leave_holds : (m k : ℕ) → IsBlock t k → (go : Onward) → Go m go → Go m (act_run d again (act.Leave k (block_end_acts k)) go)
  leave_holds m k block go behind =
      let seal = seal_holds m k (block_bare k block) go behind in
      let first = drop_holds m k (act_run d again (act.Seal k) go) seal in
      subst (Go m) (sym (run_leave d again k (block_end_acts k) go))
      (act_keeps p Safe d (act.Leave k (block_end_acts k)) e (Now m m) (λ w. Now m m) (safe m m) (λ w. safe m m)
      (λ s h. Acts.leave_keeps p t number e split (act.Leave k (block_end_acts k)) (λ b. b) m m k s h) _ (by_ways p Safe e (λ w. Now m m) _ go go go first behind behind behind))

  block_holds : (m n k : ℕ) → IsBlock t k → (body : List Act) (go : Onward) → ((go : Onward) → Go n go → Go m (acts_run d again body go)) → Go n go → Go m (acts_run d again (block_acts k body) go)
  block_holds m n k block body go inside behind =
      let leave = leave_holds n k block go behind in
      let body_holds = subst (Go m) (sym (run_joined d again body (act.Leave k (block_end_acts k) ∷ []) go)) (inside _ leave) in
      let enter = kept (act.Enter k) m (acts_run d again (body ++ act.Leave k (block_end_acts k) ∷ []) go) (λ s h. Acts.enter_keeps p t number e split (act.Enter k) (λ b. b) m m k s h) body_holds in
      kept (act.Look k) m _ (λ s h. Acts.look_keeps p t number e split (act.Look k) (λ b. b) m m k s h) enter

  -- ---- copies

  -- the saving of a region, where the scheme does it
  pub saving_holds : (q : Scheme) → p.plan.scheme ≡ q → (m : ℕ) → m < regions t → (go : Onward) → Go (m + 1) go → Holds p Safe e (Now m (m + 1)) (acts_run d again (save_acts q m) go)
  saving_holds Bank is m less go behind = λ at h. behind at (bank_later at.state h)
    where
      bank_later : (s : State) → Now m (m + 1) s → Now (m + 1) (m + 1) s
      bank_later s h = subst (λ k. Open k c t number (at_task p.plan.firsts number []) e (m + 1) (m + 1) s) (sym is) (moved (subst (λ k. Open k c t number (at_task p.plan.firsts number []) e m (m + 1) s) is h))
        where
          moved : Open Bank c t number (at_task p.plan.firsts number []) e m (m + 1) s → Open Bank c t number (at_task p.plan.firsts number []) e (m + 1) (m + 1) s
          moved h = record { task = h.task; entry = h.entry; entry_constants = h.entry_constants; constants = h.constants; shaped = h.shaped; shaped_aside = h.shaped_aside; numbered = h.numbered; finds = h.finds; stands = tt; records = h.records; pointers = h.pointers; target = h.target; copy = h.copy }
  saving_holds Undo is m less go behind =
      let Undone : (n : ℕ) → State → Type 0 = (λ n s. Open Undo c t number (at_task p.plan.firsts number []) e n (m + 1) s) in
      let same : (n : ℕ) (s : State) → Undone n s ≡ Now n (m + 1) s = (λ n s. ap (λ k. Open k c t number (at_task p.plan.firsts number []) e n (m + 1) s) (sym is)) in
      let to_now : (n : ℕ) (s : State) → Undone n s → Now n (m + 1) s = (λ n s h. subst (λ T. T) (same n s) h) in
      let from_now : (n : ℕ) (s : State) → Now n (m + 1) s → Undone n s = (λ n s h. subst (λ T. T) (sym (same n s)) h) in
      let undone_safe : (n : ℕ) (s : State) → Undone n s → Safe e s = (λ n s h. safe n (m + 1) s (to_now n s h)) in
      let lock = act_fine p Safe d (act.Lock m) e (Saved p t number e split m (m + 1)) (λ s. Undone m s ⊎ Undone (m + 1) s) (λ w. Undone (m + 1)) (λ s. either_safe s (undone_safe m s) (undone_safe (m + 1) s)) (λ w. undone_safe (m + 1))
      (λ s h. Saving.lock_goes p t number e split (act.Lock m) (λ b. b) m (m + 1) less s h) (straight go) (λ w at h. behind at (to_now (m + 1) at.state h)) in
      let save = act_fine p Safe d (act.Save m) e (Undone m) (Undone m) (λ w. Saved p t number e split m (m + 1)) (undone_safe m) (λ w s h. undone_safe m s h.0)
      (λ s h. Saving.save_goes p t number e split (act.Save m) (λ b. b) is m (m + 1) less s h) (straight (act_run d again (act.Lock m) go)) (λ w. lock) in
      λ at h. save at (from_now m at.state h)
    where
      either_safe : {A B : Type 0} (s : State) → (A → Safe e s) → (B → Safe e s) → A ⊎ B → Safe e s
      either_safe s f g (inl x) = f x
      either_safe s f g (inr y) = g y

  -- an open state, and a copy's recorded destination may be written
  abbrev Bound : (m k : ℕ) → State → Type 0
  Bound m k s = Now m m s × ToMay p t number e split m k s

  -- a copy's acts behind its saving, by its record
  module _ (m k : ℕ) (copy : IsCopy t k) (region : m ≡ region_of t k + 1) (found : (n : ℕ) × (site_at t.sites k ≡ Some (site.Copy n))) (go : Onward) (behind : Go m go) where
    bound_go : Holds p Safe e (Bound m k) go
    bound_go at h = behind at h.0

    seal_copy : (next : Onward) → Holds p Safe e (Bound m k) next → Go m (act_run d again (act.Seal k) next)
    seal_copy next more = act_fine p Safe d (act.Seal k) e (Now m m) (Now m m) (λ w. Bound m k) (safe m m) (λ w s h. safe m m s h.0)
        (λ s h. Acts.seal_copy_goes p t number e split (act.Seal k) (λ b. b) m k found.0 s h region (site_at t.sites k) found.1) (straight next) (λ w. more)

    from_kept : Holds p Safe e (Bound m k) (act_run d again (act.Transfer k FromKept) go)
    from_kept = act_fine p Safe d (act.Transfer k FromKept) e (Bound m k) (Now m m) (λ w. Now m m) (safe m m) (λ w. safe m m)
        (λ s h. done_goes p Safe d (act.Transfer k FromKept) e (Now m m) (λ w. Now m m) (act_done d (act.Transfer k FromKept) s) (Acts.from_kept_keeps p t number e split (act.Transfer k FromKept) (λ b. b) m m k s h.0 h.1) s h.0)
        (straight go) (λ w. behind)

    put_holds : Holds p Safe e (Bound m k) (act_run d again (act.PutWords k) go)
    put_holds = act_fine p Safe d (act.PutWords k) e (Bound m k) (Now m m) (λ w. Now m m) (safe m m) (λ w. safe m m)
        (λ s h. done_goes p Safe d (act.PutWords k) e (Now m m) (λ w. Now m m) (act_done d (act.PutWords k) s) (Acts.put_keeps p t number e split (act.PutWords k) (λ b. b) m m k s h.0 h.1) s h.0)
        (straight go) (λ w. behind)

    across : (next : Onward) → Go m next → Go m (act_run d again (act.Transfer k Across) next)
    across next more = kept (act.Transfer k Across) m next (λ s h. Acts.across_keeps p t number e split (act.Transfer k Across) (λ b. b) m k s h) more

    anew_holds : Go m (acts_run d again (anew_acts k) go)
    anew_holds =
        let single = across _ (kept (act.KeepWords k) m _ (λ s h. Acts.keep_keeps p t number e split (act.KeepWords k) (λ b. b) m m k s h) (seal_copy go bound_go)) in
        let private = kept (act.Transfer k ToKept) m _ (λ s h. Acts.to_kept_keeps p t number e split (act.Transfer k ToKept) (λ b. b) m m k s h) (seal_copy (act_run d again (act.Transfer k FromKept) go) from_kept) in
        let x = act.Transfer k Across ∷ act.KeepWords k ∷ act.Seal k ∷ [] in
        let y = act.Transfer k ToKept ∷ act.Seal k ∷ act.Transfer k FromKept ∷ [] in
        let z = act.Transfer k Across ∷ [] in
        subst (Go m) (sym (run_by_class d again k x y z go))
        (act_fine p Safe d (act.ByClass k x y z) e (Now m m) (Now m m) (λ w. Now m m) (safe m m) (λ w. safe m m) (λ s h. Acts.class_goes p t number e split (act.ByClass k x y z) (λ b. b) (Now m m) k s h)
        _ (by_ways p Safe e (λ w. Now m m) _ _ _ go single private (across go behind) behind))

    again_holds : Holds p Safe e (Bound m k) (acts_run d again (again_acts k) go)
    again_holds =
        let x = act.PutWords k ∷ [] in
        let y = act.Transfer k FromKept ∷ [] in
        subst (Holds p Safe e (Bound m k)) (sym (run_by_class d again k x y [] go))
        (act_fine p Safe d (act.ByClass k x y []) e (Bound m k) (Bound m k) (λ w. Bound m k) (λ s h. safe m m s h.0) (λ w s h. safe m m s h.0) (λ s h. Acts.class_goes p t number e split (act.ByClass k x y []) (λ b. b) (Bound m k) k s h)
        _ (by_ways p Safe e (λ w. Bound m k) _ _ go go put_holds from_kept bound_go bound_go))

    choose_holds : Go m (act_run d again (act.Choose k (anew_acts k) (again_acts k)) go)
    choose_holds =
        subst (Go m) (sym (run_choose d again k (anew_acts k) (again_acts k) go))
        (act_fine p Safe d (act.Choose k (anew_acts k) (again_acts k)) e (Now m m) (Now m m) (λ w s. Now m m s × HasRecordWhere p t number e split k w s) (safe m m) (λ w s h. safe m m s h.0)
        (λ s h. Acts.copy_goes p t number e split (act.Choose k (anew_acts k) (again_acts k)) (λ b. b) (Now m m) k found.0 s h (site_at t.sites k) found.1)
        _ (by_ways p Safe e (λ w s. Now m m s × HasRecordWhere p t number e split k w s) _ _ go go (λ at h. anew_holds at h.0)
        (λ at h. again_holds at (h.0, λ to is. subst (λ j. W j to.array) (sym region) (h.0.records k to copy h.1 is))) (λ at h. behind at h.0) (λ at h. behind at h.0)))

  site_of_copy : (k : ℕ) → IsCopy t k → (o : Option Site) → site_at t.sites k ≡ o → (n : ℕ) × (site_at t.sites k ≡ Some (site.Copy n))
  site_of_copy k copy None is = absurd (let clash : None ≡ Some (a_copy copy.0) = sym (ap standing_or_none is) ∙ copy.1 in cc clash)
  site_of_copy k copy (Some (site.Io ann)) is = absurd (let clash : Some a_call ≡ Some (a_copy copy.0) = sym (ap standing_or_none is) ∙ copy.1 in cc clash)
  site_of_copy k copy (Some (site.Block ann)) is = absurd (let clash : Some a_block ≡ Some (a_copy copy.0) = sym (ap standing_or_none is) ∙ copy.1 in cc clash)
  site_of_copy k copy (Some (site.Copy n)) is = (n, is)

  copy_holds : (m k : ℕ) → IsCopy t k → region_of t k ≡ m → FineFor (W (m + 1)) (pointing t) (statement_of d k) → (go : Onward) → Go (m + 1) go → Go m (acts_run d again (copy_acts a k) go)
  copy_holds m k copy region fine go behind =
      let choose = choose_holds (m + 1) k copy (ap (λ r. r + 1) (sym region)) (site_of_copy k copy (site_at t.sites k) refl) go behind in
      let save = saving_holds p.plan.scheme refl m (let less = region_there t k in omega (arith, less, region)) (act_run d again (act.Choose k (anew_acts k) (again_acts k)) go) choose in
      let save' : Holds p Safe e (Now m (m + 1)) (acts_run d again (save_acts p.plan.scheme (region_of t k)) (act_run d again (act.Choose k (anew_acts k) (again_acts k)) go)) =
      subst (λ r. Holds p Safe e (Now m (m + 1)) (acts_run d again (save_acts p.plan.scheme r) (act_run d again (act.Choose k (anew_acts k) (again_acts k)) go))) (sym region) save in
      let joined = run_joined d again (save_acts p.plan.scheme (region_of t k)) (act.Choose k (anew_acts k) (again_acts k) ∷ []) go in
      act_keeps p Safe d (act.Value k) e (Now m m) (λ w. Now m (m + 1)) (safe m m) (λ w. safe m (m + 1)) (λ s h. Acts.value_keeps p t number e split (act.Value k) (λ b. b) m m 1 s h (statement_of d k) fine)
      (straight _) (λ w. subst (Holds p Safe e (Now m (m + 1))) (sym joined) save')

  -- ---- statements without sites, and tests

  -- what a part gives to pointers, they may point to
  abbrev pub Given : (ℕ → List ℕ) → Type 0
  Given given = (q x : ℕ) → has (given q) x ≡ true → has (pointing t q) x ≡ true

  plain_holds : (m : ℕ) (s : CoreStmt) → AllByRecursion (TouchMay (W m)) (touches (pointing t) s) → Given (λ q. addresses q s) → (go : Onward) → Go m go → Go m (act_run d again (act.Plain s) go)
  plain_holds m s all given go behind = kept (act.Plain s) m go (λ x h. Acts.plain_keeps p t number e split (act.Plain s) (λ b. b) m m x h (plain_writes s x.store) (plain_done s x.store)
      (plain_writes_may c (pointing t) (W m) (λ z may. may.1) s all given x.store h.pointers)) behind

  test_holds : (m : ℕ) (condition : CoreExpr) (ys ns : List Act) (go : Onward) → Go m (acts_run d again ys go) → Go m (acts_run d again ns go) → Go m go → Go m (act_run d again (act.Test condition ys ns) go)
  test_holds m condition ys ns go one two behind =
      subst (Go m) (sym (run_test d again condition ys ns go))
      (act_fine p Safe d (act.Test condition ys ns) e (Now m m) (Now m m) (λ w. Now m m) (safe m m) (λ w. safe m m) (λ s h. Acts.test_goes p t number e split (act.Test condition ys ns) (λ b. b) (Now m m) s h (value_of condition s.store))
      _ (by_ways p Safe e (λ w. Now m m) _ _ go go one two behind behind))

  -- ---- no copy stands under an `if`

  mutual
    no_turns : (s : CoreStmt) (level : ℕ) (turning : List ℕ) → IsCoreStmt (scope_of c t) level true turning s → turns (touches (pointing t) s) ≡ 0
    no_turns (stmt.Assign x e) level turning w = turns_writing (target_arrays (pointing t) x)
    no_turns (stmt.Point q array i) level turning w = refl
    no_turns (stmt.If' e m yes_row n no_row) level turning w =
        turns_joined (row_touches (pointing t) yes_row) (row_touches (pointing t) no_row) ∙ (let one = no_row_turns yes_row _ turning w.2 in let two = no_row_turns no_row _ turning w.3 in omega (arith, one, two))
    no_turns (stmt.Loop' i count m row) level turning w = no_row_turns row _ _ w.5
    no_turns (stmt.Io k x q args) level turning w = turns_writing (reading_arrays (pointing t) x)
    no_turns (stmt.Block' k m row) level turning w = no_row_turns row _ turning w.1
    no_turns (stmt.Copy k to from n) level turning w = absurd (let clash : true ≡ false = w.1 in cc clash)

    no_row_turns : {n : _} (row : Row_of-CoreStmt n) (level : ℕ) (turning : List ℕ) → AreCoreStmts (scope_of c t) level true turning row → turns (row_touches (pointing t) row) ≡ 0
    no_row_turns end_of-CoreStmt level turning w = refl
    no_row_turns (more_of-CoreStmt s rest) level turning w =
        turns_joined (touches (pointing t) s) (row_touches (pointing t) rest) ∙ (let one = no_turns s level turning w.0 in let two = no_row_turns rest level turning w.1 in omega (arith, one, two))

  -- ---- all statements

  -- each site of the task is valued at what may be written in its region
  module _ (fine : (j : ℕ) → FineFor (W (region_of t j + 1)) (pointing t) (statement_of d j)) where
    -- a statement without sites, where what is said of its sites says nothing
    bare_holds : (s : CoreStmt) (k n : ℕ) → n ≡ 0 → saved t k + turns (touches (pointing t) s) ≡ saved t (k + n) → Allowed W (saved t k) (touches (pointing t) s) → Given (λ q. addresses q s) → (go : Onward) → Go (saved t (k + n)) go → Go (saved t k) (act_run d again (act.Plain s) go)
    bare_holds s k n none turn all given go behind =
        let e0 : k + n ≡ k = omega (arith, none) in
        let zero_turns : turns (touches (pointing t) s) ≡ 0 = (let z = turn ∙ ap (saved t) e0 in omega (arith, z)) in
        plain_holds (saved t k) s (allowed_here W (saved t k) (touches (pointing t) s) zero_turns all) given go (subst (λ j. Go (saved t j) go) e0 behind)

    or_plain : (ks : List ℕ) (s : CoreStmt) (test : Act) (m n : ℕ) (go : Onward) → (length ks ≡ 0 → Go m (act_run d again (act.Plain s) go)) → Go m (act_run d again test go) → Go m (acts_run d again (unless_plain ks s test ∷ []) go)
    or_plain [] s test m n go bare more = bare refl
    or_plain (k ∷ ks) s test m n go bare more = more

    mutual
      stmt_holds : (s : CoreStmt) (level : ℕ) (branched : Bool) → IsCoreStmt (scope_of c t) level branched [] s → (k : ℕ) → Next k (site_numbers s) → Placed t (site_numbers s) (standings c.arrays (pointing t) s)
          → Allowed W (saved t k) (touches (pointing t) s) → Given (λ q. addresses q s) → (go : Onward) → Go (saved t (k + length (site_numbers s))) go → Go (saved t k) (acts_run d again (statement_acts a s) go)
      stmt_holds (stmt.Assign x e) level branched w k next placed all given go behind = bare_holds (stmt.Assign x e) k 0 refl (turns_are c t (stmt.Assign x e) k next placed) all given go behind
      stmt_holds (stmt.Point q array i) level branched w k next placed all given go behind = bare_holds (stmt.Point q array i) k 0 refl (turns_are c t (stmt.Point q array i) k next placed) all given go behind
      stmt_holds (stmt.If' x m yes_row n no_row) level branched w k next placed all given go behind =
          let ks = row_numbers yes_row in
          let ls = row_numbers no_row in
          let parts = placed_parts t ks ls (row_standings c.arrays (pointing t) yes_row) (row_standings c.arrays (pointing t) no_row) (row_long c.arrays (pointing t) yes_row) placed in
          let halves = allowed_parts W (saved t k) (row_touches (pointing t) yes_row) (row_touches (pointing t) no_row) all in
          let front = front_next ks ls k next in
          let back = back_next ks ls k next in
          let none = no_row_turns yes_row _ [] w.2 in
          let none' = no_row_turns no_row _ [] w.3 in
          let t1 = row_turns_are c t yes_row k front parts.0 in
          let t2 = row_turns_are c t no_row (k + length ks) back parts.1 in
          let same : saved t k ≡ saved t (k + length ks) = omega (arith, t1, none) in
          let same' : saved t (k + length ks) ≡ saved t (k + length ks + length ls) = omega (arith, t2, none') in
          let all_long : k + length ks + length ls ≡ k + length (ks ++ ls) = omega (arith, length-append ks ls) in
          let end : saved t (k + length (ks ++ ls)) ≡ saved t (k + length ks) = ap (saved t) (sym all_long) ∙ sym same' in
          let behind_yes = subst (λ j. Go j go) end behind in
          let behind_no = subst (λ j. Go (saved t j) go) (sym all_long) behind in
          let yes_holds = row_holds yes_row _ _ w.2 k front parts.0 halves.0 (λ q z is. given q z (has_front (row_addresses q yes_row) (row_addresses q no_row) z is)) go behind_yes in
          let no_holds = row_holds no_row _ _ w.3 (k + length ks) back parts.1 (subst (λ j. Allowed W j (row_touches (pointing t) no_row)) t1 halves.1) (λ q z is. given q z (has_behind (row_addresses q yes_row) (row_addresses q no_row) z is)) go behind_no in
          let no_here = subst (λ j. Go j (acts_run d again (row_acts a no_row) go)) (sym same) no_holds in
          let behind_here = subst (λ j. Go j go) (sym same) behind_yes in
          or_plain (ks ++ ls) (stmt.If' x m yes_row n no_row) (act.Test x (row_acts a yes_row) (row_acts a no_row)) (saved t k) 0 go
          (λ bare. bare_holds (stmt.If' x m yes_row n no_row) k (length (ks ++ ls)) bare (turns_are c t (stmt.If' x m yes_row n no_row) k next placed) all given go behind)
          (test_holds (saved t k) x (row_acts a yes_row) (row_acts a no_row) go yes_holds no_here behind_here)
      stmt_holds (stmt.Loop' i count m row) level branched w k next placed all given go behind =
          bare_holds (stmt.Loop' i count m row) k (length (row_numbers row)) (ap length w.4) (turns_are c t (stmt.Loop' i count m row) k next placed) all given go behind
      stmt_holds (stmt.Io j x q args) level branched w k next placed all given go behind =
          let is = first_next j [] k next in
          let more = copies_at t k a_call (ap (stands_at t) (sym is) ∙ placed.0.1) in
          let region : region_of t j + 1 ≡ saved t k = ap (λ i. region_of t i + 1) is ∙ (let z : region_of t (k + 1) + 1 ≡ saved t k = omega (arith, more) in z) in
          let same : saved t (k + 1) ≡ saved t k = omega (arith, more) in
          call_holds (saved t k) j placed.0.1 (subst (λ r. FineFor (W r) (pointing t) (statement_of d j)) region (fine j)) go (subst (λ r. Go r go) same behind)
      stmt_holds (stmt.Block' j m row) level branched w k next placed all given go behind =
          let is = first_next j (row_numbers row) k next in
          let more = copies_at t k a_block (ap (stands_at t) (sym is) ∙ placed.0.1) in
          let same : saved t k ≡ saved t (k + 1) = omega (arith, more) in
          let last : k + suc (length (row_numbers row)) ≡ k + 1 + length (row_numbers row) = omega arith in
          let n = saved t (k + 1 + length (row_numbers row)) in
          block_holds (saved t k) n j placed.0.1 (row_acts a row) go
          (λ next_go next_holds. subst (λ r. Go r (acts_run d again (row_acts a row) next_go)) (sym same)
          (row_holds row _ _ w.1 (k + 1) (back_next (j ∷ []) (row_numbers row) k next) placed.1 (subst (λ r. Allowed W r (row_touches (pointing t) row)) same all) given next_go next_holds))
          (subst (λ i. Go (saved t i) go) last behind)
      stmt_holds (stmt.Copy j to from n) level branched w k next placed all given go behind =
          let is = first_next j [] k next in
          let more = copies_at t k (a_copy _) (ap (stands_at t) (sym is) ∙ placed.0.1) in
          let region : region_of t j ≡ saved t k = ap (region_of t) is ∙ more in
          let same : saved t (k + 1) ≡ saved t k + 1 = ap (λ r. r + 1) more in
          copy_holds (saved t k) j (_, placed.0.1) region (subst (λ r. FineFor (W (r + 1)) (pointing t) (statement_of d j)) region (fine j)) go (subst (λ r. Go r go) same behind)

      row_holds : {n : _} (row : Row_of-CoreStmt n) (level : ℕ) (branched : Bool) → AreCoreStmts (scope_of c t) level branched [] row → (k : ℕ) → Next k (row_numbers row) → Placed t (row_numbers row) (row_standings c.arrays (pointing t) row)
          → Allowed W (saved t k) (row_touches (pointing t) row) → Given (λ q. row_addresses q row) → (go : Onward) → Go (saved t (k + length (row_numbers row))) go → Go (saved t k) (acts_run d again (row_acts a row) go)
      row_holds end_of-CoreStmt level branched w k next placed all given go behind = subst (λ j. Go (saved t j) go) (let e0 : k + 0 ≡ k = omega arith in e0) behind
      row_holds (more_of-CoreStmt s rest) level branched w k next placed all given go behind =
          let ks = site_numbers s in
          let ls = row_numbers rest in
          let parts = placed_parts t ks ls (standings c.arrays (pointing t) s) (row_standings c.arrays (pointing t) rest) (same_long c.arrays (pointing t) s) placed in
          let halves = allowed_parts W (saved t k) (touches (pointing t) s) (row_touches (pointing t) rest) all in
          let front = front_next ks ls k next in
          let back = back_next ks ls k next in
          let all_long : k + length (ks ++ ls) ≡ k + length ks + length ls = omega (arith, length-append ks ls) in
          let more = row_holds rest level branched w.1 (k + length ks) back parts.1 (subst (λ j. Allowed W j (row_touches (pointing t) rest)) (turns_are c t s k front parts.0) halves.1)
          (λ q z is. given q z (has_behind (addresses q s) (row_addresses q rest) z is)) go (subst (λ j. Go (saved t j) go) all_long behind) in
          subst (Go (saved t k)) (sym (run_joined d again (statement_acts a s) (row_acts a rest) go))
          (stmt_holds s level branched w.0 k front parts.0 halves.0 (λ q z is. given q z (has_front (addresses q s) (row_addresses q rest) z is)) _ more)

    pub body_holds : (body : List CoreStmt) (level : ℕ) (branched : Bool) → AllByRecursion (IsCoreStmt (scope_of c t) level branched []) body → (k : ℕ) → Next k (all_numbers body) → Placed t (all_numbers body) (all_standings c.arrays (pointing t) body)
        → Allowed W (saved t k) (all_touches (pointing t) body) → Given (λ q. all_addresses q body) → (go : Onward) → Go (saved t (k + length (all_numbers body))) go → Go (saved t k) (acts_run d again (body_acts a body) go)
    body_holds [] level branched w k next placed all given go behind = subst (λ j. Go (saved t j) go) (let e0 : k + 0 ≡ k = omega arith in e0) behind
    body_holds (s ∷ rest) level branched w k next placed all given go behind =
        let ks = site_numbers s in
        let ls = all_numbers rest in
        let parts = placed_parts t ks ls (standings c.arrays (pointing t) s) (all_standings c.arrays (pointing t) rest) (same_long c.arrays (pointing t) s) placed in
        let halves = allowed_parts W (saved t k) (touches (pointing t) s) (all_touches (pointing t) rest) all in
        let front = front_next ks ls k next in
        let back = back_next ks ls k next in
        let all_long : k + length (ks ++ ls) ≡ k + length ks + length ls = omega (arith, length-append ks ls) in
        let more = body_holds rest level branched w.1 (k + length ks) back parts.1 (subst (λ j. Allowed W j (all_touches (pointing t) rest)) (turns_are c t s k front parts.0) halves.1)
        (λ q z is. given q z (has_behind (addresses q s) (all_addresses q rest) z is)) go (subst (λ j. Go (saved t j) go) all_long behind) in
        subst (Go (saved t k)) (sym (run_joined d again (statement_acts a s) (body_acts a rest) go))
        (stmt_holds s level branched w.0 k front parts.0 halves.0 (λ q z is. given q z (has_front (addresses q s) (all_addresses q rest) z is)) _ more)

  -- ---- exits

  pub exit_holds : (m : ℕ) (x : CoreExit) (go : Onward) → Go m go → Go m (act_run d again (exit_act x) go)
  exit_holds m (exit.Next n) go behind = commit_holds p t number e (Now m m) (λ s h. (h.shaped, h.shaped_aside, h.numbered, h.constants)) again fine_again n go
  exit_holds m exit.Stop go behind = commit_holds p t number e (Now m m) (λ s h. (h.shaped, h.shaped_aside, h.numbered, h.constants)) again fine_again 0 go
  exit_holds m (exit.Choose' condition u (more_of-CoreExit x end_of-CoreExit) v (more_of-CoreExit y end_of-CoreExit)) go behind =
      test_holds m condition (exit_act x ∷ []) (exit_act y ∷ []) go (exit_holds m x go behind) (exit_holds m y go behind) behind
