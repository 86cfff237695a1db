-- A kept word is taken, a call's word is written; and all acts of a call.
use Rattle.std.specs.Prelude.{length, Option, Some, None}
use Rattle.std.proofs.Common.{◌≡◌, ℕ, suc, ◌+◌, true, false, List, [], ◌∷◌, refl}
use Rattle.devices.specs.Journal.{Place}
use Rattle.devices.specs.World.{IsWithinLimits}
use Rattle.io_depend.specs.Depend.{dependents}
use Rattle.task_ast.specs.WellFormed.{IsWellFormed}
use Rattle.task_ast.specs.declared.core_form.CoreExpr.{CoreExpr}
use Rattle.task_ast.specs.declared.core_form.CoreTarget.{CoreTarget}
use Rattle.task_attempts.specs.Boots.{task_of}
use Rattle.walk_run.specs.declared.place.Place as walked
use Rattle.walk_run.specs.PlainWrites.{sets}
use Rattle.walk_run.specs.Store.{put_word}
use Rattle.word_machine.specs.State.{Program}
use Rattle.word_machine.specs.Straight.{Spot}
use Rattle.line_laws.specs.Standing.{Lie}
use Rattle.run_plan.specs.declared.act.Act.{Act}
use Rattle.run_plan.specs.declared.act.Act.TheVariants as act
use Rattle.run_plan.specs.Cells.{CellWrite, State}
use Rattle.run_plan.specs.Deeds.{act_done, words_put, write_done}
use Rattle.run_plan.specs.PlanOf.{around, call_acts, issue_acts}
use Rattle.run_plan.specs.Runs.{Onward, act_steps, acts_run, straight}
use Rattle.run_plan.specs.Small.{Doing, core_of, have}
use Rattle.run_plan.specs.Words.{home_writes}
use Rattle.word_code.specs.ActCode.{act_code}
use Rattle.word_code.specs.Sizes.{act_size}
use Rattle.code_places.specs.Placed.{ActsLie}
use Rattle.act_refines.specs.Does.{DoesAct, HasAim, Holds, Nothing, frame_of}
use Rattle.code_cuts.specs.Asked.{HasAimed}
use Rattle.code_runs.specs.Following.{AnyWay}
use Rattle.code_runs.proofs.Placing.{Keeps, silent_task}
use Rattle.site_runs.specs.InAttempts.{In, LeadsOn}
use Rattle.site_runs.proofs.Behind.{attempt_behind, attempt_kept, silent_frame, something}
use Rattle.site_runs.proofs.Leading.{straight_leads}
use Rattle.site_runs.specs.Calls.{CallsLead, IsCallOf}
use Rattle.site_runs.proofs.CallLaws.{CallLaws}
use Rattle.site_runs.proofs.Checked.{dependent_sites, task_formed}
use Rattle.site_runs.proofs.Choosing.{call_chooses}
use Rattle.site_runs.proofs.Issuing.{issue_list_leads}
use Rattle.site_runs.proofs.CallStages.{Kept, Looked, Worded, aims, valued_kept}
use Rattle.site_runs.proofs.CallValues.{call_looks, value_leads}

module _ (p : Program) (place_of : ℕ → Place) (law : CallLaws p place_of) (d : Doing) (number : ℕ) (well : IsWellFormed (core_of d)) (here : task_of (core_of d) number ≡ Some d.setting.task)
    (k : ℕ) (x : Option CoreTarget) (q : ℕ) (args : List CoreExpr) (call : IsCallOf d number k x q args) (blocks : List ℕ) where
  abbrev Claim : ℕ → Spot → State → Type 0
  Claim = In p place_of d number blocks

  abbrev WithRecord : ℕ → Spot → State → Type 0
  WithRecord = Kept p place_of d number k x args blocks

  abbrev AfterWord : ℕ → Spot → State → Type 0
  AfterWord = Worded p place_of d number k x args blocks

  -- ---- a kept word is taken

  take_keeps : (n : ℕ) (m : Spot) (s : State) → WithRecord n m s → Keeps p place_of d number (AnyWay AfterWord) n m s (act_done d (act.Take k) s)
  take_keeps n m s h = λ steps there gone.
      ((attempt_behind p place_of d number blocks n steps m there _ s _ h.0.0.0 gone refl refl refl refl h.0.0.0.within, valued_kept (aims x) (length args) m there s _ refl refl h.0.0.1), something _)

  take_leads : (at next most : ℕ) (go : Onward) → Lie p at (act_code (frame_of d number) true (act.Take k) at next) → LeadsOn p place_of d AfterWord (suc most) next go → LeadsOn p place_of d WithRecord (suc most) at (act_steps d (act.Take k) (straight go))
  take_leads at next most go lies leads =
      straight_leads p place_of d number well here true WithRecord AfterWord (Holds k) Nothing (act.Take k) at next most go (λ m s related. related) (λ way. refl) (law.takes d number k call.ann call.numbered call.there) (law.takes_cut d number k)
      (λ n m s h. h.0.0.0.common) (λ n m s related h. (h.1, tt)) (λ n m s related h. take_keeps n m s h) lies leads

  -- ---- the word is written

  write_does : (o : Option CoreTarget) → IsCallOf d number k o q args → DoesAct p place_of d number false (act.Write k) (HasAim (aims o))
  write_does None h = law.writes_nothing d number k q args h.laid
  write_does (Some target) h = law.writes d number k q target args h.laid

  put_keeps : (n : ℕ) (m : Spot) (s : State) → AfterWord n m s → (at : walked.Place) (o : Option ℕ) → Keeps p place_of d number (AnyWay Claim) n m s (have o (λ word. words_put (core_of d) (sets at word ∷ []) (put_word at word s.store)))
  put_keeps n m s h at None = tt
  put_keeps n m s h at (Some word) = λ steps there gone.
      let writes : List CellWrite = home_writes (core_of d) (sets at word ∷ []) in
      attempt_kept p place_of d number blocks n steps m there _ s _ h.0.0 gone (silent_task (core_of d) d.scheme writes s s.task) (silent_frame (core_of d) writes s) h.0.0.within

  write_keeps : (n : ℕ) (m : Spot) (s : State) → AfterWord n m s → (o : Option (Option walked.Place)) → Keeps p place_of d number (AnyWay Claim) n m s (have o (λ target. write_done (core_of d) target s))
  write_keeps n m s h None = tt
  write_keeps n m s h (Some None) = λ steps there gone. attempt_kept p place_of d number blocks n steps m there [] s s h.0.0 gone refl refl h.0.0.within
  write_keeps n m s h (Some (Some at)) = put_keeps n m s h at s.frame.word

  write_leads : (at next most : ℕ) (go : Onward) → Lie p at (act_code (frame_of d number) false (act.Write k) at next) → LeadsOn p place_of d Claim (suc most) next go → LeadsOn p place_of d AfterWord (suc most) at (act_steps d (act.Write k) (straight go))
  write_leads at next most go lies leads =
      straight_leads p place_of d number well here false AfterWord Claim (HasAim (aims x)) HasAimed (act.Write k) at next most go (λ m s related. related) (λ way. refl) (write_does x call) (law.writes_cut d number k)
      (λ n m s h. h.0.0.common) (λ n m s related h. (h.0.1.aim, record { target = h.0.1.target; word = λ place is. h.1 })) (λ n m s related h. write_keeps n m s h s.frame.target) lies leads

  -- ---- the whole call

  pub call_leads : (most at next : ℕ) (again go : Onward) → IsWithinLimits d.setting.rules.world → ActsLie p (frame_of d number) false (call_acts (around d.scheme d.setting.task) k) at next → LeadsOn p place_of d Claim (suc most) next go
      → LeadsOn p place_of d Claim (suc most) at (acts_run d again (call_acts (around d.scheme d.setting.task) k) go)
  call_leads most at next again go limits lies leads =
      let issue : List Act = issue_acts (around d.scheme d.setting.task) k in
      let keep : List Act = act.Take k ∷ [] in
      let look_at : ℕ = at + act_size (frame_of d number) (act.Value k) in
      let choose_at : ℕ = look_at + act_size (frame_of d number) (act.Look k) in
      let write_at : ℕ = choose_at + act_size (frame_of d number) (act.Choose k issue keep) in
      let write_go : Onward = acts_run d again (act.Write k ∷ []) go in
      let choose_go : Onward = acts_run d again (act.Choose k issue keep ∷ act.Write k ∷ []) go in
      let look_go : Onward = acts_run d again (act.Look k ∷ act.Choose k issue keep ∷ act.Write k ∷ []) go in
      let written : LeadsOn p place_of d AfterWord (suc most) write_at write_go = write_leads write_at next most go lies.1.1.1.0 leads in
      let chosen : LeadsOn p place_of d (Looked p place_of d number k x args blocks) (suc most) choose_at choose_go =
      call_chooses p place_of law d number well here k x q args call blocks issue keep choose_at write_at most again write_go lies.1.1.0
      (λ list_at laid. issue_list_leads p place_of law d number well here k x q args call blocks (dependents d.setting.task k) list_at write_at most again write_go limits
      (dependent_sites (core_of d) d.setting.task k (task_formed (core_of d) number d.setting.task well here) call.numbered) written laid)
      (λ list_at laid. take_leads list_at write_at most write_go laid.0 written) in
      value_leads p place_of law d number well here k x q args call blocks at look_at most look_go lies.0 (call_looks p place_of law d number well here k x q args call blocks look_at choose_at most choose_go lies.1.0 chosen)

-- each call of the task
pub calls_lead : (p : Program) (place_of : ℕ → Place) → CallLaws p place_of → (d : Doing) (number : ℕ) → IsWellFormed (core_of d) → task_of (core_of d) number ≡ Some d.setting.task → IsWithinLimits d.setting.rules.world → CallsLead p place_of d number
calls_lead p place_of law d number well here limits = λ k x q args call blocks most at next again go lies leads. call_leads p place_of law d number well here k x q args call blocks most at next again go limits lies leads
