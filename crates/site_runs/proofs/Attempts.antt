-- The attempts of a task lead on, with the sites of its statements.
use Rattle.std.specs.Prelude.{◌≢◌, Option, Some, None}
use Rattle.std.proofs.Common.{◌≡◌, ◌∙◌, ℕ, suc, ◌+◌, true, false, List, [], ◌∷◌, ◌++◌, refl, sym, ap, subst, arith}
use Rattle.devices.specs.Journal.{Place}
use Rattle.io_annot.specs.declared.choice.Mode.{Mode}
use Rattle.io_annot.specs.declared.choice.Mode.TheVariants.{Own}
use Rattle.region_split.specs.Owners.{all_first}
use Rattle.task_ast.specs.WellFormed.{IsCoreTask, IsWellFormed}
use Rattle.task_ast.specs.declared.core_form.Core.{Core}
use Rattle.task_ast.specs.declared.core_form.CoreExit.{CoreExit, end_of-CoreExit, more_of-CoreExit}
use Rattle.task_ast.specs.declared.core_form.CoreExit.TheVariants as exit
use Rattle.task_ast.specs.declared.core_form.CoreTask.{CoreTask}
use Rattle.task_attempts.specs.Boots.{task_of}
use Rattle.word_machine.specs.State as machine
use Rattle.word_machine.specs.State.{Program}
use Rattle.word_machine.specs.Straight.{Spot}
use Rattle.run_plan.specs.declared.act.Act.{Act}
use Rattle.run_plan.specs.declared.act.Act.TheVariants as act
use Rattle.run_plan.specs.Cells.{Frame, State}
use Rattle.run_plan.specs.PlanOf.{around, body_acts, exit_act, save_acts, task_acts}
use Rattle.run_plan.specs.Runs.{Onward, act_run, acts_run, nothing, straight}
use Rattle.run_plan.specs.RunRows.{run_joined}
use Rattle.run_plan.specs.Small.{Doing, core_of}
use Rattle.word_code.specs.ActCode.{acts_entry}
use Rattle.word_code.specs.Frames as frames
use Rattle.word_code.specs.Sizes.{act_size, acts_size}
use Rattle.code_places.specs.Placed.{ActsLie}
use Rattle.act_refines.specs.Between.{AreRelated}
use Rattle.act_refines.specs.Does.{frame_of}
use Rattle.code_cuts.specs.Lasting.{Lasts}
use Rattle.code_runs.specs.Attempts.{LeadsFirst}
use Rattle.code_runs.specs.Claims.{Common, IsClaim}
use Rattle.code_runs.specs.Following.{ActRuns, AnyWay, LeadsAgain}
use Rattle.code_runs.proofs.BareActs.{Starts, begin_runs}
use Rattle.code_runs.proofs.BareLaws.{BareLaws}
use Rattle.code_runs.proofs.BarePlans.{all_run, exits, save_where}
use Rattle.code_runs.proofs.Following.{act_follows, commit_follows}
use Rattle.code_runs.proofs.InAttempts.{test_follows}
use Rattle.code_runs.proofs.InRows.{acts_follow}
use Rattle.site_runs.specs.InAttempts.{In, LeadsOn}
use Rattle.site_runs.specs.Calls.{CallsLead}
use Rattle.site_runs.specs.Bodies.{BlocksLead}
use Rattle.site_runs.specs.Copies.{CopiesLead}
use Rattle.site_runs.proofs.Claims.{in_claim}
use Rattle.site_runs.proofs.Lying.{entered, lies_parts}
use Rattle.site_runs.proofs.Statements.{task_body_leads}

-- a mode that is there
made : (o : Option Mode) (m : Mode) → o ≡ Some m → o ≢ None
made None m is none = absurd (cc is)
made (Some x) m is none = absurd (cc none)

module _ (p : Program) (place_of : ℕ → Place) (law : BareLaws p place_of) (d : Doing) (number : ℕ) (well : IsWellFormed (core_of d)) (here : task_of (core_of d) number ≡ Some d.setting.task)
    (formed : IsCoreTask (core_of d) d.setting.task) (firsts : d.firsts ≡ all_first (core_of d) d.setting.task)
    (calls : CallsLead p place_of d number) (copies : CopiesLead p place_of d number) (blocks_lead : BlocksLead p place_of d number)
    (most : ℕ) (again : Onward) (leads : LeadsAgain p place_of d (Lasts p d.setting.rules d.scheme) (Common p place_of d.setting.rules d.scheme) most again) where
  abbrev c : Core
  c = core_of d

  abbrev t : CoreTask
  t = d.setting.task

  abbrev f : frames.Frame
  f = frame_of d number

  abbrev Now : machine.State → State → Type 0
  Now = Lasts p d.setting.rules d.scheme

  abbrev Ready : ℕ → ℕ → Spot → State → Type 0
  Ready = Common p place_of d.setting.rules d.scheme

  -- in no block
  abbrev Outside : ℕ → Spot → State → Type 0
  Outside = In p place_of d number []

  claim : IsClaim p place_of d.setting.rules d.scheme number t Outside
  claim = in_claim p place_of d number []

  -- an exit leads on by commits alone
  exiting : (e : CoreExit) (at next : ℕ) → ActRuns p place_of d number Now Ready Outside (exit_act e) at next → LeadsOn p place_of d Outside (suc most) at (act_run d again (exit_act e) nothing)
  exiting (exit.Next u) at next runs = commit_follows p place_of d number Now Ready Outside u at next most again runs.0 runs.1 leads
  exiting exit.Stop at next runs = commit_follows p place_of d number Now Ready Outside 0 at next most again runs.0 runs.1 leads
  exiting (exit.Choose' e u (more_of-CoreExit x end_of-CoreExit) v (more_of-CoreExit y end_of-CoreExit)) at next runs =
      test_follows p place_of d number Now Ready Outside most again e (exit_act x) (exit_act y) at next runs (λ at runs. exiting x at next runs) (λ at runs. exiting y at next runs)

  -- an attempt's beginning makes a mode, in no block
  starts : Starts p place_of law d number well here Outside
  starts n m s known within frame = record { common = known; within = within; mode = made s.frame.mode Own (ap (λ (f : Frame). f.mode) frame); around = tt }

  -- the acts of a task
  pub attempt_leads : (at : ℕ) → ActsLie p f false (task_acts d.scheme number t) at 0 → LeadsFirst p place_of d Now (Ready number) (suc most) at (acts_run d again (task_acts d.scheme number t) nothing)
  attempt_leads at lies =
      let saves : List Act = save_acts d.scheme 0 in
      let body : List Act = body_acts (around d.scheme t) t.body in
      let ends : List Act = exit_act t.exit ∷ [] in
      let behind_at : ℕ = at + act_size f (act.Begin number) in
      let end_at : ℕ = behind_at + acts_size f (saves ++ body) in
      let body_at : ℕ = behind_at + acts_size f saves in
      let parts = lies_parts p f false (saves ++ body) ends behind_at 0 lies.1 in
      let front = lies_parts p f false saves body behind_at end_at parts.0 in
      let exit_runs : ActRuns p place_of d number Now Ready Outside (exit_act t.exit) end_at 0 = exits p place_of law d number well here formed firsts Outside claim t.exit 1 formed.exit end_at 0 parts.1.0 in
      let exit_leads : LeadsOn p place_of d Outside (suc most) end_at (acts_run d again ends nothing) = exiting t.exit end_at 0 exit_runs in
      let body_so : LeadsOn p place_of d Outside (suc most) (acts_entry body body_at end_at) (acts_run d again body (acts_run d again ends nothing)) =
      task_body_leads p place_of law d number well here formed calls copies blocks_lead most body_at end_at again (acts_run d again ends nothing) front.1 exit_leads in
      let saves_so : LeadsOn p place_of d Outside (suc most) (acts_entry saves behind_at (acts_entry body body_at end_at)) (acts_run d again saves (acts_run d again body (acts_run d again ends nothing))) =
      acts_follow p place_of d number Now Ready Outside most again leads saves behind_at (acts_entry body body_at end_at) (acts_run d again body (acts_run d again ends nothing))
      (all_run p place_of law d number well here formed firsts Outside claim saves behind_at (acts_entry body body_at end_at) (save_where p place_of law d number well here formed firsts Outside claim d.scheme 0 (omega arith) refl) front.0) body_so in
      let entry_is : acts_entry ((saves ++ body) ++ ends) behind_at 0 ≡ acts_entry saves behind_at (acts_entry body body_at end_at) = entered p f false (saves ++ body) ends behind_at 0 ∙ entered p f false saves body behind_at end_at in
      let run_is : acts_run d again ((saves ++ body) ++ ends) nothing ≡ acts_run d again saves (acts_run d again body (acts_run d again ends nothing)) = run_joined d again (saves ++ body) ends nothing ∙ run_joined d again saves body (acts_run d again ends nothing) in
      let all_so : LeadsOn p place_of d Outside (suc most) (acts_entry ((saves ++ body) ++ ends) behind_at 0) (acts_run d again ((saves ++ body) ++ ends) nothing) =
      subst (λ pc. LeadsOn p place_of d Outside (suc most) pc (acts_run d again ((saves ++ body) ++ ends) nothing)) (sym entry_is) (subst (LeadsOn p place_of d Outside (suc most) (acts_entry saves behind_at (acts_entry body body_at end_at))) (sym run_is) saves_so) in
      act_follows p place_of d number Now (Ready number) (AnyWay Outside) (AreRelated p d true) (act.Begin number) at (acts_entry ((saves ++ body) ++ ends) behind_at 0) most (straight (acts_run d again ((saves ++ body) ++ ends) nothing)) (λ m s related. related)
      (begin_runs p place_of law d number well here Outside starts number at (acts_entry ((saves ++ body) ++ ends) behind_at 0) lies.0) (λ s way goes. all_so)
