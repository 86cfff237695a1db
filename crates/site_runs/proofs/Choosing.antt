-- A call chooses: it goes into one of its lists, and where it keeps its record holds.
use Rattle.std.specs.Prelude.{cond, length, Option, Some, None}
use Rattle.std.proofs.Common.{◌≡◌, ◌∙◌, ℕ, suc, ◌-◌, Bool, true, false, List, [], refl, sym, subst, eqb-true}
use Rattle.devices.specs.Journal.{Place}
use Rattle.io_annot.specs.Choice.{choice}
use Rattle.io_annot.specs.declared.choice.Choice.{Choice}
use Rattle.io_annot.specs.declared.choice.Choice.TheVariants.{Keep, Issue}
use Rattle.io_annot.specs.declared.choice.Mode.{Mode}
use Rattle.task_ast.specs.WellFormed.{IsWellFormed}
use Rattle.task_ast.specs.declared.core_form.CoreExpr.{CoreExpr}
use Rattle.task_ast.specs.declared.core_form.CoreTarget.{CoreTarget}
use Rattle.task_ast.specs.declared.tree.Ann.{Ann}
use Rattle.task_attempts.specs.Boots.{task_of}
use Rattle.word_machine.specs.State.{Program}
use Rattle.word_machine.specs.Straight.{Spot}
use Rattle.run_plan.specs.declared.act.Act.{Act}
use Rattle.run_plan.specs.declared.act.Act.TheVariants as act
use Rattle.run_plan.specs.Cells.{State}
use Rattle.run_plan.specs.Deeds.{by_choice, choose_done, reading_held}
use Rattle.run_plan.specs.Runs.{Onward, act_run}
use Rattle.run_plan.specs.Small.{Doing, core_of, does, flag_holds, have, same}
use Rattle.act_refines.specs.Does.{IsEarlier, frame_of}
use Rattle.act_refines.proofs.Records.{at_site}
use Rattle.code_cuts.specs.Asked.{IsTimed}
use Rattle.code_places.specs.Placed.{ActLies}
use Rattle.code_runs.proofs.Placing.{Gone, Keeps, later}
use Rattle.site_runs.specs.InAttempts.{LeadsOn}
use Rattle.site_runs.proofs.Behind.{attempt_kept}
use Rattle.site_runs.proofs.Leading.{no_leads}
use Rattle.site_runs.proofs.Lists.{ListLeads, choose_leads}
use Rattle.site_runs.specs.Calls.{IsCallOf}
use Rattle.site_runs.proofs.CallLaws.{CallLaws}
use Rattle.site_runs.proofs.Checked.{site_limit, task_formed}
use Rattle.site_runs.proofs.CallStages.{Chosen, Kept, Looked, aims, looked_kept, valued_kept}

-- only a record that holds is kept
kept_holds : (mode : Mode) (ann : Ann) (b : Bool) (value stamp time word : ℕ) → choice mode ann (cond b (Some (value, stamp)) None) time ≡ Keep word → b ≡ true
kept_holds mode ann true value stamp time word is = refl
kept_holds mode ann false value stamp time word is = absurd (cc is)

module _ (p : Program) (place_of : ℕ → Place) (law : CallLaws p place_of) (d : Doing) (number : ℕ) (well : IsWellFormed (core_of d)) (here : task_of (core_of d) number ≡ Some d.setting.task)
    (k : ℕ) (x : Option CoreTarget) (q : ℕ) (args : List CoreExpr) (call : IsCallOf d number k x q args) (blocks : List ℕ) where
  abbrev Before : ℕ → Spot → State → Type 0
  Before = Looked p place_of d number k x args blocks

  -- what was looked at stays
  looked_on : (n steps : ℕ) (m there : Spot) (s : State) → Before n m s → Gone p place_of d number n steps m there [] s s → Before (n - steps) there s
  looked_on n steps m there s h gone =
      ((attempt_kept p place_of d number blocks n steps m there [] s s h.0.0 gone refl refl h.0.0.within, valued_kept (aims x) (length args) m there s s refl refl h.0.1), looked_kept m there s s (later p place_of d number n steps m there [] s s gone) refl refl h.1)

  choice_keeps : (n : ℕ) (m : Spot) (s : State) (mode : Mode) (time : ℕ) → Before n m s → (c : Choice) → choice mode call.ann (reading_held s k) time ≡ c → Keeps p place_of d number (Chosen p place_of d number k x args blocks) n m s (does [] same (by_choice c))
  choice_keeps n m s mode time h (Keep word) is = λ steps there gone. (looked_on n steps m there s h gone, eqb-true (s.cells.flag k) s.epoch (kept_holds mode call.ann (flag_holds s k) (s.cells.value k) (s.cells.stamp k) time word is))
  choice_keeps n m s mode time h Issue is = λ steps there gone. looked_on n steps m there s h gone

  choose_keeps : (n : ℕ) (m : Spot) (s : State) → Before n m s → (o : Option Mode) (u : Option ℕ)
      → Keeps p place_of d number (Chosen p place_of d number k x args blocks) n m s (have o (λ mode. have u (λ time. does [] same (by_choice (choice mode call.ann (reading_held s k) time)))))
  choose_keeps n m s h None u = tt
  choose_keeps n m s h (Some mode) None = tt
  choose_keeps n m s h (Some mode) (Some time) = choice_keeps n m s mode time h (choice mode call.ann (reading_held s k) time) refl

  pub call_chooses : (issue keep : List Act) (at next most : ℕ) (again go : Onward) → ActLies p (frame_of d number) false (act.Choose k issue keep) at next
      → ListLeads p place_of d number well here false Before (suc most) issue next again go → ListLeads p place_of d number well here true (Kept p place_of d number k x args blocks) (suc most) keep next again go
      → LeadsOn p place_of d Before (suc most) at (act_run d again (act.Choose k issue keep) go)
  call_chooses issue keep at next most again go lies first second =
      choose_leads p place_of d number well here false Before (Chosen p place_of d number k x args blocks) (IsEarlier k) IsTimed k issue keep at next most again go
      (law.chooses d number k call.ann issue keep call.numbered call.there (site_limit (core_of d) d.setting.task (k - 1) call.ann (task_formed (core_of d) number d.setting.task well here) call.there)) (law.chooses_cut d number k call.ann issue keep call.numbered call.there)
      (λ n m s h. h.0.0.common) (λ n m s related h. ((λ held u is. h.1.stamps u k is), record { mode = h.0.0.mode; time = h.1.time }))
      (λ n m s related h. subst (λ o. Keeps p place_of d number (Chosen p place_of d number k x args blocks) n m s (choose_done o k s)) (sym (at_site d.setting.task.sites k call.numbered ∙ call.there)) (choose_keeps n m s h s.frame.mode s.frame.time)) lies
      first second (no_leads p place_of d (suc most) next go) (no_leads p place_of d (suc most) next go)
