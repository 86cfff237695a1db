-- A call issues: its record and those that depend on it are dropped, and only then it is issued, and sealed.
use Rattle.std.specs.Prelude.{cond, length, map, Option, Some, None, ◌≢◌}
use Rattle.std.specs.List.{AllByRecursion}
use Rattle.std.proofs.Common.{◌≡◌, ◌∙◌, ℕ, suc, ◌+◌, ◌<◌, ◌≤◌, ◌==◌, Bool, true, false, List, [], ◌∷◌, ◌++◌, refl, sym, subst, arith, eq-eqb}
use Rattle.devices.specs.Journal.{Place, issues}
use Rattle.devices.specs.Reading.{reading_in}
use Rattle.devices.specs.World.{IsWithinLimits}
use Rattle.task_ast.specs.WellFormed.{IsWellFormed}
use Rattle.task_ast.specs.declared.core_form.CoreExpr.{CoreExpr}
use Rattle.task_ast.specs.declared.core_form.CoreTarget.{CoreTarget}
use Rattle.task_attempts.specs.Boots.{task_of}
use Rattle.task_attempts.specs.Calls.{number_of}
use Rattle.word_machine.specs.State.{Program}
use Rattle.word_machine.specs.Straight.{Spot}
use Rattle.line_laws.specs.Standing.{Lie}
use Rattle.run_plan.specs.declared.act.Act.{Act}
use Rattle.run_plan.specs.declared.act.Act.TheVariants as act
use Rattle.run_plan.specs.Cells.{State, puts_flag, puts_stamp, puts_value}
use Rattle.run_plan.specs.Deeds.{act_done, issue_done, seal_done, sealed}
use Rattle.run_plan.specs.Runs.{Onward, act_steps, acts_run, straight}
use Rattle.run_plan.specs.Small.{Doing, Done, ahead, core_of, does, have, showing}
use Rattle.word_code.specs.ActCode.{act_code, acts_entry}
use Rattle.word_code.specs.Sizes.{act_size}
use Rattle.cell_laws.specs.Standing.{IsSite}
use Rattle.act_refines.specs.Does.{IsCalledWith, IsFree, Nothing, frame_of}
use Rattle.act_refines.proofs.Records.{at_site}
use Rattle.code_cuts.specs.Asked.{HasArguments, SealsCall}
use Rattle.code_places.specs.Placed.{ActsLie}
use Rattle.code_runs.specs.Following.{AnyWay}
use Rattle.code_runs.proofs.Placing.{Keeps, later}
use Rattle.site_runs.specs.InAttempts.{LeadsOn}
use Rattle.site_runs.proofs.Behind.{attempt_behind, attempt_kept, something}
use Rattle.site_runs.proofs.Leading.{straight_leads}
use Rattle.site_runs.specs.Calls.{IsCallOf}
use Rattle.site_runs.proofs.CallLaws.{CallLaws}
use Rattle.site_runs.proofs.Checked.{number_fits, reading_fits}
use Rattle.site_runs.proofs.CallStages.{Dropped, Issued, Looked, Worded, aims, looked_kept, valued_kept}

-- a record that is dropped is free, and one that was free stays so
dropped_free : (b : Bool) (flag epoch : ℕ) → 0 < epoch → flag ≢ epoch → cond b 0 flag ≢ epoch
dropped_free true flag epoch started free is = absurd (omega (arith, started, is))
dropped_free false flag epoch started free is = free is

own_free : (b : Bool) (flag epoch : ℕ) → b ≡ true → 0 < epoch → cond b 0 flag ≢ epoch
own_free true flag epoch own started is = absurd (omega (arith, started, is))
own_free false flag epoch own started is = absurd (cc own)

module _ (p : Program) (place_of : ℕ → Place) (law : CallLaws p place_of) (d : Doing) (number : ℕ) (well : IsWellFormed (core_of d)) (here : task_of (core_of d) number ≡ Some d.setting.task)
    (k : ℕ) (x : Option CoreTarget) (q : ℕ) (args : List CoreExpr) (call : IsCallOf d number k x q args) (blocks : List ℕ) where
  abbrev AfterLook : ℕ → Spot → State → Type 0
  AfterLook = Looked p place_of d number k x args blocks

  abbrev AfterDrop : ℕ → Spot → State → Type 0
  AfterDrop = Dropped p place_of d number k x args blocks

  abbrev AfterIssue : ℕ → Spot → State → Type 0
  AfterIssue = Issued p place_of d number k x args blocks

  abbrev AfterWord : ℕ → Spot → State → Type 0
  AfterWord = Worded p place_of d number k x args blocks

  -- ---- dropping

  drop_keeps : (j n : ℕ) (m : Spot) (s : State) → AfterLook n m s → cond (j == k) 0 (s.cells.flag k) ≢ s.epoch → Keeps p place_of d number (AnyWay AfterDrop) n m s (act_done d (act.Drop j) s)
  drop_keeps j n m s h free = λ steps there gone.
      let on : m.clock ≤ there.clock = later p place_of d number n steps m there _ s _ gone in
      (((attempt_kept p place_of d number blocks n steps m there _ s _ h.0.0 gone refl refl h.0.0.within, valued_kept (aims x) (length args) m there s _ refl refl h.0.1), looked_kept m there s _ on refl refl h.1), free)

  -- the call's own record
  own_drops : (at next most : ℕ) (go : Onward) → Lie p at (act_code (frame_of d number) false (act.Drop k) at next) → LeadsOn p place_of d AfterDrop (suc most) next go → LeadsOn p place_of d AfterLook (suc most) at (act_steps d (act.Drop k) (straight go))
  own_drops at next most go lies leads =
      straight_leads p place_of d number well here false AfterLook AfterDrop Nothing Nothing (act.Drop k) at next most go (λ m s related. related) (λ way. refl) (law.drops d number k call.numbered) (law.drops_cut d number k call.numbered)
      (λ n m s h. h.0.0.common) (λ n m s related h. (tt, tt)) (λ n m s related h. drop_keeps k n m s h (own_free (k == k) (s.cells.flag k) s.epoch (eq-eqb k k refl) related.memory.tidy.started)) lies leads

  -- one that depends on it
  other_drops : (j at next most : ℕ) (go : Onward) → IsSite j → Lie p at (act_code (frame_of d number) false (act.Drop j) at next) → LeadsOn p place_of d AfterDrop (suc most) next go → LeadsOn p place_of d AfterDrop (suc most) at (act_steps d (act.Drop j) (straight go))
  other_drops j at next most go numbered lies leads =
      straight_leads p place_of d number well here false AfterDrop AfterDrop Nothing Nothing (act.Drop j) at next most go (λ m s related. related) (λ way. refl) (law.drops d number j numbered) (law.drops_cut d number j numbered)
      (λ n m s h. h.0.0.0.common) (λ n m s related h. (tt, tt)) (λ n m s related h. drop_keeps j n m s h.0 (dropped_free (j == k) (s.cells.flag k) s.epoch related.memory.tidy.started h.1)) lies leads

  -- ---- issuing

  -- what an issue does with the words that were valued
  abbrev issued_with : Option (List ℕ) → State → Done
  issued_with o s = have o (λ words.
      let peripheral = number_of d.setting q in
      let reading = reading_in d.setting.rules.world.feeds peripheral (s.issued peripheral + 1) in
      does (showing (issues k peripheral words reading) ∷ []) (λ after. record after { frame = record s.frame { word = Some reading } }) ahead)

  issue_keeps : (n : ℕ) (m : Spot) (s : State) → AfterDrop n m s → (o : Option (List ℕ)) → Keeps p place_of d number (AnyWay AfterIssue) n m s (issued_with o s)
  issue_keeps n m s h None = tt
  issue_keeps n m s h (Some words) = λ steps there gone.
      let on : m.clock ≤ there.clock = later p place_of d number n steps m there _ s _ gone in
      ((((attempt_behind p place_of d number blocks n steps m there _ s _ h.0.0.0 gone refl refl refl refl h.0.0.0.within, valued_kept (aims x) (length args) m there s _ refl refl h.0.0.1), looked_kept m there s _ on refl refl h.0.1), h.1), something _)

  issue_leads : (at next most : ℕ) (go : Onward) → IsWithinLimits d.setting.rules.world → Lie p at (act_code (frame_of d number) false (act.Issue k) at next) → LeadsOn p place_of d AfterIssue (suc most) next go
      → LeadsOn p place_of d AfterDrop (suc most) at (act_steps d (act.Issue k) (straight go))
  issue_leads at next most go limits lies leads =
      straight_leads p place_of d number well here false AfterDrop AfterIssue (IsCalledWith (length args)) HasArguments (act.Issue k) at next most go (λ m s related. related) (λ way. refl)
      (law.issues d number k q x args call.said call.laid call.formed.3 (number_fits (core_of d).peripherals well.peripherals q) (reading_fits d.setting.rules.world limits)) (law.issues_cut d number k q x args call.said)
      (λ n m s h. h.0.0.0.common) (λ n m s related h. (h.0.0.1.called, h.0.0.1.args))
      (λ n m s related h. subst (λ o. Keeps p place_of d number (AnyWay AfterIssue) n m s (issue_done d.setting o k s)) (sym call.said) (issue_keeps n m s h s.frame.args)) lies leads

  -- ---- sealing

  seal_keeps : (n : ℕ) (m : Spot) (s : State) → AfterIssue n m s → (o u : Option ℕ)
      → Keeps p place_of d number (AnyWay AfterWord) n m s (have o (λ word. have u (λ time. sealed k (puts_value k word ∷ puts_stamp k time ∷ puts_flag k s.epoch ∷ []))))
  seal_keeps n m s h None u = tt
  seal_keeps n m s h (Some word) None = tt
  seal_keeps n m s h (Some word) (Some time) = λ steps there gone.
      ((attempt_kept p place_of d number blocks n steps m there _ s _ h.0.0.0.0 gone refl refl h.0.0.0.0.within, valued_kept (aims x) (length args) m there s _ refl refl h.0.0.0.1), h.1)

  seal_leads : (at next most : ℕ) (go : Onward) → Lie p at (act_code (frame_of d number) false (act.Seal k) at next) → LeadsOn p place_of d AfterWord (suc most) next go → LeadsOn p place_of d AfterIssue (suc most) at (act_steps d (act.Seal k) (straight go))
  seal_leads at next most go lies leads =
      straight_leads p place_of d number well here false AfterIssue AfterWord (IsFree k) (SealsCall k) (act.Seal k) at next most go (λ m s related. related) (λ way. refl)
      (law.seals d number k call.ann call.numbered call.there) (law.seals_cut d number k call.ann call.numbered call.there) (λ n m s h. h.0.0.0.0.common)
      (λ n m s related h. (h.0.1, record { free = h.0.1; word = h.1; time = h.0.0.1.time; past = h.0.0.1.past }))
      (λ n m s related h. subst (λ o. Keeps p place_of d number (AnyWay AfterWord) n m s (seal_done o k s)) (sym (at_site d.setting.task.sites k call.numbered ∙ call.there)) (seal_keeps n m s h s.frame.word s.frame.time)) lies leads

  -- ---- the whole list

  -- behind what is dropped
  abbrev rest : List Act
  rest = act.Issue k ∷ act.Seal k ∷ []

  rest_leads : (at next most : ℕ) (again go : Onward) → IsWithinLimits d.setting.rules.world → LeadsOn p place_of d AfterWord (suc most) next go → ActsLie p (frame_of d number) false rest at next → LeadsOn p place_of d AfterDrop (suc most) at (acts_run d again rest go)
  rest_leads at next most again go limits leads lies =
      let seal_at : ℕ = at + act_size (frame_of d number) (act.Issue k) in
      issue_leads at seal_at most (acts_run d again (act.Seal k ∷ []) go) limits lies.0 (seal_leads seal_at next most go lies.1.0 leads)

  others_drop : (js : List ℕ) (at next most : ℕ) (again go : Onward) → IsWithinLimits d.setting.rules.world → AllByRecursion IsSite js → LeadsOn p place_of d AfterWord (suc most) next go → ActsLie p (frame_of d number) false (map act.Drop js ++ rest) at next
      → LeadsOn p place_of d AfterDrop (suc most) (acts_entry (map act.Drop js ++ rest) at next) (acts_run d again (map act.Drop js ++ rest) go)
  others_drop [] at next most again go limits numbered leads lies = rest_leads at next most again go limits leads lies
  others_drop (j ∷ js) at next most again go limits numbered leads lies =
      let behind_at : ℕ = at + act_size (frame_of d number) (act.Drop j) in
      other_drops j at (acts_entry (map act.Drop js ++ rest) behind_at next) most (acts_run d again (map act.Drop js ++ rest) go) numbered.0 lies.0 (others_drop js behind_at next most again go limits numbered.1 leads lies.1)

  pub issue_list_leads : (js : List ℕ) (at next most : ℕ) (again go : Onward) → IsWithinLimits d.setting.rules.world → AllByRecursion IsSite js → LeadsOn p place_of d AfterWord (suc most) next go → ActsLie p (frame_of d number) false (act.Drop k ∷ map act.Drop js ++ rest) at next
      → LeadsOn p place_of d AfterLook (suc most) at (acts_run d again (act.Drop k ∷ map act.Drop js ++ rest) go)
  issue_list_leads js at next most again go limits numbered leads lies =
      let behind_at : ℕ = at + act_size (frame_of d number) (act.Drop k) in
      own_drops at (acts_entry (map act.Drop js ++ rest) behind_at next) most (acts_run d again (map act.Drop js ++ rest) go) lies.0 (others_drop js behind_at next most again go limits numbered leads lies.1)
