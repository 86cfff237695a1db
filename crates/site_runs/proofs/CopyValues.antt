-- A copy is valued, saves the region that it begins, and chooses by its record.
use Rattle.std.specs.Prelude.{cond, length, slice_index_or, Result, Ok, Err, Some}
use Rattle.std.proofs.Common.{◌≡◌, ◌≢◌, ◌∙◌, ℕ, suc, ◌-◌, ◌==◌, ◌≤◌, Bool, true, false, List, [], refl, sym, ap, subst, arith, eqb-true, eq-eqb}
use Rattle.devices.specs.Journal.{Place}
use Rattle.region_split.specs.Regions.{region_of}
use Rattle.region_split.specs.Owners.{all_first}
use Rattle.task_ast.specs.WellFormed.{IsEnd, IsWellFormed, Scope, scope_of}
use Rattle.task_ast.specs.declared.core_form.CoreEnd.{CoreEnd}
use Rattle.task_ast.specs.declared.core_form.CoreEnd.TheVariants as end
use Rattle.task_ast.specs.declared.core_form.CoreExpr.{CoreExpr}
use Rattle.task_attempts.specs.Boots.{task_of}
use Rattle.walk_run.specs.declared.place.Place as walked
use Rattle.walk_run.specs.declared.trap.Trap.{Trap}
use Rattle.word_isa.specs.declared.parts.Scheme.TheVariants.{Undo}
use Rattle.word_machine.specs.State.{Program}
use Rattle.word_machine.specs.Straight.{Spot}
use Rattle.line_laws.specs.Standing.{Lie}
use Rattle.run_plan.specs.declared.act.Act.{Act}
use Rattle.run_plan.specs.declared.act.Act.TheVariants as act
use Rattle.run_plan.specs.Cells.{CopyValued, State}
use Rattle.run_plan.specs.Deeds.{choose_done, copy_found, value_done}
use Rattle.run_plan.specs.Runs.{Onward, act_run, act_steps, straight}
use Rattle.run_plan.specs.Small.{Doing, core_of, does, first_way, flag_holds, lock_holds, same, second_way, sets_frame, silent, unless_fails}
use Rattle.run_plan.specs.Words.{first_places, save_writes}
use Rattle.word_code.specs.ActCode.{act_code}
use Rattle.word_code.proofs.ShortLaws.{expr_short}
use Rattle.code_places.specs.Placed.{ActLies}
use Rattle.act_laws.specs.Values.{IsOverEnd}
use Rattle.act_refines.specs.Between.{AreRelated}
use Rattle.act_refines.specs.Does.{Nothing, frame_of}
use Rattle.act_refines.specs.Seen.{behind}
use Rattle.act_refines.proofs.Begins.{few_pointers}
use Rattle.act_refines.proofs.Records.{at_site}
use Rattle.code_runs.specs.Following.{AnyWay}
use Rattle.code_runs.proofs.BarePlans.{homes}
use Rattle.code_runs.proofs.Placing.{Gone, Keeps}
use Rattle.site_runs.specs.InAttempts.{In, LeadsOn}
use Rattle.site_runs.proofs.Behind.{attempt_behind, same_thing, something}
use Rattle.site_runs.proofs.Leading.{no_leads, straight_leads}
use Rattle.site_runs.proofs.Lists.{ListLeads, choose_leads}
use Rattle.site_runs.proofs.Checked.{task_formed}
use Rattle.site_runs.specs.Copies.{IsCopyOf}
use Rattle.site_runs.proofs.CopyLaws.{CopyLaws}
use Rattle.site_runs.proofs.Ends.{FoundGood, few_copies, found_good}
use Rattle.site_runs.proofs.Mild.{AreMild, behind_stays, mild_saves, mild_silent, stays_itself}
use Rattle.site_runs.proofs.CopyStages.{Chosen, Fresh, Held, IsGoodCopy, Noted, fresh_behind, held_behind, noted_behind}

-- an end that is there has a short index
end_over : (scope : Scope) → scope.pointers ≤ 256 → (e : CoreEnd) → IsEnd scope e → IsOverEnd scope e
end_over scope few (end.Cell array i) h = (h.1.1, expr_short scope few 0 i (omega arith) h.1)
end_over scope few (end.Pointer q) h = h

module _ (p : Program) (place_of : ℕ → Place) (law : CopyLaws p place_of) (d : Doing) (number : ℕ) (well : IsWellFormed (core_of d)) (here : task_of (core_of d) number ≡ Some d.setting.task)
    (k : ℕ) (to from : CoreEnd) (words : CoreExpr) (copy : IsCopyOf d number k to from words) (blocks : List ℕ) where
  abbrev Claim : ℕ → Spot → State → Type 0
  Claim = In p place_of d number blocks

  abbrev AfterValue : ℕ → Spot → State → Type 0
  AfterValue = Noted p place_of d number k blocks

  -- ---- valuing

  value_keeps : (n : ℕ) (m : Spot) (s : State) → Claim n m s → (r : Result CopyValued Trap) → ((v : CopyValued) → r ≡ Ok v → IsGoodCopy d k v) → Keeps p place_of d number (AnyWay AfterValue) n m s (unless_fails r (λ v. sets_frame (record s.frame { copy = Some v })))
  value_keeps n m s h (Err why) good = tt
  value_keeps n m s h (Ok v) good = λ steps there gone. (
    attempt_behind p place_of d number blocks n steps m there [] s (record s { frame = record s.frame { copy = Some v } }) h gone refl refl refl refl h.within,
    record { copy = something v; good = λ w is. subst (IsGoodCopy d k) (same_thing v w is) (good v refl) },
  )

  good_of : (m : Spot) (s : State) (n : ℕ) (related : AreRelated p d true m s) (h : Claim n m s) (r : Result CopyValued Trap) → FoundGood d m s (law.relates d m s well related) h.within number well here k to from words copy r
      → (v : CopyValued) → r ≡ Ok v → IsGoodCopy d k v
  good_of m s n related h (Err why) good v is = absurd (cc is)
  good_of m s n related h (Ok w) good v is = let same : w ≡ v = cc is in subst (IsGoodCopy d k) same good

  pub value_leads : (at next most : ℕ) (go : Onward) → Lie p at (act_code (frame_of d number) false (act.Value k) at next) → LeadsOn p place_of d AfterValue (suc most) next go → LeadsOn p place_of d Claim (suc most) at (act_steps d (act.Value k) (straight go))
  value_leads at next most go lies leads =
      let few : length (core_of d).pointers ≤ 256 = few_pointers (core_of d) well in
      let scope : Scope = scope_of (core_of d) d.setting.task in
      straight_leads p place_of d number well here false Claim AfterValue Nothing Nothing (act.Value k) at next most go (λ m s related. related) (λ way. refl)
      (law.way.values d number k to from words copy.said copy.laid (end_over scope few to copy.formed.2.0) (end_over scope few from copy.formed.3) copy.formed.4.1 (expr_short scope few 0 words (omega arith) copy.formed.4))
      (law.way.values_cut d number k to from words copy.said) (λ n m s h. h.common) (λ n m s related h. (tt, tt))
      (λ n m s related h. subst (λ o. Keeps p place_of d number (AnyWay AfterValue) n m s (value_done d.setting o s)) (sym copy.said)
      (value_keeps n m s h (copy_found d.setting to from words s.store)
      (good_of m s n related h (copy_found d.setting to from words s.store) (found_good d m s (law.relates d m s well related) h.within number well here k to from words copy)))) lies leads

  -- ---- the region that it begins

  few_regions : region_of d.setting.task k ≤ 128
  few_regions = let few : length d.setting.task.sites ≤ 128 = (task_formed (core_of d) number d.setting.task well here).sites.few in omega (arith, few, few_copies k d.setting.task.sites)

  pub save_leads : (at next most : ℕ) (go : Onward) → d.firsts ≡ all_first (core_of d) d.setting.task → d.scheme ≡ Undo → Lie p at (act_code (frame_of d number) false (act.Save (region_of d.setting.task k)) at next) → LeadsOn p place_of d AfterValue (suc most) next go
      → LeadsOn p place_of d AfterValue (suc most) at (act_steps d (act.Save (region_of d.setting.task k)) (straight go))
  save_leads at next most go firsts undo lies leads =
      let r : ℕ = region_of d.setting.task k in
      straight_leads p place_of d number well here false AfterValue AfterValue Nothing Nothing (act.Save r) at next most go (λ m s related. related) (λ way. refl)
      (law.way.saves d number r few_regions undo (homes (core_of d) d.setting.task d.firsts firsts r)) (law.way.saves_cut d number r (homes (core_of d) d.setting.task d.firsts firsts r)) (λ n m s h. h.0.common) (λ n m s related h. (tt, tt))
      (λ n m s related h steps there gone.
      let places : List walked.Place = cond (lock_holds s r) [] (first_places d r) in
      let mild = mild_silent (save_writes s places) (mild_saves s places) in
      noted_behind p place_of d number k blocks n steps m there _ s _ gone mild (behind_stays (core_of d) _ s mild) h) lies leads

  pub lock_leads : (at next most : ℕ) (go : Onward) → Lie p at (act_code (frame_of d number) false (act.Lock (region_of d.setting.task k)) at next) → LeadsOn p place_of d AfterValue (suc most) next go
      → LeadsOn p place_of d AfterValue (suc most) at (act_steps d (act.Lock (region_of d.setting.task k)) (straight go))
  lock_leads at next most go lies leads =
      let r : ℕ = region_of d.setting.task k in
      straight_leads p place_of d number well here false AfterValue AfterValue Nothing Nothing (act.Lock r) at next most go (λ m s related. related) (λ way. refl) (law.way.locks d number r few_regions) (law.way.locks_cut d number r few_regions)
      (λ n m s h. h.0.common) (λ n m s related h. (tt, tt))
      (λ n m s related h steps there gone. noted_behind p place_of d number k blocks n steps m there _ s _ gone ((tt, tt), tt) (record { frame = refl; flags = refl; epoch = refl; pointers = refl }) h) lies leads

  -- ---- a choice

  choose_keeps : (n : ℕ) (m : Spot) (s : State) → AfterValue n m s → (b : Bool) → flag_holds s k ≡ b → Keeps p place_of d number (Chosen p place_of d number k blocks) n m s (does [] same (cond b second_way first_way))
  choose_keeps n m s h true is = λ steps there gone. (noted_behind p place_of d number k blocks n steps m there [] s s gone tt (stays_itself s) h, eqb-true (s.cells.flag k) s.epoch is)
  choose_keeps n m s h false is = λ steps there gone.
      (noted_behind p place_of d number k blocks n steps m there [] s s gone tt (stays_itself s) h, λ held. (let clash : true ≡ false = sym (eq-eqb (s.cells.flag k) s.epoch held) ∙ is in absurd (cc clash)))

  pub copy_chooses : (issue keep : List Act) (at next most : ℕ) (again go : Onward) → ActLies p (frame_of d number) false (act.Choose k issue keep) at next
      → ListLeads p place_of d number well here false (Fresh p place_of d number k blocks) (suc most) issue next again go → ListLeads p place_of d number well here true (Held p place_of d number k blocks) (suc most) keep next again go
      → LeadsOn p place_of d AfterValue (suc most) at (act_run d again (act.Choose k issue keep) go)
  copy_chooses issue keep at next most again go lies first second =
      choose_leads p place_of d number well here false AfterValue (Chosen p place_of d number k blocks) Nothing Nothing k issue keep at next most again go
      (law.way.chooses d number k _ issue keep copy.numbered copy.there) (law.way.chooses_cut d number k _ issue keep copy.numbered copy.there) (λ n m s h. h.0.common) (λ n m s related h. (tt, tt))
      (λ n m s related h. subst (λ o. Keeps p place_of d number (Chosen p place_of d number k blocks) n m s (choose_done o k s)) (sym (at_site d.setting.task.sites k copy.numbered ∙ copy.there)) (choose_keeps n m s h (flag_holds s k) refl)) lies
      first second (no_leads p place_of d (suc most) next go) (no_leads p place_of d (suc most) next go)
