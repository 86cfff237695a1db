-- A copy's classes lead on, where their lists do.
use Rattle.std.specs.Prelude.{Option, Some, None}
use Rattle.std.proofs.Common.{◌≡◌, ℕ, suc, ◌+◌, ◌-◌, Bool, true, List, [], refl, sym, subst}
use Rattle.devices.specs.Journal.{Place}
use Rattle.region_split.specs.declared.class.DmaClass.{DmaClass}
use Rattle.region_split.specs.declared.class.DmaClass.TheVariants as class
use Rattle.task_ast.specs.WellFormed.{IsWellFormed}
use Rattle.task_attempts.specs.Boots.{task_of}
use Rattle.word_machine.specs.State.{Program}
use Rattle.word_machine.specs.Straight.{Spot}
use Rattle.run_plan.specs.declared.act.Act.{Act}
use Rattle.run_plan.specs.declared.act.Act.TheVariants as act
use Rattle.run_plan.specs.Cells.{State}
use Rattle.run_plan.specs.Deeds.{by_class, class_now}
use Rattle.run_plan.specs.Rows.{act_row_of}
use Rattle.run_plan.specs.RunRows.{run_by_class}
use Rattle.run_plan.specs.Runs.{Onward, act_run, acts_run, by_way}
use Rattle.run_plan.specs.Small.{Doing, Way, ahead, core_of, does, first_way, have, same, second_way, third_way}
use Rattle.word_code.specs.ActCode.{entry}
use Rattle.word_code.specs.ActLaws.{entry_of_acts}
use Rattle.word_code.specs.Sizes.{row_size}
use Rattle.code_places.specs.Placed.{ActLies, RowLies}
use Rattle.act_refines.specs.Between.{AreRelated}
use Rattle.act_refines.specs.Does.{DoesAct, frame_of}
use Rattle.code_cuts.specs.Acts.{CutsAct}
use Rattle.code_runs.proofs.Placing.{Gone, Keeps, Known}
use Rattle.site_runs.specs.InAttempts.{LeadsOn, Never}
use Rattle.site_runs.proofs.Leading.{act_leads, each_way, no_leads}
use Rattle.site_runs.proofs.Lists.{ListLeads, lists_lie}

-- a class goes into one of three lists
abbrev pub Classed : (Holds : ℕ → Spot → State → Type 0) → Way → ℕ → Spot → State → Type 0
Classed Holds ahead = Never
Classed Holds first_way = Holds
Classed Holds second_way = Holds
Classed Holds third_way = Holds

module _ (p : Program) (place_of : ℕ → Place) (d : Doing) (number : ℕ) (well : IsWellFormed (core_of d)) (here : task_of (core_of d) number ≡ Some d.setting.task) where
  list_leads : (keeps : Bool) (Holds : ℕ → Spot → State → Type 0) (most : ℕ) (acts : List Act) (at next : ℕ) (again go : Onward) → RowLies p (frame_of d number) keeps (act_row_of acts).1 at next → ListLeads p place_of d number well here keeps Holds most acts next again go
      → LeadsOn p place_of d Holds most (entry (act_row_of acts).1 at next) (acts_run d again acts go)
  list_leads keeps Holds most acts at next again go lies leads =
      subst (λ pc. LeadsOn p place_of d Holds most pc (acts_run d again acts go)) (sym (entry_of_acts at next acts)) (leads at (lists_lie p (frame_of d number) keeps at next acts lies))

  -- each class goes its way
  class_keeps : (Holds : ℕ → Spot → State → Type 0) (n : ℕ) (m : Spot) (s : State) → ((steps : ℕ) (there : Spot) → Gone p place_of d number n steps m there [] s s → Holds (n - steps) there s)
      → (o : Option DmaClass) → Keeps p place_of d number (Classed Holds) n m s (have o (λ x. does [] same (by_class x)))
  class_keeps Holds n m s kept None = tt
  class_keeps Holds n m s kept (Some class.Single) = kept
  class_keeps Holds n m s kept (Some class.Private) = kept
  class_keeps Holds n m s kept (Some class.Exclude) = kept
  class_keeps Holds n m s kept (Some class.Always) = kept

  pub by_class_leads : (keeps : Bool) (Holds : ℕ → Spot → State → Type 0) (Asks Misses : Spot → State → Type 0) (k : ℕ) (single private rest : List Act) (at next most : ℕ) (again go : Onward)
      → DoesAct p place_of d number keeps (act.ByClass k single private rest) Asks → CutsAct p place_of d number keeps (act.ByClass k single private rest) Misses
      → ((n : ℕ) (m : Spot) (s : State) → Holds n m s → Known p place_of d number n m s) → ((n : ℕ) (m : Spot) (s : State) → AreRelated p d true m s → Holds n m s → Asks m s × Misses m s)
      → ((n steps : ℕ) (m there : Spot) (s : State) → Holds n m s → Gone p place_of d number n steps m there [] s s → Holds (n - steps) there s) → ActLies p (frame_of d number) keeps (act.ByClass k single private rest) at next
      → ListLeads p place_of d number well here keeps Holds (suc most) single next again go → ListLeads p place_of d number well here keeps Holds (suc most) private next again go → ListLeads p place_of d number well here keeps Holds (suc most) rest next again go
      → LeadsOn p place_of d Holds (suc most) at (act_run d again (act.ByClass k single private rest) go)
  by_class_leads keeps Holds Asks Misses k single private rest at next most again go does_it cuts knows asks kept lies first second third =
      let single_at : ℕ = at + 12 in
      let private_at : ℕ = single_at + row_size (frame_of d number) (act_row_of single).1 in
      let rest_at : ℕ = private_at + row_size (frame_of d number) (act_row_of private).1 in
      subst (LeadsOn p place_of d Holds (suc most) at) (sym (run_by_class d again k single private rest go))
      (act_leads p place_of d number well here keeps Holds (Classed Holds) Asks Misses (act.ByClass k single private rest) at next most (by_way (acts_run d again single go) (acts_run d again private go) (acts_run d again rest go) go)
      (λ m s related. related) does_it cuts knows asks (λ n m s related h. class_keeps Holds n m s (λ steps there gone. kept n steps m there s h gone) (class_now s k)) lies.0
      (each_way p place_of d (Classed Holds) (suc most) (entry (act_row_of single).1 single_at next) (entry (act_row_of private).1 private_at next) (entry (act_row_of rest).1 rest_at next) next (acts_run d again single go) (acts_run d again private go) (acts_run d again rest go) go
      (list_leads keeps Holds (suc most) single single_at next again go lies.1 first) (list_leads keeps Holds (suc most) private private_at next again go lies.2 second)
      (list_leads keeps Holds (suc most) rest rest_at next again go lies.3 third) (no_leads p place_of d (suc most) next go)))
