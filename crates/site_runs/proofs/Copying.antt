-- All acts of a copy lead on.
use Rattle.std.specs.Prelude.{Some}
use Rattle.std.proofs.Common.{◌≡◌, ℕ, suc, ◌+◌, true, false, List, [], ◌∷◌, refl}
use Rattle.devices.specs.Journal.{Place}
use Rattle.region_split.specs.Owners.{all_first}
use Rattle.region_split.specs.Regions.{region_of}
use Rattle.task_ast.specs.WellFormed.{IsWellFormed}
use Rattle.task_ast.specs.declared.core_form.CoreEnd.{CoreEnd}
use Rattle.task_ast.specs.declared.core_form.CoreExpr.{CoreExpr}
use Rattle.task_attempts.specs.Boots.{task_of}
use Rattle.word_isa.specs.declared.parts.Scheme.{Scheme}
use Rattle.word_isa.specs.declared.parts.Scheme.TheVariants.{Undo, Bank}
use Rattle.word_machine.specs.State.{Program}
use Rattle.word_machine.specs.Straight.{Spot}
use Rattle.run_plan.specs.declared.act.Act.{Act}
use Rattle.run_plan.specs.declared.act.Act.TheVariants as act
use Rattle.run_plan.specs.declared.act.Leg.TheVariants as leg
use Rattle.run_plan.specs.Cells.{State}
use Rattle.run_plan.specs.PlanOf.{again_acts, anew_acts, around, copy_acts}
use Rattle.run_plan.specs.Runs.{Onward, acts_run}
use Rattle.run_plan.specs.Small.{Doing, core_of}
use Rattle.word_code.specs.Sizes.{act_size}
use Rattle.code_places.specs.Placed.{ActsLie}
use Rattle.act_refines.specs.Does.{frame_of}
use Rattle.site_runs.specs.InAttempts.{In, LeadsOn}
use Rattle.site_runs.proofs.Leading.{leads_under}
use Rattle.site_runs.proofs.Lists.{ListLeads}
use Rattle.site_runs.specs.Copies.{CopiesLead, IsCopyOf}
use Rattle.site_runs.specs.Told.{TellsPlaces}
use Rattle.site_runs.proofs.CopyLaws.{CopyLaws}
use Rattle.site_runs.proofs.Moving.{across_leads, again_leads, anew_leads, aside_leads, back_leads, keep_leads, put_leads, seal_leads}
use Rattle.site_runs.proofs.CopyStages.{Fresh, Held, Noted}
use Rattle.site_runs.proofs.CopyValues.{copy_chooses, lock_leads, save_leads, value_leads}

module _ (p : Program) (place_of : ℕ → Place) (law : CopyLaws p place_of) (d : Doing) (number : ℕ) (well : IsWellFormed (core_of d)) (here : task_of (core_of d) number ≡ Some d.setting.task) (firsts : d.firsts ≡ all_first (core_of d) d.setting.task)
    (told : TellsPlaces place_of (core_of d) d.scheme) (k : ℕ) (to from : CoreEnd) (words : CoreExpr) (copy : IsCopyOf d number k to from words) (blocks : List ℕ) where
  abbrev Claim : ℕ → Spot → State → Type 0
  Claim = In p place_of d number blocks

  abbrev AfterValue : ℕ → Spot → State → Type 0
  AfterValue = Noted p place_of d number k blocks

  abbrev WithoutRecord : ℕ → Spot → State → Type 0
  WithoutRecord = Fresh p place_of d number k blocks

  abbrev WithRecord : ℕ → Spot → State → Type 0
  WithRecord = Held p place_of d number k blocks

  module _ (next most : ℕ) (again go : Onward) (leads : LeadsOn p place_of d Claim (suc most) next go) where
    -- what comes next follows behind the last act of each list
    fresh_leads : LeadsOn p place_of d WithoutRecord (suc most) next go
    fresh_leads = leads_under p place_of d Claim WithoutRecord (suc most) next go (λ n m s h. h.0.0) leads

    held_leads : LeadsOn p place_of d WithRecord (suc most) next go
    held_leads = leads_under p place_of d Claim WithRecord (suc most) next go (λ n m s h. h.0.0) leads

    -- ---- without a record

    single_leads : ListLeads p place_of d number well here false WithoutRecord (suc most) (act.Transfer k leg.Across ∷ act.KeepWords k ∷ act.Seal k ∷ []) next again go
    single_leads = λ at lies.
        let keep_at : ℕ = at + act_size (frame_of d number) (act.Transfer k leg.Across) in
        let seal_at : ℕ = keep_at + act_size (frame_of d number) (act.KeepWords k) in
        across_leads p place_of law d number well here told k to from words copy blocks at keep_at most (acts_run d again (act.KeepWords k ∷ act.Seal k ∷ []) go) lies.0
        (keep_leads p place_of law d number well here told k to from words copy blocks keep_at seal_at most (acts_run d again (act.Seal k ∷ []) go) lies.1.0
        (seal_leads p place_of law d number well here told k to from words copy blocks seal_at next most go lies.1.1.0 held_leads))

    private_leads : ListLeads p place_of d number well here false WithoutRecord (suc most) (act.Transfer k leg.ToKept ∷ act.Seal k ∷ act.Transfer k leg.FromKept ∷ []) next again go
    private_leads = λ at lies.
        let seal_at : ℕ = at + act_size (frame_of d number) (act.Transfer k leg.ToKept) in
        let back_at : ℕ = seal_at + act_size (frame_of d number) (act.Seal k) in
        aside_leads p place_of law d number well here told k to from words copy blocks at seal_at most (acts_run d again (act.Seal k ∷ act.Transfer k leg.FromKept ∷ []) go) lies.0
        (seal_leads p place_of law d number well here told k to from words copy blocks seal_at back_at most (acts_run d again (act.Transfer k leg.FromKept ∷ []) go) lies.1.0
        (back_leads p place_of law d number well here told k to from words copy blocks false back_at next most go lies.1.1.0 held_leads))

    rest_leads : ListLeads p place_of d number well here false WithoutRecord (suc most) (act.Transfer k leg.Across ∷ []) next again go
    rest_leads = λ at lies. across_leads p place_of law d number well here told k to from words copy blocks at next most go lies.0 fresh_leads

    anew_list_leads : ListLeads p place_of d number well here false WithoutRecord (suc most) (anew_acts k) next again go
    anew_list_leads = λ at lies.
        anew_leads p place_of law d number well here told k to from words copy blocks (act.Transfer k leg.Across ∷ act.KeepWords k ∷ act.Seal k ∷ []) (act.Transfer k leg.ToKept ∷ act.Seal k ∷ act.Transfer k leg.FromKept ∷ []) (act.Transfer k leg.Across ∷ []) at next most again go lies.0
        single_leads private_leads rest_leads

    -- ---- by a record

    put_list_leads : ListLeads p place_of d number well here true WithRecord (suc most) (act.PutWords k ∷ []) next again go
    put_list_leads = λ at lies. put_leads p place_of law d number well here told k to from words copy blocks at next most go lies.0 held_leads

    back_list_leads : ListLeads p place_of d number well here true WithRecord (suc most) (act.Transfer k leg.FromKept ∷ []) next again go
    back_list_leads = λ at lies. back_leads p place_of law d number well here told k to from words copy blocks true at next most go lies.0 held_leads

    nothing_leads : ListLeads p place_of d number well here true WithRecord (suc most) [] next again go
    nothing_leads = λ at lies. held_leads

    again_list_leads : ListLeads p place_of d number well here true WithRecord (suc most) (again_acts k) next again go
    again_list_leads = λ at lies.
        again_leads p place_of law d number well here told k to from words copy blocks (act.PutWords k ∷ []) (act.Transfer k leg.FromKept ∷ []) [] at next most again go lies.0 put_list_leads back_list_leads nothing_leads

    -- ---- all of it

    choice_leads : (at : ℕ) → ActsLie p (frame_of d number) false (act.Choose k (anew_acts k) (again_acts k) ∷ []) at next → LeadsOn p place_of d AfterValue (suc most) at (acts_run d again (act.Choose k (anew_acts k) (again_acts k) ∷ []) go)
    choice_leads at lies = copy_chooses p place_of law d number well here k to from words copy blocks (anew_acts k) (again_acts k) at next most again go lies.0 anew_list_leads again_list_leads

    -- under `undo` the region that the copy begins is saved in front of it
    pub copy_leads : (scheme : Scheme) → d.scheme ≡ scheme → (at : ℕ) → ActsLie p (frame_of d number) false (copy_acts (around scheme d.setting.task) k) at next
        → LeadsOn p place_of d Claim (suc most) at (acts_run d again (copy_acts (around scheme d.setting.task) k) go)
    copy_leads Undo is at lies =
        let r : ℕ = region_of d.setting.task k in
        let save_at : ℕ = at + act_size (frame_of d number) (act.Value k) in
        let lock_at : ℕ = save_at + act_size (frame_of d number) (act.Save r) in
        let choose_at : ℕ = lock_at + act_size (frame_of d number) (act.Lock r) in
        let choose : List Act = act.Choose k (anew_acts k) (again_acts k) ∷ [] in
        value_leads p place_of law d number well here k to from words copy blocks at save_at most (acts_run d again (act.Save r ∷ act.Lock r ∷ choose) go) lies.0
        (save_leads p place_of law d number well here k to from words copy blocks save_at lock_at most (acts_run d again (act.Lock r ∷ choose) go) firsts is lies.1.0
        (lock_leads p place_of law d number well here k to from words copy blocks lock_at choose_at most (acts_run d again choose go) lies.1.1.0 (choice_leads choose_at lies.1.1.1)))
    copy_leads Bank is at lies =
        let choose_at : ℕ = at + act_size (frame_of d number) (act.Value k) in
        value_leads p place_of law d number well here k to from words copy blocks at choose_at most (acts_run d again (act.Choose k (anew_acts k) (again_acts k) ∷ []) go) lies.0 (choice_leads choose_at lies.1)

-- each copy of the task
pub copies_lead : (p : Program) (place_of : ℕ → Place) → CopyLaws p place_of → (d : Doing) (number : ℕ) → IsWellFormed (core_of d) → task_of (core_of d) number ≡ Some d.setting.task → d.firsts ≡ all_first (core_of d) d.setting.task
    → TellsPlaces place_of (core_of d) d.scheme → CopiesLead p place_of d number
copies_lead p place_of law d number well here firsts told = λ k to from words copy blocks most at next again go lies leads.
    copy_leads p place_of law d number well here firsts told k to from words copy blocks next most again go leads d.scheme refl at lies
