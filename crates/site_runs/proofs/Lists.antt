-- Acts that go into lists lead on, where their lists do.
use Rattle.std.specs.Prelude.{Some}
use Rattle.std.proofs.Common.{◌≡◌, ◌∙◌, ℕ, suc, ◌+◌, Bool, true, false, List, refl, sym, ap, subst}
use Rattle.devices.specs.Journal.{Place}
use Rattle.task_ast.specs.WellFormed.{IsWellFormed}
use Rattle.task_attempts.specs.Boots.{task_of}
use Rattle.word_machine.specs.State.{Program}
use Rattle.word_machine.specs.Straight.{Spot}
use Rattle.run_plan.specs.declared.act.Act.{Act, Row_of-Act, end_of-Act, more_of-Act, items-the_row-Act}
use Rattle.run_plan.specs.declared.act.Act.TheVariants as act
use Rattle.run_plan.specs.Cells.{State}
use Rattle.run_plan.specs.Deeds.{act_done}
use Rattle.run_plan.specs.Rows.{act_row_of, act_row_shows}
use Rattle.run_plan.specs.RunRows.{run_choose}
use Rattle.run_plan.specs.Runs.{Onward, act_run, acts_run, by_way}
use Rattle.run_plan.specs.Small.{Doing, Way, ahead, first_way, second_way, third_way, core_of}
use Rattle.word_code.specs.ActCode.{acts_entry, entry}
use Rattle.word_code.specs.ActLaws.{entry_of_acts}
use Rattle.word_code.specs.Frames.{Frame, site_at}
use Rattle.word_code.specs.Sizes.{act_size, row_size}
use Rattle.word_code.specs.Tables.{keeps_size}
use Rattle.code_places.specs.Placed.{ActLies, ActsLie, RowLies}
use Rattle.act_refines.specs.Between.{AreRelated}
use Rattle.act_refines.specs.Does.{DoesAct, frame_of}
use Rattle.code_cuts.specs.Acts.{CutsAct}
use Rattle.code_runs.proofs.InAttempts.{entry_is}
use Rattle.code_runs.proofs.Placing.{Keeps, Known}
use Rattle.site_runs.specs.InAttempts.{LeadsOn}
use Rattle.site_runs.proofs.Leading.{act_leads, each_way}

-- ---- where a list lies

module _ (p : Program) (f : Frame) (keeps : Bool) where
  rows_lie : (at next n : _) (row : Row_of-Act n) → RowLies p f keeps row at next ≡ ActsLie p f keeps (items-the_row-Act n row) at next
  rows_lie at next n end_of-Act = refl
  rows_lie at next n (more_of-Act a rest) =
      let behind_at : ℕ = at + act_size f a in
      λ i. ActLies p f keeps a at (entry_is behind_at next _ rest i) × rows_lie behind_at next _ rest i

  pub lists_lie : (at next : ℕ) (acts : List Act) → RowLies p f keeps (act_row_of acts).1 at next → ActsLie p f keeps acts at next
  lists_lie at next acts lies = subst (λ t. t) (rows_lie at next (act_row_of acts).0 (act_row_of acts).1 ∙ ap (λ x. ActsLie p f keeps x at next) (act_row_shows acts)) lies

-- ---- a choice

module _ (p : Program) (place_of : ℕ → Place) (d : Doing) (number : ℕ) (well : IsWellFormed (core_of d)) (here : task_of (core_of d) number ≡ Some d.setting.task) where
  -- where a list lies, it leads on from its entry
  abbrev pub ListLeads : (keeps : Bool) → (Holds : ℕ → Spot → State → Type 0) → (most : ℕ) → (acts : List Act) → (next : ℕ) → (again go : Onward) → Type 0
  ListLeads keeps Holds most acts next again go = (at : ℕ) → ActsLie p (frame_of d number) keeps acts at next → LeadsOn p place_of d Holds most (acts_entry acts at next) (acts_run d again acts go)

  list_leads : (keeps : Bool) (Holds : ℕ → Spot → State → Type 0) (most : ℕ) (acts : List Act) (at next : ℕ) (again go : Onward) → RowLies p (frame_of d number) keeps (act_row_of acts).1 at next → ListLeads keeps Holds most acts next again go
      → LeadsOn p place_of d Holds most (entry (act_row_of acts).1 at next) (acts_run d again acts go)
  list_leads keeps Holds most acts at next again go lies leads =
      subst (λ pc. LeadsOn p place_of d Holds most pc (acts_run d again acts go)) (sym (entry_of_acts at next acts)) (leads at (lists_lie p (frame_of d number) keeps at next acts lies))

  pub choose_leads : (keeps : Bool) (Before : ℕ → Spot → State → Type 0) (After : Way → ℕ → Spot → State → Type 0) (Asks Misses : Spot → State → Type 0) (k : ℕ) (issue keep : List Act) (at next most : ℕ) (again go : Onward)
      → DoesAct p place_of d number keeps (act.Choose k issue keep) Asks → CutsAct p place_of d number keeps (act.Choose k issue keep) Misses
      → ((n : ℕ) (m : Spot) (s : State) → Before n m s → Known p place_of d number n m s) → ((n : ℕ) (m : Spot) (s : State) → AreRelated p d true m s → Before n m s → Asks m s × Misses m s)
      → ((n : ℕ) (m : Spot) (s : State) → AreRelated p d true m s → Before n m s → Keeps p place_of d number After n m s (act_done d (act.Choose k issue keep) s)) → ActLies p (frame_of d number) keeps (act.Choose k issue keep) at next
      → ListLeads false (After first_way) (suc most) issue next again go → ListLeads true (After second_way) (suc most) keep next again go
      → LeadsOn p place_of d (After third_way) (suc most) next go → LeadsOn p place_of d (After ahead) (suc most) next go → LeadsOn p place_of d Before (suc most) at (act_run d again (act.Choose k issue keep) go)
  choose_leads keeps Before After Asks Misses k issue keep at next most again go does_it cuts knows asks leaves lies first second third behind =
      let issue_at : ℕ = at + keeps_size (site_at (frame_of d number) k) + 3 in
      let keep_at : ℕ = issue_at + row_size (frame_of d number) (act_row_of issue).1 in
      subst (LeadsOn p place_of d Before (suc most) at) (sym (run_choose d again k issue keep go))
      (act_leads p place_of d number well here keeps Before After Asks Misses (act.Choose k issue keep) at next most (by_way (acts_run d again issue go) (acts_run d again keep go) go go)
      (λ m s related. related) does_it cuts knows asks leaves lies.0
      (each_way p place_of d After (suc most) (entry (act_row_of issue).1 issue_at next) (entry (act_row_of keep).1 keep_at next) next next (acts_run d again issue go) (acts_run d again keep go) go go
      (list_leads false (After first_way) (suc most) issue issue_at next again go lies.1 first) (list_leads true (After second_way) (suc most) keep keep_at next again go lies.2 second) third behind))
