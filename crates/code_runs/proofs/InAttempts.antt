-- What a boot restores, and an attempt, followed by the machine.
use Rattle.std.specs.Prelude.{◌⊎◌, Result, Ok, Err, length, map, nat_lt}
use Rattle.std.proofs.Common.{◌≡◌, ◌∙◌, ℕ, zero, suc, ◌+◌, inl, inr, Bool, true, false, List, [], ◌∷◌, ◌++◌, refl, sym, ap, subst, arith}
use Rattle.devices.specs.Journal.{Place}
use Rattle.region_split.specs.Regions.{regions}
use Rattle.line_code.specs.Sizes.{expr_size}
use Rattle.task_ast.specs.declared.core_form.CoreExit.{CoreExit, end_of-CoreExit, more_of-CoreExit}
use Rattle.task_ast.specs.declared.core_form.CoreExit.TheVariants as exit
use Rattle.task_ast.specs.declared.core_form.CoreExpr.{CoreExpr}
use Rattle.walk_run.specs.Plain.{chosen}
use Rattle.walk_run.specs.Value.{value_of}
use Rattle.walk_run.specs.declared.trap.Trap.{Trap}
use Rattle.word_machine.specs.State as machine
use Rattle.word_machine.specs.State.{Program}
use Rattle.word_machine.specs.Straight.{Spot}
use Rattle.run_plan.specs.declared.act.Act.{Act, Row_of-Act, end_of-Act, more_of-Act, items-the_row-Act}
use Rattle.run_plan.specs.declared.act.Act.TheVariants as act
use Rattle.run_plan.specs.Cells.{State}
use Rattle.run_plan.specs.PlanOf.{exit_act}
use Rattle.run_plan.specs.Rows.{act_row_of, act_row_shows}
use Rattle.run_plan.specs.RunRows.{lists_run as run_lists}
use Rattle.run_plan.specs.Runs.{Onward, act_run, act_steps, acts_run, by_way, if_there, nothing, row_run, straight}
use Rattle.run_plan.specs.Small.{Doing, Way, ahead, first_way, second_way, third_way, does, same, unless_fails}
use Rattle.word_code.specs.ActCode.{acts_entry, entry}
use Rattle.word_code.specs.ActLaws.{entry_of_acts}
use Rattle.word_code.specs.Sizes.{act_size, acts_size, row_size}
use Rattle.act_refines.specs.Between.{AreRelated}
use Rattle.act_refines.specs.Does.{frame_of, way_to}
use Rattle.code_runs.specs.Attempts.{AttemptRuns, IfThere, LeadsFirst, RegionsRun, attempt}
use Rattle.code_runs.specs.Following.{ActRuns, ActsRun, AnyWay, IsWay, Leads, LeadsAgain, RowRuns, RunsAt}
use Rattle.code_runs.proofs.Following.{act_follows, commit_follows}
use Rattle.code_runs.proofs.InRows.{in_act}

module _ (p : Program) (place_of : ℕ → Place) (d : Doing) (number : ℕ) (Stood : machine.State → State → Type 0) (Holds : ℕ → Spot → State → Type 0) (most : ℕ) (again : Onward) where
  -- a region that the task hasn't has no code
  no_region : (r : ℕ) → length d.firsts ≡ regions d.setting.task → nat_lt r (regions d.setting.task) ≡ false → act_size (frame_of d number) (act.Restore r) ≡ 0
  no_region r long absent = let e : nat_lt r (length d.firsts) ≡ false = ap (nat_lt r) long ∙ absent in rw e

  -- what a boot restores
  pub regions_follow : (rs : List ℕ) (at next : ℕ) (go : Onward) → length d.firsts ≡ regions d.setting.task → next ≡ at + acts_size (frame_of d number) (map act.Restore rs)
      → RegionsRun p place_of d number Stood Holds rs at next → LeadsFirst p place_of d Stood Holds (suc most) next go → LeadsFirst p place_of d Stood Holds (suc most) at (acts_run d again (map act.Restore rs) go)
  regions_follow [] at next go long is runs on = let here : next ≡ at = omega (arith, is) in subst (λ pc. LeadsFirst p place_of d Stood Holds (suc most) pc go) here on
  regions_follow (r ∷ rs) at next go long is runs on =
      let behind_at : ℕ = at + act_size (frame_of d number) (act.Restore r) in
      let rest_is : next ≡ behind_at + acts_size (frame_of d number) (map act.Restore rs) = omega (arith, is) in
      let rest : LeadsFirst p place_of d Stood Holds (suc most) behind_at (acts_run d again (map act.Restore rs) go) = regions_follow rs behind_at next go long rest_is runs.1 on in
      by (nat_lt r (regions d.setting.task)) refl runs.0 rest
    where
      by : (b : Bool) → nat_lt r (regions d.setting.task) ≡ b → IfThere b (RunsAt p place_of d number Stood Holds (AnyWay Holds) (act.Restore r) at (at + act_size (frame_of d number) (act.Restore r)))
          → LeadsFirst p place_of d Stood Holds (suc most) (at + act_size (frame_of d number) (act.Restore r)) (acts_run d again (map act.Restore rs) go)
          → LeadsFirst p place_of d Stood Holds (suc most) at (if_there b (act_steps d (act.Restore r) (straight (acts_run d again (map act.Restore rs) go))) (acts_run d again (map act.Restore rs) go))
      by true there here rest =
          act_follows p place_of d number Stood Holds (AnyWay Holds) (AreRelated p d false) (act.Restore r) at (at + act_size (frame_of d number) (act.Restore r)) most (straight (acts_run d again (map act.Restore rs) go)) (λ m s related. related) here (λ s way goes. rest)
      by false absent here rest =
          let none : act_size (frame_of d number) (act.Restore r) ≡ 0 = no_region r long absent in
          let same_place : at + act_size (frame_of d number) (act.Restore r) ≡ at = omega (arith, none) in
          subst (λ pc. LeadsFirst p place_of d Stood Holds (suc most) pc (acts_run d again (map act.Restore rs) go)) same_place rest

-- ---- a test of exits

-- a test goes into one of its lists
test_goes : (r : Result ℕ Trap) (way : Way) → IsWay (unless_fails r (λ word. does [] same (chosen word first_way second_way))) way → (way ≡ first_way) ⊎ (way ≡ second_way)
test_goes (Ok zero) way is = inr (sym is)
test_goes (Ok (suc n)) way is = inl (sym is)
test_goes (Err why) way is = elim is [ ]

not_ahead_first : ahead ≡ first_way → ⊥
not_ahead_first is = cc

not_ahead_second : ahead ≡ second_way → ⊥
not_ahead_second is = cc

not_third_first : third_way ≡ first_way → ⊥
not_third_first is = cc

not_third_second : third_way ≡ second_way → ⊥
not_third_second is = cc

pub entry_is : (at next n : _) (row : Row_of-Act n) → entry row at next ≡ acts_entry (items-the_row-Act n row) at next
entry_is at next n end_of-Act = refl
entry_is at next n (more_of-Act a rest) = refl

module _ (p : Program) (place_of : ℕ → Place) (d : Doing) (number : ℕ) (Stood : machine.State → State → Type 0) (Ready : ℕ → ℕ → Spot → State → Type 0) (Holds : ℕ → Spot → State → Type 0) where
  -- a row's acts are those of the list that it shows
  rows_run : (at next n : _) (row : Row_of-Act n) → RowRuns p place_of d number Stood Ready Holds row at next ≡ ActsRun p place_of d number Stood Ready Holds (items-the_row-Act n row) at next
  rows_run at next n end_of-Act = refl
  rows_run at next n (more_of-Act a rest) =
      let behind_at : ℕ = at + act_size (frame_of d number) a in
      λ i. ActRuns p place_of d number Stood Ready Holds a at (entry_is behind_at next _ rest i) × rows_run behind_at next _ rest i

  pub lists_run : (at next : ℕ) (acts : List Act) → RowRuns p place_of d number Stood Ready Holds (act_row_of acts).1 at next ≡ ActsRun p place_of d number Stood Ready Holds acts at next
  lists_run at next acts = rows_run at next (act_row_of acts).0 (act_row_of acts).1 ∙ ap (λ x. ActsRun p place_of d number Stood Ready Holds x at next) (act_row_shows acts)

module _ (p : Program) (place_of : ℕ → Place) (d : Doing) (number : ℕ) (Stood : machine.State → State → Type 0) (Ready : ℕ → ℕ → Spot → State → Type 0) (Holds : ℕ → Spot → State → Type 0) (most : ℕ) (again : Onward) where
  -- by the way that it goes
  test_ways : (first second next : ℕ) (one two : Onward) → Leads p place_of d Stood Holds (suc most) first one → Leads p place_of d Stood Holds (suc most) second two → (way : Way) → (way ≡ first_way) ⊎ (way ≡ second_way)
      → Leads p place_of d Stood Holds (suc most) (way_to first second next next way) (by_way one two nothing nothing way)
  test_ways first second next one two a b ahead (inl is) = absurd (not_ahead_first is)
  test_ways first second next one two a b ahead (inr is) = absurd (not_ahead_second is)
  test_ways first second next one two a b first_way is = a
  test_ways first second next one two a b second_way is = b
  test_ways first second next one two a b third_way (inl is) = absurd (not_third_first is)
  test_ways first second next one two a b third_way (inr is) = absurd (not_third_second is)

  -- one act in each list, behind which nothing comes
  pub test_follows : (c : CoreExpr) (x y : Act) (at next : ℕ) → ActRuns p place_of d number Stood Ready Holds (act.Test c (x ∷ []) (y ∷ [])) at next
      → ((at : ℕ) → ActRuns p place_of d number Stood Ready Holds x at next → Leads p place_of d Stood Holds (suc most) at (act_run d again x nothing))
      → ((at : ℕ) → ActRuns p place_of d number Stood Ready Holds y at next → Leads p place_of d Stood Holds (suc most) at (act_run d again y nothing))
      → Leads p place_of d Stood Holds (suc most) at (act_run d again (act.Test c (x ∷ []) (y ∷ [])) nothing)
  test_follows c x y at next runs first second =
      let yes_at : ℕ = at + expr_size c + 4 in
      let no_at : ℕ = yes_at + row_size (frame_of d number) (act_row_of (x ∷ [])).1 in
      let x_runs : ActsRun p place_of d number Stood Ready Holds (x ∷ []) yes_at next = subst (λ t. t) (lists_run p place_of d number Stood Ready Holds yes_at next (x ∷ [])) runs.1 in
      let y_runs : ActsRun p place_of d number Stood Ready Holds (y ∷ []) no_at next = subst (λ t. t) (lists_run p place_of d number Stood Ready Holds no_at next (y ∷ [])) runs.2 in
      let one : Leads p place_of d Stood Holds (suc most) (entry (act_row_of (x ∷ [])).1 yes_at next) (row_run d again (act_row_of (x ∷ [])).1 nothing) =
      subst (λ pc. Leads p place_of d Stood Holds (suc most) pc (row_run d again (act_row_of (x ∷ [])).1 nothing)) (sym (entry_of_acts yes_at next (x ∷ [])))
      (subst (Leads p place_of d Stood Holds (suc most) yes_at) (sym (run_lists d again (x ∷ []) nothing)) (first yes_at x_runs.0)) in
      let two : Leads p place_of d Stood Holds (suc most) (entry (act_row_of (y ∷ [])).1 no_at next) (row_run d again (act_row_of (y ∷ [])).1 nothing) =
      subst (λ pc. Leads p place_of d Stood Holds (suc most) pc (row_run d again (act_row_of (y ∷ [])).1 nothing)) (sym (entry_of_acts no_at next (y ∷ [])))
      (subst (Leads p place_of d Stood Holds (suc most) no_at) (sym (run_lists d again (y ∷ []) nothing)) (second no_at y_runs.0)) in
      act_follows p place_of d number Stood Holds (AnyWay Holds) (AreRelated p d true) (act.Test c (x ∷ []) (y ∷ [])) at next most (by_way (row_run d again (act_row_of (x ∷ [])).1 nothing) (row_run d again (act_row_of (y ∷ [])).1 nothing) nothing nothing)
      (λ m s related. related) runs.0
      (λ s way goes. test_ways (entry (act_row_of (x ∷ [])).1 yes_at next) (entry (act_row_of (y ∷ [])).1 no_at next) next (row_run d again (act_row_of (x ∷ [])).1 nothing) (row_run d again (act_row_of (y ∷ [])).1 nothing) one two way
      (test_goes (value_of c s.store) way goes))

-- ---- attempts

module _ (p : Program) (place_of : ℕ → Place) (d : Doing) (number : ℕ) (Stood : machine.State → State → Type 0) (Ready : ℕ → ℕ → Spot → State → Type 0) (Holds : ℕ → Spot → State → Type 0) (most : ℕ) (again : Onward) (leads : LeadsAgain p place_of d Stood Ready most again) where
  -- an exit leads on by commits alone
  exiting : (e : CoreExit) (at next : ℕ) → ActRuns p place_of d number Stood Ready Holds (exit_act e) at next → Leads p place_of d Stood Holds (suc most) at (act_run d again (exit_act e) nothing)
  exiting (exit.Next t) at next runs = commit_follows p place_of d number Stood Ready Holds t at next most again runs.0 runs.1 leads
  exiting exit.Stop at next runs = commit_follows p place_of d number Stood Ready Holds 0 at next most again runs.0 runs.1 leads
  exiting (exit.Choose' c u (more_of-CoreExit x end_of-CoreExit) v (more_of-CoreExit y end_of-CoreExit)) at next runs =
      test_follows p place_of d number Stood Ready Holds most again c (exit_act x) (exit_act y) at next runs (λ at runs. exiting x at next runs) (λ at runs. exiting y at next runs)

  -- acts that end with an exit come to nothing behind it
  committing : (acts : List Act) (e : CoreExit) (at next : ℕ) → ActsRun p place_of d number Stood Ready Holds (acts ++ exit_act e ∷ []) at next
      → Leads p place_of d Stood Holds (suc most) (acts_entry (acts ++ exit_act e ∷ []) at next) (acts_run d again (acts ++ exit_act e ∷ []) nothing)
  committing [] e at next runs = exiting e at next runs.0
  committing (a ∷ acts) e at next runs =
      let behind_at : ℕ = at + act_size (frame_of d number) a in
      in_act p place_of d number Stood Ready Holds most again leads a at (acts_entry (acts ++ exit_act e ∷ []) behind_at next) (acts_run d again (acts ++ exit_act e ∷ []) nothing) runs.0 (committing acts e behind_at next runs.1)

  -- an attempt
  pub attempt_follows : (t : ℕ) (acts : List Act) (e : CoreExit) (at next : ℕ) → AttemptRuns p place_of d number Stood Ready Holds t acts e at next
      → LeadsFirst p place_of d Stood (Ready number) (suc most) at (acts_run d again (attempt t acts e) nothing)
  attempt_follows t acts e at next runs =
      let behind_at : ℕ = at + act_size (frame_of d number) (act.Begin t) in
      act_follows p place_of d number Stood (Ready number) (AnyWay Holds) (AreRelated p d true) (act.Begin t) at (acts_entry (acts ++ exit_act e ∷ []) behind_at next) most (straight (acts_run d again (acts ++ exit_act e ∷ []) nothing))
      (λ m s related. related) runs.0 (λ s way goes. committing acts e behind_at next runs.1)
