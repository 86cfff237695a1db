-- The acts of a block lead on: its beginning is noted inside it, and at its end the mode outside is back.
use Rattle.std.specs.Prelude.{◌≢◌, cond, Some, None, Option, slice_get}
use Rattle.std.specs.List.{AllByRecursion}
use Rattle.std.proofs.Common.{◌≡◌, ◌∙◌, ℕ, suc, ◌+◌, ◌-◌, ◌<◌, ◌≤◌, false, List, [], ◌∷◌, ◌++◌, refl, sym, ap, subst, arith}
use Rattle.std.proofs.lemmas.Bool.{eq-eqb, ne_eqb}
use Rattle.devices.specs.Journal.{Place, drops}
use Rattle.io_annot.specs.declared.choice.Mode.{Mode}
use Rattle.io_annot.specs.declared.choice.Mode.TheVariants as mode
use Rattle.block_scope.specs.Enter.{entered}
use Rattle.task_ast.specs.WellFormed.{IsWellFormed}
use Rattle.task_ast.specs.declared.core_form.Core.{Core}
use Rattle.task_ast.specs.declared.core_form.CoreTask.{CoreTask}
use Rattle.task_ast.specs.declared.core_form.Site.TheVariants as site
use Rattle.task_ast.specs.declared.tree.Ann.{Ann}
use Rattle.task_attempts.specs.Boots.{task_of}
use Rattle.task_attempts.specs.Calls.{annotation}
use Rattle.task_attempts.specs.Changes.{put}
use Rattle.word_machine.specs.State.{Program}
use Rattle.word_machine.specs.Straight.{Spot}
use Rattle.line_laws.specs.Standing.{Lie}
use Rattle.run_plan.specs.declared.act.Act.{Act}
use Rattle.run_plan.specs.declared.act.Act.TheVariants as act
use Rattle.run_plan.specs.Cells.{State, puts_flag, puts_stamp}
use Rattle.run_plan.specs.Deeds.{leaving, seal_done, sealed, stamp_held}
use Rattle.run_plan.specs.PlanOf.{block_end_acts}
use Rattle.run_plan.specs.Rows.{act_row_of}
use Rattle.run_plan.specs.RunRows.{run_joined, run_leave}
use Rattle.run_plan.specs.Runs.{Onward, act_run, act_steps, acts_run, by_way, straight}
use Rattle.run_plan.specs.Small.{Doing, Way, ahead, first_way, second_way, third_way, core_of, does, have, sets_frame, writing}
use Rattle.word_code.specs.ActCode.{act_code, acts_entry, entry}
use Rattle.word_code.specs.ActLaws.{entry_of_acts}
use Rattle.word_code.specs.Frames.{Frame}
use Rattle.word_code.specs.Sizes.{act_size, acts_size}
use Rattle.code_places.specs.Placed.{ActLies, ActsLie}
use Rattle.act_laws.specs.Words.{FitsLimit}
use Rattle.cell_laws.specs.Standing.{IsSite}
use Rattle.act_refines.specs.Does.{DoesAct, IsEarlier, IsFree, Nothing, frame_of}
use Rattle.code_cuts.specs.Acts.{CutsAct}
use Rattle.code_cuts.specs.Asked.{IsInside, IsTimed, SealsBlock}
use Rattle.code_runs.specs.Following.{AnyWay}
use Rattle.code_runs.proofs.Placing.{Keeps, known_behind, later}
use Rattle.site_runs.specs.InAttempts.{In, IsAround, IsLooked, LeadsOn, Never, With}
use Rattle.site_runs.proofs.Behind.{around_later, attempt_kept}
use Rattle.site_runs.proofs.Leading.{act_leads, each_way, no_leads, straight_leads}
use Rattle.site_runs.proofs.Lists.{lists_lie}
use Rattle.site_runs.specs.Bodies.{BlocksLead, IsBlockOf}
use Rattle.site_runs.proofs.Claims.{all_around, still_around}
use Rattle.site_runs.proofs.Finding.{to_site}
use Rattle.site_runs.proofs.Lying.{entered as entered_at, lies_parts}

-- ---- small facts

-- what is there isn't missing
something : {A : Type 0} (x : A) → Some x ≢ None
something x is = cc

-- a function with another value at a number, there and elsewhere
put_here : {A : Type 0} (k : ℕ) (x : A) (f : ℕ → A) → put k x f k ≡ x
put_here k x f = ap (λ b. cond b x (f k)) (eq-eqb k k refl)

put_other : {A : Type 0} (k j : ℕ) (x : A) (f : ℕ → A) → (k ≡ j → ⊥) → put k x f j ≡ f j
put_other k j x f apart = ap (λ b. cond b x (f j)) (ne_eqb k j apart)

-- the laws on the code of a block's acts, as an argument of what goes by them
pub record BlockLaws (p : Program) (place_of : ℕ → Place) : Type 0 where
  pub looks : (d : Doing) (number : ℕ) → IsWellFormed (core_of d) → task_of (core_of d) number ≡ Some d.setting.task → (k : ℕ) (blocks : List ℕ) (most at next : ℕ) (go : Onward) → Lie p at (act_code (frame_of d number) false (act.Look k) at next)
      → LeadsOn p place_of d (With (In p place_of d number blocks) IsLooked) (suc most) next go → LeadsOn p place_of d (In p place_of d number blocks) (suc most) at (act_steps d (act.Look k) (straight go))
  pub enters : (d : Doing) (number k : ℕ) (ann : Ann) → IsSite k → slice_get d.setting.task.sites (k - 1) ≡ Some (site.Block ann) → FitsLimit ann → DoesAct p place_of d number false (act.Enter k) (IsEarlier k)
  pub enters_cut : (d : Doing) (number k : ℕ) → CutsAct p place_of d number false (act.Enter k) IsTimed
  pub leaves : (d : Doing) (number k : ℕ) (acts : List Act) → IsSite k → DoesAct p place_of d number false (act.Leave k acts) Nothing
  pub leaves_cut : (d : Doing) (number k : ℕ) (acts : List Act) → CutsAct p place_of d number false (act.Leave k acts) (IsInside k)
  pub dropped : (d : Doing) (number k : ℕ) → IsSite k → DoesAct p place_of d number false (act.Drop k) Nothing
  pub dropped_cut : (d : Doing) (number k : ℕ) → IsSite k → CutsAct p place_of d number false (act.Drop k) Nothing
  pub seals : (d : Doing) (number k : ℕ) (ann : Ann) → IsSite k → slice_get d.setting.task.sites (k - 1) ≡ Some (site.Block ann) → DoesAct p place_of d number false (act.Seal k) (IsFree k)
  pub seals_cut : (d : Doing) (number k : ℕ) (ann : Ann) → IsSite k → slice_get d.setting.task.sites (k - 1) ≡ Some (site.Block ann) → CutsAct p place_of d number false (act.Seal k) (SealsBlock k)

module _ (p : Program) (place_of : ℕ → Place) (law : BlockLaws p place_of) (d : Doing) (number : ℕ) (well : IsWellFormed (core_of d)) (here : task_of (core_of d) number ≡ Some d.setting.task) where
  abbrev c : Core
  c = core_of d

  abbrev t : CoreTask
  t = d.setting.task

  abbrev f : Frame
  f = frame_of d number

  abbrev Inside : List ℕ → ℕ → Spot → State → Type 0
  Inside = In p place_of d number

  -- ---- what is known between the acts of a block

  -- behind its look
  abbrev Looked : List ℕ → ℕ → Spot → State → Type 0
  Looked blocks = With (Inside blocks) IsLooked

  -- behind its end, where it didn't keep, and behind the drop of its record
  abbrev Ended : List ℕ → (k : ℕ) → ℕ → Spot → State → Type 0
  Ended blocks k = With (Inside blocks) (IsAround k)

  abbrev Dropped : List ℕ → (k : ℕ) → ℕ → Spot → State → Type 0
  Dropped blocks k = With (Ended blocks k) (λ m s. s.cells.flag k ≡ 0)

  -- behind its end, by the way that this goes
  abbrev Left : List ℕ → (k : ℕ) → Way → ℕ → Spot → State → Type 0
  Left blocks k ahead = Inside blocks
  Left blocks k first_way = Ended blocks k
  Left blocks k second_way = Never
  Left blocks k third_way = Never

  -- ---- each act keeps what is known

  enter_keeps : (blocks : List ℕ) (k : ℕ) → AllByRecursion (λ j. j < k) blocks → (n : ℕ) (m : Spot) (s : State) → Looked blocks n m s → (o : Option Mode) (u : Option ℕ) → s.frame.time ≡ u
      → Keeps p place_of d number (AnyWay (Inside (k ∷ blocks))) n m s
      (have o (λ x. have u (λ time. sets_frame (record s.frame { mode = Some (entered x (annotation d.setting k) (stamp_held s k) time); outer = put k (Some x) s.frame.outer; begun = put k (Some time) s.frame.begun }))))
  enter_keeps blocks k earlier n m s h None u is = tt
  enter_keeps blocks k earlier n m s h (Some x) None is = tt
  enter_keeps blocks k earlier n m s h (Some x) (Some time) is = λ steps there gone.
      let on : m.clock ≤ there.clock = later p place_of d number n steps m there [] s _ gone in
      record {
        common = known_behind p place_of d number n steps m there [] s _ h.0.common gone refl;
        within = h.0.within;
        mode = something (entered x (annotation d.setting k) (stamp_held s k) time);
        around = (
          record {
            begun = subst (λ o. o ≢ None) (sym (put_here k (Some time) s.frame.begun)) (something time);
            outer = subst (λ o. o ≢ None) (sym (put_here k (Some x) s.frame.outer)) (something x);
            past = λ u now. (let past : u ≤ m.clock = h.1.past u (is ∙ sym (put_here k (Some time) s.frame.begun) ∙ now) in omega (arith, past, on));
          },
          all_around (λ j. j < k) blocks m there s _ on (λ j less. put_other k j (Some time) s.frame.begun (λ same. omega (arith, less, same))) (λ j less. put_other k j (Some x) s.frame.outer (λ same. omega (arith, less, same))) earlier h.0.around,
        );
      }

  leave_keeps : (blocks : List ℕ) (k n : ℕ) (m : Spot) (s : State) → Inside (k ∷ blocks) n m s → (o u : Option Mode)
      → Keeps p place_of d number (Left blocks k) n m s (have o (λ inside. have u (λ x. does [] (λ after. record after { frame = record s.frame { mode = Some x } }) (leaving inside))))
  leave_keeps blocks k n m s h None u = tt
  leave_keeps blocks k n m s h (Some inside) None = tt
  leave_keeps blocks k n m s h (Some inside) (Some x) = λ steps there gone.
      let on : m.clock ≤ there.clock = later p place_of d number n steps m there [] s _ gone in
      let to : State = record s { frame = record s.frame { mode = Some x } } in
      by inside (n - steps) there
      (record { common = known_behind p place_of d number n steps m there [] s to h.common gone refl; within = h.within; mode = something x; around = around_later m there s to blocks on refl refl h.around.1 })
      (still_around k m there s to on refl refl h.around.0)
    where
      by : (inside : Mode) (left : ℕ) (there : Spot) → Inside blocks left there (record s { frame = record s.frame { mode = Some x } }) → IsAround k there (record s { frame = record s.frame { mode = Some x } })
          → Left blocks k (leaving inside) left there (record s { frame = record s.frame { mode = Some x } })
      by mode.Keep left there out around = out
      by mode.Own left there out around = (out, around)
      by mode.Force left there out around = (out, around)

  drop_keeps : (blocks : List ℕ) (k n : ℕ) (m : Spot) (s : State) → Ended blocks k n m s → Keeps p place_of d number (AnyWay (Dropped blocks k)) n m s (does (writing (puts_flag k 0) (drops k) ∷ []) (λ s. s) ahead)
  drop_keeps blocks k n m s h = λ steps there gone.
      let on : m.clock ≤ there.clock = later p place_of d number n steps m there _ s _ gone in
      ((attempt_kept p place_of d number blocks n steps m there _ s _ h.0 gone refl refl h.0.within, still_around k m there s _ on refl refl h.1), put_here k 0 s.cells.flag)

  seal_keeps : (blocks : List ℕ) (k n : ℕ) (m : Spot) (s : State) → Dropped blocks k n m s → (u : Option ℕ) → Keeps p place_of d number (AnyWay (Inside blocks)) n m s (have u (λ time. sealed k (puts_stamp k time ∷ puts_flag k s.epoch ∷ [])))
  seal_keeps blocks k n m s h None = tt
  seal_keeps blocks k n m s h (Some time) = λ steps there gone. attempt_kept p place_of d number blocks n steps m there _ s _ h.0.0 gone refl refl h.0.0.within

  -- ---- each act leads on

  end_leads : (k : ℕ) (blocks : List ℕ) → IsBlockOf d k → (most at next : ℕ) (again go : Onward) → ActsLie p f false (block_end_acts k) at next → LeadsOn p place_of d (Inside blocks) (suc most) next go
      → LeadsOn p place_of d (Ended blocks k) (suc most) at (acts_run d again (block_end_acts k) go)
  end_leads k blocks is most at next again go lies on =
      let seal_at : ℕ = at + act_size f (act.Drop k) in
      let sealing : LeadsOn p place_of d (Dropped blocks k) (suc most) seal_at (acts_run d again (act.Seal k ∷ []) go) =
      straight_leads p place_of d number well here false (Dropped blocks k) (Inside blocks) (IsFree k) (SealsBlock k) (act.Seal k) seal_at next most go (λ m s related. related) (λ way. refl) (law.seals d number k is.ann is.numbered is.there)
      (law.seals_cut d number k is.ann is.numbered is.there) (λ n m s h. h.0.0.common)
      (λ n m s related h.
      let started : 0 < s.epoch = related.memory.tidy.started in
      let none : s.cells.flag k ≡ 0 = h.1 in
      let free : IsFree k m s = (λ same. omega (arith, started, none, same)) in
      (free, record { free = free; begun = h.0.1.begun; past = h.0.1.past }))
      (λ n m s related h. subst (λ o. Keeps p place_of d number (AnyWay (Inside blocks)) n m s (seal_done o k s)) (sym (to_site t.sites k (site.Block is.ann) is.numbered is.there)) (seal_keeps blocks k n m s h (s.frame.begun k))) lies.1.0 on in
      straight_leads p place_of d number well here false (Ended blocks k) (Dropped blocks k) Nothing Nothing (act.Drop k) at seal_at most (acts_run d again (act.Seal k ∷ []) go) (λ m s related. related) (λ way. refl) (law.dropped d number k is.numbered)
      (law.dropped_cut d number k is.numbered) (λ n m s h. h.0.common) (λ n m s related h. (tt, tt)) (λ n m s related h. drop_keeps blocks k n m s h) lies.0 sealing

  leave_leads : (k : ℕ) (blocks : List ℕ) → IsBlockOf d k → (most at next : ℕ) (again go : Onward) → ActLies p f false (act.Leave k (block_end_acts k)) at next → LeadsOn p place_of d (Inside blocks) (suc most) next go
      → LeadsOn p place_of d (Inside (k ∷ blocks)) (suc most) at (act_run d again (act.Leave k (block_end_acts k)) go)
  leave_leads k blocks is most at next again go lies on =
      let ends : List Act = block_end_acts k in
      let end_at : ℕ = at + 8 in
      let ending : LeadsOn p place_of d (Ended blocks k) (suc most) (entry (act_row_of ends).1 end_at next) (acts_run d again ends go) =
      subst (λ pc. LeadsOn p place_of d (Ended blocks k) (suc most) pc (acts_run d again ends go)) (sym (entry_of_acts end_at next ends)) (end_leads k blocks is most end_at next again go (lists_lie p f false end_at next ends lies.1) on) in
      subst (LeadsOn p place_of d (Inside (k ∷ blocks)) (suc most) at) (sym (run_leave d again k ends go))
      (act_leads p place_of d number well here false (Inside (k ∷ blocks)) (Left blocks k) Nothing (IsInside k) (act.Leave k ends) at next most (by_way (acts_run d again ends go) go go go) (λ m s related. related) (law.leaves d number k ends is.numbered)
      (law.leaves_cut d number k ends) (λ n m s h. h.common) (λ n m s related h. (tt, record { mode = h.mode; outer = h.around.0.outer })) (λ n m s related h. leave_keeps blocks k n m s h s.frame.mode (s.frame.outer k)) lies.0
      (each_way p place_of d (Left blocks k) (suc most) (entry (act_row_of ends).1 end_at next) next next next (acts_run d again ends go) go go go ending (no_leads p place_of d (suc most) next go) (no_leads p place_of d (suc most) next go) on))

  enter_leads : (k : ℕ) (blocks : List ℕ) → IsBlockOf d k → AllByRecursion (λ j. j < k) blocks → (most at next : ℕ) (again go : Onward) → ActLies p f false (act.Enter k) at next → LeadsOn p place_of d (Inside (k ∷ blocks)) (suc most) next go
      → LeadsOn p place_of d (Looked blocks) (suc most) at (act_run d again (act.Enter k) go)
  enter_leads k blocks is earlier most at next again go lies on =
      straight_leads p place_of d number well here false (Looked blocks) (Inside (k ∷ blocks)) (IsEarlier k) IsTimed (act.Enter k) at next most go (λ m s related. related) (λ way. refl) (law.enters d number k is.ann is.numbered is.there is.limit)
      (law.enters_cut d number k) (λ n m s h. h.0.common) (λ n m s related h. ((λ held time now. h.1.stamps time k now), record { mode = h.0.mode; time = h.1.time }))
      (λ n m s related h. enter_keeps blocks k earlier n m s h s.frame.mode s.frame.time refl) lies on

  pub blocks_lead : BlocksLead p place_of d number
  blocks_lead k blocks body is earlier inner most at next again go lies on =
      let ends : List Act = act.Leave k (block_end_acts k) ∷ [] in
      let enter_at : ℕ = at + act_size f (act.Look k) in
      let body_at : ℕ = enter_at + act_size f (act.Enter k) in
      let leave_at : ℕ = body_at + acts_size f body in
      let parts = lies_parts p f false body ends body_at next lies.1.1 in
      let leaving_so : LeadsOn p place_of d (Inside (k ∷ blocks)) (suc most) leave_at (acts_run d again ends go) = leave_leads k blocks is most leave_at next again go parts.1.0 on in
      let body_so : LeadsOn p place_of d (Inside (k ∷ blocks)) (suc most) (acts_entry (body ++ ends) body_at next) (acts_run d again (body ++ ends) go) =
      subst (λ pc. LeadsOn p place_of d (Inside (k ∷ blocks)) (suc most) pc (acts_run d again (body ++ ends) go)) (sym (entered_at p f false body ends body_at next))
      (subst (LeadsOn p place_of d (Inside (k ∷ blocks)) (suc most) (acts_entry body body_at leave_at)) (sym (run_joined d again body ends go)) (inner most body_at leave_at again (acts_run d again ends go) parts.0 leaving_so)) in
      let entering_so : LeadsOn p place_of d (Looked blocks) (suc most) enter_at (act_run d again (act.Enter k) (acts_run d again (body ++ ends) go)) =
      enter_leads k blocks is earlier most enter_at (acts_entry (body ++ ends) body_at next) again (acts_run d again (body ++ ends) go) lies.1.0 body_so in
      law.looks d number well here k blocks most at enter_at (act_run d again (act.Enter k) (acts_run d again (body ++ ends) go)) lies.0 entering_so
