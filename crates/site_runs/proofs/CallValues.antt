-- A call is valued, and looks at the clock.
use Rattle.std.specs.Prelude.{length, Option, Some, None, Result, Ok, Err, ⊤}
use Rattle.std.proofs.Common.{◌≡◌, ℕ, suc, ◌≤◌, Bool, true, false, List, [], ◌∷◌, refl, sym, ap, subst}
use Rattle.devices.specs.Journal.{Place}
use Rattle.ease_base.specs.Found.{with_found}
use Rattle.io_flow.specs.Written.{AllWithin}
use Rattle.task_ast.specs.Pointing.{pointing}
use Rattle.task_ast.specs.WellFormed.{IsWellFormed, scope_of}
use Rattle.task_ast.specs.declared.core_form.CoreExpr.{CoreExpr}
use Rattle.task_ast.specs.declared.core_form.CoreTarget.{CoreTarget}
use Rattle.task_attempts.specs.Boots.{task_of}
use Rattle.walk_run.specs.declared.place.Place as walked
use Rattle.walk_run.specs.declared.trap.Trap.{Trap}
use Rattle.walk_run.specs.Store.{Store}
use Rattle.walk_run.specs.Value.{target_place, value_of}
use Rattle.word_machine.specs.State.{Program}
use Rattle.word_machine.specs.Straight.{Spot}
use Rattle.line_laws.specs.Standing.{Lie}
use Rattle.run_plan.specs.declared.act.Act.TheVariants as act
use Rattle.run_plan.specs.Cells.{State}
use Rattle.run_plan.specs.Deeds.{all_values, look_done, target_found, value_done}
use Rattle.run_plan.specs.Runs.{Onward, act_steps, straight}
use Rattle.run_plan.specs.Small.{Doing, core_of, sets_frame, unless_fails}
use Rattle.word_code.specs.ActCode.{act_code}
use Rattle.act_refines.specs.Between.{AreRelated}
use Rattle.act_refines.specs.Does.{AimsWell, DoesAct, IsDue, Nothing, frame_of, is_aimed}
use Rattle.act_refines.proofs.Begins.{few_pointers}
use Rattle.code_runs.specs.Following.{AnyWay}
use Rattle.code_runs.proofs.Placing.{Keeps, later}
use Rattle.code_runs.proofs.Words.{IsSound}
use Rattle.site_runs.specs.InAttempts.{In, LeadsOn}
use Rattle.site_runs.proofs.Behind.{attempt_behind, same_thing, something}
use Rattle.site_runs.proofs.Leading.{straight_leads}
use Rattle.site_runs.proofs.Looking.{look_leads, looked}
use Rattle.site_runs.specs.Calls.{IsCallOf}
use Rattle.site_runs.proofs.CallLaws.{CallLaws}
use Rattle.site_runs.proofs.Checked.{arguments_short, target_aims, target_over}
use Rattle.site_runs.proofs.CallStages.{Looked, Valued, aims, valued_kept}

-- ---- what is found

-- a target is found where the call has one
abbrev IsAimed : Bool → Result (Option walked.Place) Trap → Type 0
IsAimed aim (Ok o) = is_aimed o ≡ aim
IsAimed aim (Err why) = ⊤

found_aimed : (x : Option CoreTarget) (store : Store) → IsAimed (aims x) (target_found x store)
found_aimed None store = refl
found_aimed (Some target) store = by (target_place target store)
  where
    by : (r : Result walked.Place Trap) → IsAimed true (with_found r (λ at. Ok (Some at)))
    by (Ok at) = refl
    by (Err why) = tt

-- as many words as there are arguments
abbrev IsLong : ℕ → Result (List ℕ) Trap → Type 0
IsLong n (Ok words) = length words ≡ n
IsLong n (Err why) = ⊤

values_long : (es : List CoreExpr) (store : Store) → IsLong (length es) (all_values es store)
values_long [] store = refl
values_long (e ∷ es) store = by (value_of e store) (all_values es store) (values_long es store)
  where
    by : (r : Result ℕ Trap) (rs : Result (List ℕ) Trap) → IsLong (length es) rs → IsLong (suc (length es)) (with_found r (λ word. with_found rs (λ words. Ok (word ∷ words))))
    by (Ok word) (Ok words) h = ap suc h
    by (Ok word) (Err why) h = tt
    by (Err why) rs h = tt

module _ (p : Program) (place_of : ℕ → Place) (law : CallLaws p place_of) (d : Doing) (number : ℕ) (well : IsWellFormed (core_of d)) (here : task_of (core_of d) number ≡ Some d.setting.task)
    (k : ℕ) (x : Option CoreTarget) (q : ℕ) (args : List CoreExpr) (call : IsCallOf d number k x q args) (blocks : List ℕ) where
  abbrev Claim : ℕ → Spot → State → Type 0
  Claim = In p place_of d number blocks

  abbrev AfterValue : ℕ → Spot → State → Type 0
  AfterValue = Valued p place_of d number k x args blocks

  abbrev AfterLook : ℕ → Spot → State → Type 0
  AfterLook = Looked p place_of d number k x args blocks

  -- ---- valuing

  -- a target aims well, where there is one
  abbrev Aims : Option CoreTarget → Spot → State → Type 0
  Aims None = Nothing
  Aims (Some target) = AimsWell (core_of d) target

  value_does : (o : Option CoreTarget) → IsCallOf d number k o q args → DoesAct p place_of d number false (act.Value k) (Aims o)
  value_does None h = law.values d number k q args h.said h.laid (arguments_short (scope_of (core_of d) d.setting.task) (few_pointers (core_of d) well) args h.formed.4) h.formed.3
  value_does (Some target) h =
      law.values_aimed d number k q target args h.said h.laid (target_over (scope_of (core_of d) d.setting.task) (few_pointers (core_of d) well) h.turning target (h.formed.1 target refl))
      (arguments_short (scope_of (core_of d) d.setting.task) (few_pointers (core_of d) well) args h.formed.4) h.formed.3

  sound : (m : Spot) (s : State) → AreRelated p d true m s → AllWithin (pointing d.setting.task) s.store → IsSound (core_of d) (pointing d.setting.task) s.store
  sound m s related within = let r = law.relates d m s well related in record { rooms = λ a. (r.arrays a).rooms; fits = λ a i low. ((r.arrays a).cells i low).fits; within = within }

  value_asks : (o : Option CoreTarget) → IsCallOf d number k o q args → (m : Spot) (s : State) → AreRelated p d true m s → AllWithin (pointing d.setting.task) s.store → Aims o m s
  value_asks None h m s related within = tt
  value_asks (Some target) h m s related within = λ at is. target_aims (core_of d) d.setting.task h.turning target s.store (sound m s related within) (h.formed.1 target refl) at is

  value_keeps : (n : ℕ) (m : Spot) (s : State) → Claim n m s → (r : Result (Option walked.Place) Trap) → IsAimed (aims x) r → (rs : Result (List ℕ) Trap) → IsLong (length args) rs
      → Keeps p place_of d number (AnyWay AfterValue) n m s (unless_fails r (λ at. unless_fails rs (λ words. sets_frame (record s.frame { target = Some at; args = Some words }))))
  value_keeps n m s h (Err why) aimed rs long = tt
  value_keeps n m s h (Ok at) aimed (Err why) long = tt
  value_keeps n m s h (Ok at) aimed (Ok words) long = λ steps there gone.
      let to : State = record s { frame = record s.frame { target = Some at; args = Some words } } in (
        attempt_behind p place_of d number blocks n steps m there [] s to h gone refl refl refl refl h.within,
        record {
          target = something at;
          aim = λ o is. subst (λ z. is_aimed z ≡ aims x) (same_thing at o is) aimed;
          args = something words;
          called = λ more is. subst (λ z. length z ≡ length args) (same_thing words more is) long;
        },
      )

  pub value_leads : (at next most : ℕ) (go : Onward) → Lie p at (act_code (frame_of d number) false (act.Value k) at next) → LeadsOn p place_of d AfterValue (suc most) next go → LeadsOn p place_of d Claim (suc most) at (act_steps d (act.Value k) (straight go))
  value_leads at next most go lies leads =
      straight_leads p place_of d number well here false Claim AfterValue (Aims x) Nothing (act.Value k) at next most go (λ m s related. related) (λ way. refl) (value_does x call) (law.values_cut d number k q x args call.said) (λ n m s h. h.common)
      (λ n m s related h. (value_asks x call m s related h.within, tt))
      (λ n m s related h. subst (λ o. Keeps p place_of d number (AnyWay AfterValue) n m s (value_done d.setting o s)) (sym call.said) (value_keeps n m s h (target_found x s.store) (found_aimed x s.store) (all_values args s.store) (values_long args s.store))) lies leads

  -- ---- a look

  look_keeps : (n : ℕ) (m : Spot) (s : State) → AfterValue n m s → IsDue m s → Keeps p place_of d number (AnyWay AfterLook) n m s (look_done k s)
  look_keeps n m s h due = λ steps there gone.
      let on : m.clock ≤ there.clock = later p place_of d number n steps m there _ s _ gone in
      ((attempt_behind p place_of d number blocks n steps m there _ s _ h.0 gone refl refl refl refl h.0.within, valued_kept (aims x) (length args) m there s _ refl refl h.1), looked p place_of law.look d number well here blocks n m there s h.0 due on)

  pub call_looks : (at next most : ℕ) (go : Onward) → Lie p at (act_code (frame_of d number) false (act.Look k) at next) → LeadsOn p place_of d AfterLook (suc most) next go → LeadsOn p place_of d AfterValue (suc most) at (act_steps d (act.Look k) (straight go))
  call_looks at next most go lies leads =
      look_leads p place_of law.look d number well here AfterValue AfterLook k at next (λ n m s h. h.0.common) (λ n m s related h due. look_keeps n m s h due) lies most go leads
