-- The code of acts that lies one behind another, and acts that lead on one behind another.
use Rattle.std.specs.Prelude.{false}
use Rattle.std.proofs.Common.{◌≡◌, ◌∙◌, ℕ, suc, ◌+◌, Bool, List, [], ◌∷◌, ◌++◌, refl, sym, ap, subst, arith}
use Rattle.devices.specs.Journal.{Place}
use Rattle.word_machine.specs.State.{Program}
use Rattle.run_plan.specs.declared.act.Act.{Act}
use Rattle.run_plan.specs.RunRows.{run_joined}
use Rattle.run_plan.specs.Runs.{acts_run}
use Rattle.run_plan.specs.Small.{Doing}
use Rattle.word_code.specs.ActCode.{acts_entry}
use Rattle.word_code.specs.Frames.{Frame}
use Rattle.word_code.specs.Sizes.{act_size, acts_size}
use Rattle.code_places.specs.Placed.{ActLies, ActsLie}
use Rattle.act_refines.specs.Does.{frame_of}
use Rattle.site_runs.specs.InAttempts.{In, LeadsOn}
use Rattle.site_runs.specs.Bodies.{ActsLead}

module _ (p : Program) (f : Frame) (keeps : Bool) where
  -- where acts before others are entered
  pub entered : (xs ys : List Act) (at next : ℕ) → acts_entry (xs ++ ys) at next ≡ acts_entry xs at (acts_entry ys (at + acts_size f xs) next)
  entered [] ys at next = let e : at ≡ at + 0 = omega arith in ap (λ w. acts_entry ys w next) e
  entered (a ∷ xs) ys at next = refl

  -- those of two lists
  pub lies_parts : (xs ys : List Act) (at next : ℕ) → ActsLie p f keeps (xs ++ ys) at next → ActsLie p f keeps xs at (acts_entry ys (at + acts_size f xs) next) × ActsLie p f keeps ys (at + acts_size f xs) next
  lies_parts [] ys at next lies = let e : at ≡ at + 0 = omega arith in (tt, subst (λ w. ActsLie p f keeps ys w next) e lies)
  lies_parts (a ∷ xs) ys at next lies =
      let behind_at : ℕ = at + act_size f a in
      let sum : behind_at + acts_size f xs ≡ at + (act_size f a + acts_size f xs) = omega arith in
      let rest = lies_parts xs ys behind_at next lies.1 in (
        (
          subst (λ w. ActLies p f keeps a at w) (entered xs ys behind_at next ∙ ap (λ w. acts_entry xs behind_at (acts_entry ys w next)) sum) lies.0,
          subst (λ w. ActsLie p f keeps xs behind_at (acts_entry ys w next)) sum rest.0,
        ),
        subst (λ w. ActsLie p f keeps ys w next) sum rest.1,
      )

module _ (p : Program) (place_of : ℕ → Place) (d : Doing) (number : ℕ) where
  -- no acts
  pub none_lead : (blocks : List ℕ) → ActsLead p place_of d number blocks []
  none_lead blocks most at next again go lies on = on

  -- acts before others
  pub both_lead : (blocks : List ℕ) (xs ys : List Act) → ActsLead p place_of d number blocks xs → ActsLead p place_of d number blocks ys → ActsLead p place_of d number blocks (xs ++ ys)
  both_lead blocks xs ys one two most at next again go lies on =
      let f : Frame = frame_of d number in
      let parts = lies_parts p f false xs ys at next lies in
      let behind_at : ℕ = at + acts_size f xs in
      subst (λ pc. LeadsOn p place_of d (In p place_of d number blocks) (suc most) pc (acts_run d again (xs ++ ys) go)) (sym (entered p f false xs ys at next))
      (subst (LeadsOn p place_of d (In p place_of d number blocks) (suc most) (acts_entry xs at (acts_entry ys behind_at next))) (sym (run_joined d again xs ys go))
      (one most at (acts_entry ys behind_at next) again (acts_run d again ys go) parts.0 (two most behind_at next again go parts.1 on)))
