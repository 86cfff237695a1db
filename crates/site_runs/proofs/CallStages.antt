-- What is known between the acts of a call, and behind acts that leave it.
use Rattle.std.specs.Prelude.{◌≢◌, length, Option, Some, None}
use Rattle.std.proofs.Common.{◌≡◌, ◌∙◌, ℕ, ◌≤◌, Bool, true, false, List, sym, subst, arith}
use Rattle.devices.specs.Journal.{Place}
use Rattle.task_ast.specs.declared.core_form.CoreExpr.{CoreExpr}
use Rattle.task_ast.specs.declared.core_form.CoreTarget.{CoreTarget}
use Rattle.walk_run.specs.declared.place.Place as walked
use Rattle.word_machine.specs.State.{Program}
use Rattle.word_machine.specs.Straight.{Spot}
use Rattle.run_plan.specs.Cells.{State}
use Rattle.run_plan.specs.Small.{Doing, Way, ahead, first_way, second_way, third_way}
use Rattle.act_refines.specs.Does.{HasAim, Holds, IsCalledWith, IsFree}
use Rattle.code_cuts.specs.Asked.{HasArguments, HasTarget, HasWord}
use Rattle.site_runs.specs.InAttempts.{In, IsLooked, Never, With}

-- a call was valued: its target, if it has one, and so many arguments
pub record IsValued (has : Bool) (count : ℕ) (m : Spot) (s : State) : Type 0 where
  pub target : HasTarget m s
  pub aim : HasAim has m s
  pub args : HasArguments m s
  pub called : IsCalledWith count m s

-- whether a call has a target
abbrev pub aims : Option CoreTarget → Bool
aims None = false
aims (Some target) = true

module _ (p : Program) (place_of : ℕ → Place) (d : Doing) (number k : ℕ) (x : Option CoreTarget) (args : List CoreExpr) (blocks : List ℕ) where
  -- a call was valued; then its look was taken; and then its record is gone, or it holds
  abbrev pub Valued : ℕ → Spot → State → Type 0
  Valued = With (In p place_of d number blocks) (IsValued (aims x) (length args))

  abbrev pub Looked : ℕ → Spot → State → Type 0
  Looked = With Valued IsLooked

  abbrev pub Dropped : ℕ → Spot → State → Type 0
  Dropped = With Looked (IsFree k)

  abbrev pub Issued : ℕ → Spot → State → Type 0
  Issued = With Dropped HasWord

  abbrev pub Kept : ℕ → Spot → State → Type 0
  Kept = With Looked (Holds k)

  -- a word was read or taken
  abbrev pub Worded : ℕ → Spot → State → Type 0
  Worded = With Valued HasWord

  -- a choice goes into one of two lists
  abbrev pub Chosen : Way → ℕ → Spot → State → Type 0
  Chosen ahead = Never
  Chosen first_way = Looked
  Chosen second_way = Kept
  Chosen third_way = Never

-- ---- behind an act

-- that leaves what was valued
pub valued_kept : (aim : Bool) (count : ℕ) (m there : Spot) (s to : State) → to.frame.target ≡ s.frame.target → to.frame.args ≡ s.frame.args → IsValued aim count m s → IsValued aim count there to
valued_kept aim count m there s to target args h = record {
  target = subst (λ (o : Option (Option walked.Place)). o ≢ None) (sym target) h.target;
  aim = λ o is. h.aim o (sym target ∙ is);
  args = subst (λ (o : Option (List ℕ)). o ≢ None) (sym args) h.args;
  called = λ words is. h.called words (sym args ∙ is);
}

-- that leaves the look's time and the stamps
pub looked_kept : (m there : Spot) (s to : State) → m.clock ≤ there.clock → to.frame.time ≡ s.frame.time → to.cells.stamp ≡ s.cells.stamp → IsLooked m s → IsLooked there to
looked_kept m there s to on time stamps h = record {
  time = subst (λ (o : Option ℕ). o ≢ None) (sym time) h.time;
  past = λ u is. (let past : u ≤ m.clock = h.past u (sym time ∙ is) in omega (arith, past, on));
  stamps = λ u k is. subst (λ (f : ℕ → ℕ). f k ≤ u) (sym stamps) (h.stamps u k (sym time ∙ is));
}
