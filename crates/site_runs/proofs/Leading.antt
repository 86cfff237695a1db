-- Acts lead on: by what is known before an act, and behind it by the way that it goes.
use Rattle.std.specs.Prelude.{Some}
use Rattle.std.proofs.Common.{◌≡◌, ℕ, suc, Bool, true, sym, subst}
use Rattle.devices.specs.Journal.{Place}
use Rattle.task_ast.specs.WellFormed.{IsWellFormed}
use Rattle.task_attempts.specs.Boots.{task_of}
use Rattle.word_machine.specs.State.{Program}
use Rattle.word_machine.specs.Straight.{Spot}
use Rattle.line_laws.specs.Standing.{Lie}
use Rattle.run_plan.specs.declared.act.Act.{Act}
use Rattle.run_plan.specs.Cells.{State}
use Rattle.run_plan.specs.Deeds.{act_done}
use Rattle.run_plan.specs.Runs.{Onward, act_steps, by_way, straight}
use Rattle.run_plan.specs.Small.{Doing, Way, ahead, first_way, second_way, third_way, core_of}
use Rattle.run_plan.specs.Weights.{weight}
use Rattle.word_code.specs.ActCode.{act_code}
use Rattle.act_refines.specs.Between.{AreRelated}
use Rattle.act_refines.specs.Does.{DoesAct, RelatedBehind, frame_of, has_begun, way_at, way_to}
use Rattle.code_cuts.specs.Acts.{CutsAct}
use Rattle.code_cuts.specs.Lasting.{Lasts}
use Rattle.code_runs.specs.Following.{AnyWay, LeadsFrom, RunsAt}
use Rattle.code_runs.proofs.Following.{act_follows}
use Rattle.code_runs.proofs.Placing.{Keeps, Known, placed}
use Rattle.site_runs.specs.InAttempts.{LeadsOn, Never}

module _ (p : Program) (place_of : ℕ → Place) (d : Doing) where
  -- what leads on under a claim does so under a stronger one
  pub leads_under : (Holds Other : ℕ → Spot → State → Type 0) (most pc : ℕ) (go : Onward) → ((n : ℕ) (m : Spot) (s : State) → Other n m s → Holds n m s) → LeadsOn p place_of d Holds most pc go → LeadsOn p place_of d Other most pc go
  leads_under Holds Other most pc go stronger leads = λ n spent m at soon is related few holds. leads n spent m at soon is related few (stronger n m at.state holds)

  -- nothing comes a way that isn't taken
  pub no_leads : (most pc : ℕ) (go : Onward) → LeadsOn p place_of d Never most pc go
  no_leads most pc go = λ n spent m at soon is related few none. elim none [ ]

  -- each way leads on under its own claim
  pub each_way : (After : Way → ℕ → Spot → State → Type 0) (most first second third next : ℕ) (one two three go : Onward) → LeadsOn p place_of d (After first_way) most first one → LeadsOn p place_of d (After second_way) most second two
      → LeadsOn p place_of d (After third_way) most third three → LeadsOn p place_of d (After ahead) most next go → (way : Way) → LeadsOn p place_of d (After way) most (way_to first second third next way) (by_way one two three go way)
  each_way After most first second third next one two three go a b c behind ahead = behind
  each_way After most first second third next one two three go a b c behind first_way = a
  each_way After most first second third next one two three go a b c behind second_way = b
  each_way After most first second third next one two three go a b c behind third_way = c

  module _ (number : ℕ) where
    -- an act of an attempt
    abbrev LeadsAct : (Before : ℕ → Spot → State → Type 0) → (most : ℕ) → Act → (at : ℕ) → Onward → Type 0
    LeadsAct Before most a at go = LeadsFrom p place_of (core_of d) d.scheme (Lasts p d.setting.rules d.scheme) Before (AreRelated p d (has_begun a)) most at go

    -- that runs at its place leads on by its ways
    pub runs_lead : (Before : ℕ → Spot → State → Type 0) (After : Way → ℕ → Spot → State → Type 0) (a : Act) (at next most : ℕ) (ways : Way → Onward) → ((m : Spot) (s : State) → RelatedBehind p d a m s → AreRelated p d true m s)
        → RunsAt p place_of d number (Lasts p d.setting.rules d.scheme) Before After a at next → ((way : Way) → LeadsOn p place_of d (After way) (suc most) (way_at (frame_of d number) a at next way) (ways way)) → LeadsAct Before (suc most) a at (act_steps d a ways)
    runs_lead Before After a at next most ways behind runs leads =
        act_follows p place_of d number (Lasts p d.setting.rules d.scheme) Before After (AreRelated p d true) a at next most ways behind runs (λ s way goes. leads way)

    module _ (well : IsWellFormed (core_of d)) (here : task_of (core_of d) number ≡ Some d.setting.task) where
      -- where its code lies, does its act and is cut well, and what is known behind it follows
      pub act_leads : (keeps : Bool) (Before : ℕ → Spot → State → Type 0) (After : Way → ℕ → Spot → State → Type 0) (Asks Misses : Spot → State → Type 0) (a : Act) (at next most : ℕ) (ways : Way → Onward)
          → ((m : Spot) (s : State) → RelatedBehind p d a m s → AreRelated p d true m s) → DoesAct p place_of d number keeps a Asks → CutsAct p place_of d number keeps a Misses
          → ((n : ℕ) (m : Spot) (s : State) → Before n m s → Known p place_of d number n m s) → ((n : ℕ) (m : Spot) (s : State) → AreRelated p d (has_begun a) m s → Before n m s → Asks m s × Misses m s)
          → ((n : ℕ) (m : Spot) (s : State) → AreRelated p d (has_begun a) m s → Before n m s → Keeps p place_of d number After n m s (act_done d a s)) → Lie p at (act_code (frame_of d number) keeps a at next)
          → ((way : Way) → LeadsOn p place_of d (After way) (suc most) (way_at (frame_of d number) a at next way) (ways way)) → LeadsAct Before (suc most) a at (act_steps d a ways)
      act_leads keeps Before After Asks Misses a at next most ways behind does_it cuts knows asks leaves lies leads =
          runs_lead Before After a at next most ways behind (placed p place_of d number well here keeps Before After Asks Misses (weight d a) a at next does_it cuts knows asks leaves lies) leads

      -- an act without lists goes ahead
      pub straight_leads : (keeps : Bool) (Before After : ℕ → Spot → State → Type 0) (Asks Misses : Spot → State → Type 0) (a : Act) (at next most : ℕ) (go : Onward)
          → ((m : Spot) (s : State) → RelatedBehind p d a m s → AreRelated p d true m s) → ((way : Way) → way_at (frame_of d number) a at next way ≡ next)
          → DoesAct p place_of d number keeps a Asks → CutsAct p place_of d number keeps a Misses
          → ((n : ℕ) (m : Spot) (s : State) → Before n m s → Known p place_of d number n m s) → ((n : ℕ) (m : Spot) (s : State) → AreRelated p d (has_begun a) m s → Before n m s → Asks m s × Misses m s)
          → ((n : ℕ) (m : Spot) (s : State) → AreRelated p d (has_begun a) m s → Before n m s → Keeps p place_of d number (AnyWay After) n m s (act_done d a s)) → Lie p at (act_code (frame_of d number) keeps a at next)
          → LeadsOn p place_of d After (suc most) next go → LeadsAct Before (suc most) a at (act_steps d a (straight go))
      straight_leads keeps Before After Asks Misses a at next most go behind ahead_at does_it cuts knows asks leaves lies leads =
          act_leads keeps Before (AnyWay After) Asks Misses a at next most (straight go) behind does_it cuts knows asks leaves lies (λ way. subst (λ pc. LeadsOn p place_of d After (suc most) pc go) (sym (ahead_at way)) leads)
