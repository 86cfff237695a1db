-- The laws on the code of acts without sites, as an argument of what goes by them: that it does its act, and that it is cut well.
use Rattle.std.specs.Prelude.{◌≡◌, ◌<◌, ◌≤◌, ℕ, Bool, true, false, List, [], length, slice_index_or}
use Rattle.devices.specs.Journal.{Place}
use Rattle.io_flow.specs.Written.{Covers}
use Rattle.task_ast.specs.Pointing.{addresses, pointing}
use Rattle.task_ast.specs.WellFormed.{IsCoreStmt, IsOver, IsWellFormed, scope_of}
use Rattle.task_ast.specs.declared.core_form.CoreExpr.{CoreExpr}
use Rattle.task_ast.specs.declared.core_form.CoreStmt.{CoreStmt}
use Rattle.word_isa.specs.declared.parts.Scheme.TheVariants.{Undo, Bank}
use Rattle.word_machine.specs.State.{Program}
use Rattle.word_machine.specs.Straight.{Spot}
use Rattle.line_code.specs.Fitting.{IsShort}
use Rattle.line_laws.specs.Relation.{Related}
use Rattle.run_plan.specs.declared.act.Act.{Act}
use Rattle.run_plan.specs.declared.act.Act.TheVariants as act
use Rattle.run_plan.specs.Cells.{State}
use Rattle.run_plan.specs.Small.{Doing, core_of}
use Rattle.layout_laws.specs.Layouts.{layout_of}
use Rattle.cell_laws.specs.Standing.{worked}
use Rattle.act_refines.specs.Between.{AreRelated}
use Rattle.act_refines.specs.Does.{AreHomes, DoesAct, MayCommit, Nothing, StatementFits}
use Rattle.code_cuts.specs.Acts.{CommitsEarly, CutsAct}

-- the laws on each act's code in a program
pub record BareLaws (p : Program) (place_of : ℕ → Place) : Type 0 where
  pub restores : (d : Doing) (number r : ℕ) → r ≤ 128 → r < length d.firsts → d.scheme ≡ Undo → AreHomes (core_of d) (slice_index_or d.firsts r []) → DoesAct p place_of d number false (act.Restore r) Nothing
  pub restores_cut : (d : Doing) (number r : ℕ) → AreHomes (core_of d) (slice_index_or d.firsts r []) → CutsAct p place_of d number false (act.Restore r) Nothing
  pub begins : (d : Doing) (number task : ℕ) → d.scheme ≡ Undo → DoesAct p place_of d number false (act.Begin task) Nothing
  pub begins_banks : (d : Doing) (number task : ℕ) → d.scheme ≡ Bank → DoesAct p place_of d number false (act.Begin task) Nothing
  pub begins_cut : (d : Doing) (number task : ℕ) → CutsAct p place_of d number false (act.Begin task) Nothing
  pub saves : (d : Doing) (number r : ℕ) → r ≤ 128 → d.scheme ≡ Undo → AreHomes (core_of d) (slice_index_or d.firsts r []) → DoesAct p place_of d number false (act.Save r) Nothing
  pub saves_cut : (d : Doing) (number r : ℕ) → AreHomes (core_of d) (slice_index_or d.firsts r []) → CutsAct p place_of d number false (act.Save r) Nothing
  pub locks : (d : Doing) (number r : ℕ) → r ≤ 128 → DoesAct p place_of d number false (act.Lock r) Nothing
  pub locks_cut : (d : Doing) (number r : ℕ) → r ≤ 128 → CutsAct p place_of d number false (act.Lock r) Nothing
  pub plains : (d : Doing) (number level : ℕ) (branched : Bool) (turning : List ℕ) (x : CoreStmt) → IsCoreStmt (scope_of (core_of d) d.setting.task) level branched turning x
      → Covers (pointing d.setting.task) (λ q. addresses q x) → DoesAct p place_of d number false (act.Plain x) (StatementFits d x)
  pub plains_cut : (d : Doing) (number : ℕ) (x : CoreStmt) → CutsAct p place_of d number false (act.Plain x) (StatementFits d x)
  pub tests : (d : Doing) (number : ℕ) (e : CoreExpr) (first second : List Act) → IsOver (scope_of (core_of d) d.setting.task) e → IsShort 0 e → DoesAct p place_of d number false (act.Test e first second) Nothing
  pub tests_cut : (d : Doing) (number : ℕ) (e : CoreExpr) (first second : List Act) → CutsAct p place_of d number false (act.Test e first second) Nothing
  pub commits : (d : Doing) (number task : ℕ) → task < 128 → CommitsEarly p place_of d number false (act.Commit task)
  pub commits_cut : (d : Doing) (number task : ℕ) → task < 128 → task ≤ length (core_of d).tasks → CutsAct p place_of d number false (act.Commit task) MayCommit
  pub relates : (d : Doing) (m : Spot) (s : State) → IsWellFormed (core_of d) → AreRelated p d true m s → Related (layout_of (core_of d) (worked d.scheme s.bank)) (length (core_of d).pointers) m s.store
