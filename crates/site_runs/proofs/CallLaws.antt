-- The laws on the code of a call's acts, as an argument of what goes by them: that it does its act, and that it is cut well.
use Rattle.std.specs.Prelude.{◌≡◌, ◌-◌, ◌^◌, ◌<◌, ◌≤◌, ℕ, List, None, Option, Some, length, slice_get, true, false}
use Rattle.devices.specs.Journal.{Place}
use Rattle.devices.specs.Reading.{reading_in}
use Rattle.task_ast.specs.WellFormed.{IsWellFormed, scope_of}
use Rattle.task_ast.specs.declared.core_form.CoreExpr.{CoreExpr}
use Rattle.task_ast.specs.declared.core_form.CoreStmt.TheVariants as stmt
use Rattle.task_ast.specs.declared.core_form.CoreTarget.{CoreTarget}
use Rattle.task_ast.specs.declared.core_form.Site.TheVariants as site
use Rattle.task_ast.specs.declared.tree.Ann.{Ann}
use Rattle.task_attempts.specs.Calls.{number_of}
use Rattle.word_machine.specs.State.{Program}
use Rattle.word_machine.specs.Straight.{Spot}
use Rattle.line_laws.specs.Relation.{Related}
use Rattle.line_laws.specs.Suits.{IsOverTarget}
use Rattle.run_plan.specs.declared.act.Act.{Act}
use Rattle.run_plan.specs.declared.act.Act.TheVariants as act
use Rattle.run_plan.specs.Cells.{State}
use Rattle.run_plan.specs.Finding.{statement_of}
use Rattle.run_plan.specs.Small.{Doing, core_of}
use Rattle.word_code.specs.Finding.{statement_at}
use Rattle.layout_laws.specs.Layouts.{layout_of}
use Rattle.act_laws.specs.Values.{AreArguments}
use Rattle.act_laws.specs.Words.{FitsLimit}
use Rattle.cell_laws.specs.Standing.{IsSite, worked}
use Rattle.act_refines.specs.Between.{AreRelated}
use Rattle.act_refines.specs.Does.{AimsWell, DoesAct, HasAim, Holds, IsCalledWith, IsEarlier, IsFree, Nothing, frame_of}
use Rattle.code_cuts.specs.Acts.{CutsAct}
use Rattle.code_cuts.specs.Asked.{HasAimed, HasArguments, IsTimed, SealsCall}
use Rattle.site_runs.proofs.Looking.{LookLaws}

-- the laws on each act's code in a program
pub record CallLaws (p : Program) (place_of : ℕ → Place) : Type 0 where
  pub look : LookLaws p place_of
  pub values : (d : Doing) (number k q : ℕ) (es : List CoreExpr) → statement_of d k ≡ Some (stmt.Io k None q es) → statement_at (frame_of d number) k ≡ Some (stmt.Io k None q es) → AreArguments (scope_of (core_of d) d.setting.task) es → length es ≤ 4
      → DoesAct p place_of d number false (act.Value k) Nothing
  pub values_aimed : (d : Doing) (number k q : ℕ) (target : CoreTarget) (es : List CoreExpr) → statement_of d k ≡ Some (stmt.Io k (Some target) q es) → statement_at (frame_of d number) k ≡ Some (stmt.Io k (Some target) q es)
      → IsOverTarget (scope_of (core_of d) d.setting.task) target → AreArguments (scope_of (core_of d) d.setting.task) es → length es ≤ 4 → DoesAct p place_of d number false (act.Value k) (AimsWell (core_of d) target)
  pub values_cut : (d : Doing) (number k q : ℕ) (target : Option CoreTarget) (es : List CoreExpr) → statement_of d k ≡ Some (stmt.Io k target q es) → CutsAct p place_of d number false (act.Value k) Nothing
  pub chooses : (d : Doing) (number k : ℕ) (ann : Ann) (issue keep : List Act) → IsSite k → slice_get d.setting.task.sites (k - 1) ≡ Some (site.Io ann) → FitsLimit ann → DoesAct p place_of d number false (act.Choose k issue keep) (IsEarlier k)
  pub chooses_cut : (d : Doing) (number k : ℕ) (ann : Ann) (issue keep : List Act) → IsSite k → slice_get d.setting.task.sites (k - 1) ≡ Some (site.Io ann) → CutsAct p place_of d number false (act.Choose k issue keep) IsTimed
  pub drops : (d : Doing) (number k : ℕ) → IsSite k → DoesAct p place_of d number false (act.Drop k) Nothing
  pub drops_cut : (d : Doing) (number k : ℕ) → IsSite k → CutsAct p place_of d number false (act.Drop k) Nothing
  pub issues : (d : Doing) (number k q : ℕ) (target : Option CoreTarget) (es : List CoreExpr) → statement_of d k ≡ Some (stmt.Io k target q es) → statement_at (frame_of d number) k ≡ Some (stmt.Io k target q es) → length es ≤ 4 → number_of d.setting q < 256
      → ((r n : ℕ) → reading_in d.setting.rules.world.feeds r n < 2 ^ 32) → DoesAct p place_of d number false (act.Issue k) (IsCalledWith (length es))
  pub issues_cut : (d : Doing) (number k q : ℕ) (target : Option CoreTarget) (es : List CoreExpr) → statement_of d k ≡ Some (stmt.Io k target q es) → CutsAct p place_of d number false (act.Issue k) HasArguments
  pub seals : (d : Doing) (number k : ℕ) (ann : Ann) → IsSite k → slice_get d.setting.task.sites (k - 1) ≡ Some (site.Io ann) → DoesAct p place_of d number false (act.Seal k) (IsFree k)
  pub seals_cut : (d : Doing) (number k : ℕ) (ann : Ann) → IsSite k → slice_get d.setting.task.sites (k - 1) ≡ Some (site.Io ann) → CutsAct p place_of d number false (act.Seal k) (SealsCall k)
  pub takes : (d : Doing) (number k : ℕ) (ann : Ann) → IsSite k → slice_get d.setting.task.sites (k - 1) ≡ Some (site.Io ann) → DoesAct p place_of d number true (act.Take k) (Holds k)
  pub takes_cut : (d : Doing) (number k : ℕ) → CutsAct p place_of d number true (act.Take k) Nothing
  pub writes : (d : Doing) (number k q : ℕ) (target : CoreTarget) (es : List CoreExpr) → statement_at (frame_of d number) k ≡ Some (stmt.Io k (Some target) q es) → DoesAct p place_of d number false (act.Write k) (HasAim true)
  pub writes_nothing : (d : Doing) (number k q : ℕ) (es : List CoreExpr) → statement_at (frame_of d number) k ≡ Some (stmt.Io k None q es) → DoesAct p place_of d number false (act.Write k) (HasAim false)
  pub writes_cut : (d : Doing) (number k : ℕ) → CutsAct p place_of d number false (act.Write k) HasAimed
  pub relates : (d : Doing) (m : Spot) (s : State) → IsWellFormed (core_of d) → AreRelated p d true m s → Related (layout_of (core_of d) (worked d.scheme s.bank)) (length (core_of d).pointers) m s.store
