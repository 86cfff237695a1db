-- The laws on the code of a copy's acts, as an argument of what goes by them: that it does its act, and that it is cut well.
use Rattle.std.specs.Prelude.{◌≡◌, ◌-◌, ◌≤◌, ℕ, Bool, true, false, List, [], Some, length, slice_get, slice_index_or}
use Rattle.devices.specs.Journal.{Place}
use Rattle.task_ast.specs.WellFormed.{IsOver, IsWellFormed, scope_of}
use Rattle.task_ast.specs.declared.core_form.CoreEnd.{CoreEnd}
use Rattle.task_ast.specs.declared.core_form.CoreExpr.{CoreExpr}
use Rattle.task_ast.specs.declared.core_form.CoreStmt.TheVariants as stmt
use Rattle.task_ast.specs.declared.core_form.Site.TheVariants as site
use Rattle.word_isa.specs.declared.parts.Scheme.TheVariants.{Undo}
use Rattle.word_machine.specs.State.{Program}
use Rattle.word_machine.specs.Straight.{Spot}
use Rattle.line_code.specs.Fitting.{IsShort}
use Rattle.line_laws.specs.Relation.{Related}
use Rattle.run_plan.specs.declared.act.Act.{Act}
use Rattle.run_plan.specs.declared.act.Act.TheVariants as act
use Rattle.run_plan.specs.declared.act.Leg.TheVariants as leg
use Rattle.run_plan.specs.Cells.{State}
use Rattle.run_plan.specs.Finding.{statement_of}
use Rattle.run_plan.specs.Small.{Doing, core_of}
use Rattle.word_code.specs.Finding.{statement_at}
use Rattle.layout_laws.specs.Layouts.{layout_of}
use Rattle.act_laws.specs.Values.{IsOverEnd}
use Rattle.cell_laws.specs.Standing.{IsSite, worked}
use Rattle.act_refines.specs.Between.{AreRelated}
use Rattle.act_refines.specs.Does.{AreHomes, DoesAct, IsAsKept, IsFree, Nothing, frame_of}
use Rattle.act_refines.specs.Moves.{ComesFromKept, GoesAcross, GoesToKept, IsRecorded, IsRoomFor}
use Rattle.code_cuts.specs.Acts.{CutsAct}
use Rattle.code_cuts.specs.Asked.{HasClass, KeepsCopy, MovesCopy, PutsCopy, SealsCopy}

-- a copy stands at a site
abbrev pub IsCopyAt : Doing → (site most : ℕ) → Type 0
IsCopyAt d k most = slice_get d.setting.task.sites (k - 1) ≡ Some (site.Copy most)

-- on regions, values and ways
pub record WayLaws (p : Program) (place_of : ℕ → Place) : Type 0 where
  pub saves : (d : Doing) (number r : ℕ) → r ≤ 128 → d.scheme ≡ Undo → AreHomes (core_of d) (slice_index_or d.firsts r []) → DoesAct p place_of d number false (act.Save r) Nothing
  pub saves_cut : (d : Doing) (number r : ℕ) → AreHomes (core_of d) (slice_index_or d.firsts r []) → CutsAct p place_of d number false (act.Save r) Nothing
  pub locks : (d : Doing) (number r : ℕ) → r ≤ 128 → DoesAct p place_of d number false (act.Lock r) Nothing
  pub locks_cut : (d : Doing) (number r : ℕ) → r ≤ 128 → CutsAct p place_of d number false (act.Lock r) Nothing
  pub values : (d : Doing) (number k : ℕ) (to from : CoreEnd) (words : CoreExpr) → statement_of d k ≡ Some (stmt.Copy k to from words) → statement_at (frame_of d number) k ≡ Some (stmt.Copy k to from words)
      → IsOverEnd (scope_of (core_of d) d.setting.task) to → IsOverEnd (scope_of (core_of d) d.setting.task) from → IsOver (scope_of (core_of d) d.setting.task) words → IsShort 0 words → DoesAct p place_of d number false (act.Value k) Nothing
  pub values_cut : (d : Doing) (number k : ℕ) (to from : CoreEnd) (words : CoreExpr) → statement_of d k ≡ Some (stmt.Copy k to from words) → CutsAct p place_of d number false (act.Value k) Nothing
  pub chooses : (d : Doing) (number k most : ℕ) (issue keep : List Act) → IsSite k → IsCopyAt d k most → DoesAct p place_of d number false (act.Choose k issue keep) Nothing
  pub chooses_cut : (d : Doing) (number k most : ℕ) (issue keep : List Act) → IsSite k → IsCopyAt d k most → CutsAct p place_of d number false (act.Choose k issue keep) Nothing
  pub classes : (d : Doing) (number : ℕ) (keeps : Bool) (k most : ℕ) (single private rest : List Act) → IsSite k → IsCopyAt d k most → DoesAct p place_of d number keeps (act.ByClass k single private rest) (IsAsKept keeps k)
  pub classes_cut : (d : Doing) (number : ℕ) (keeps : Bool) (k : ℕ) (single private rest : List Act) → CutsAct p place_of d number keeps (act.ByClass k single private rest) (HasClass k)

-- on its words and its record
pub record WordLaws (p : Program) (place_of : ℕ → Place) : Type 0 where
  pub across : (d : Doing) (number : ℕ) (keeps : Bool) (k : ℕ) → DoesAct p place_of d number keeps (act.Transfer k leg.Across) (GoesAcross place_of d)
  pub across_cut : (d : Doing) (number : ℕ) (keeps : Bool) (k : ℕ) → CutsAct p place_of d number keeps (act.Transfer k leg.Across) (MovesCopy d)
  pub aside : (d : Doing) (number : ℕ) (keeps : Bool) (k : ℕ) → DoesAct p place_of d number keeps (act.Transfer k leg.ToKept) (GoesToKept place_of d k)
  pub aside_cut : (d : Doing) (number : ℕ) (keeps : Bool) (k : ℕ) → CutsAct p place_of d number keeps (act.Transfer k leg.ToKept) (KeepsCopy d k)
  pub back : (d : Doing) (number : ℕ) (keeps : Bool) (k most : ℕ) → IsSite k → IsCopyAt d k most → DoesAct p place_of d number keeps (act.Transfer k leg.FromKept) (ComesFromKept place_of d k)
  pub back_cut : (d : Doing) (number : ℕ) (keeps : Bool) (k most : ℕ) → IsSite k → IsCopyAt d k most → CutsAct p place_of d number keeps (act.Transfer k leg.FromKept) (PutsCopy d k)
  pub keeps_words : (d : Doing) (number : ℕ) (keeps : Bool) (k : ℕ) → DoesAct p place_of d number keeps (act.KeepWords k) (IsRoomFor d k)
  pub keeps_cut : (d : Doing) (number : ℕ) (keeps : Bool) (k : ℕ) → CutsAct p place_of d number keeps (act.KeepWords k) (KeepsCopy d k)
  pub puts_words : (d : Doing) (number : ℕ) (keeps : Bool) (k most : ℕ) → IsSite k → IsCopyAt d k most → DoesAct p place_of d number keeps (act.PutWords k) (IsRecorded d k)
  pub puts_cut : (d : Doing) (number : ℕ) (keeps : Bool) (k : ℕ) → CutsAct p place_of d number keeps (act.PutWords k) (PutsCopy d k)
  pub seals : (d : Doing) (number : ℕ) (keeps : Bool) (k most : ℕ) → IsSite k → IsCopyAt d k most → DoesAct p place_of d number keeps (act.Seal k) (IsFree k)
  pub seals_cut : (d : Doing) (number : ℕ) (keeps : Bool) (k most : ℕ) → IsSite k → IsCopyAt d k most → CutsAct p place_of d number keeps (act.Seal k) (SealsCopy d k)

pub record CopyLaws (p : Program) (place_of : ℕ → Place) : Type 0 where
  pub way : WayLaws p place_of
  pub word : WordLaws p place_of
  pub relates : (d : Doing) (m : Spot) (s : State) → IsWellFormed (core_of d) → AreRelated p d true m s → Related (layout_of (core_of d) (worked d.scheme s.bank)) (length (core_of d).pointers) m s.store
