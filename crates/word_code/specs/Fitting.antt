-- Acts whose numbers fit the operands and marks of their code.
use Rattle.std.specs.Prelude.{◌≡◌, ℕ, ◌<◌, ◌≤◌, List, [], ◌∷◌, Option, Some, length, sum_by}
use Rattle.std.specs.List.{AllByRecursion}
use Rattle.std.specs.Option.{ForSome}
use Rattle.task_ast.specs.declared.core_form.CoreEnd.{CoreEnd}
use Rattle.task_ast.specs.declared.core_form.CoreEnd.TheVariants as end
use Rattle.task_ast.specs.declared.core_form.CoreStmt.{CoreStmt}
use Rattle.task_ast.specs.declared.core_form.CoreStmt.TheVariants as stmt
use Rattle.task_ast.specs.WellFormed.{site_words}
use Rattle.line_code.specs.Areas.{areas_from, free_at_first, total}
use Rattle.line_code.specs.Fitting.{IsShort, IsShortTarget, IsShortStmt}
use Rattle.run_plan.specs.declared.act.Act.{Act, Row_of-Act, end_of-Act, more_of-Act}
use Rattle.run_plan.specs.declared.act.Act.TheVariants as act
use Rattle.word_code.specs.Beginnings.{AreLow}
use Rattle.word_code.specs.Finding.{statement_at}
use Rattle.word_code.specs.Frames.{Frame}

-- a frame within the limits of a program
pub record IsFrame (f : Frame) : Type 0 where
  pub kept : sum_by site_words f.task.sites ≤ 16384
  pub words : total f.core.arrays ≤ 4096
  pub pointers : length f.core.pointers ≤ 256
  pub tasks : length f.core.tasks ≤ 64
  pub number : f.number ≤ 64
  pub areas : f.areas ≡ areas_from free_at_first f.core.arrays
  pub low : AreLow f.areas

-- the number of a site
pub record IsSiteNumber (k : ℕ) : Type 0 where
  pub some : 0 < k
  pub few : k ≤ 128

-- an end of a copy
abbrev pub IsShortEnd : CoreEnd → Type 0
IsShortEnd (end.Cell array i) = IsShort 0 i
IsShortEnd (end.Pointer p) = p < 256

-- a call or a copy, if there is one
abbrev pub IsShortSite : Option CoreStmt → Type 0
IsShortSite (Some (stmt.Io k x p args)) = ForSome x IsShortTarget × (length args ≤ 4) × AllByRecursion (IsShort 0) args
IsShortSite (Some (stmt.Copy k to from n)) = IsShortEnd to × IsShortEnd from × IsShort 0 n
IsShortSite _ = Unit {0}

abbrev mutual
  -- an act: a region and a task are few, it begins its own task, a site has a number, and what is valued is short
  pub IsFit : Frame → Act → Type 0
  IsFit f (act.Restore r) = r ≤ 128
  IsFit f (act.Begin t) = (t ≤ 64) × (t ≡ f.number)
  IsFit f (act.Save r) = r ≤ 128
  IsFit f (act.Lock r) = r ≤ 128
  IsFit f (act.Plain s) = IsShortStmt s
  IsFit f (act.Test' c m yes_row n no_row) = IsShort 0 c × AreFitRow f yes_row × AreFitRow f no_row
  IsFit f (act.Value k) = IsSiteNumber k × IsShortSite (statement_at f k)
  IsFit f (act.Look k) = IsSiteNumber k
  IsFit f (act.Choose' k m issue_row n keep_row) = IsSiteNumber k × AreFitRow f issue_row × AreFitRow f keep_row
  IsFit f (act.Drop k) = IsSiteNumber k
  IsFit f (act.Issue k) = IsSiteNumber k × IsShortSite (statement_at f k)
  IsFit f (act.Seal k) = IsSiteNumber k
  IsFit f (act.Take k) = IsSiteNumber k
  IsFit f (act.Write k) = IsSiteNumber k × IsShortSite (statement_at f k)
  IsFit f (act.Enter k) = IsSiteNumber k
  IsFit f (act.Leave' k m row) = IsSiteNumber k × AreFitRow f row
  IsFit f (act.ByClass' k l single_row m private_row n rest_row) = IsSiteNumber k × AreFitRow f single_row × AreFitRow f private_row × AreFitRow f rest_row
  IsFit f (act.Transfer k leg) = IsSiteNumber k
  IsFit f (act.KeepWords k) = IsSiteNumber k
  IsFit f (act.PutWords k) = IsSiteNumber k
  IsFit f (act.Commit t) = t ≤ 64

  -- a row's acts
  pub AreFitRow : Frame → {n : _} → Row_of-Act n → Type 0
  AreFitRow f end_of-Act = Unit {0}
  AreFitRow f (more_of-Act a rest) = IsFit f a × AreFitRow f rest

-- acts, one after another
abbrev pub AreFit : Frame → List Act → Type 0
AreFit f [] = Unit {0}
AreFit f (a ∷ rest) = IsFit f a × AreFit f rest
