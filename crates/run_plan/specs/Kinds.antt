-- That each number of an act, reached or not, is of what the act is for, and that its statements and conditions are well
-- formed (docs/PLAN.md, "What every plan meets").
use Rattle.std.specs.Prelude.{◌≡◌, ℕ, ◌<◌, ◌≤◌, ◌⊎◌, ⊤, Bool, List, [], ◌∷◌, length, Option, Some, None}
use Rattle.std.specs.List.{AllByRecursion}
use Rattle.task_ast.specs.declared.core_form.CoreStmt.{CoreStmt}
use Rattle.task_ast.specs.declared.core_form.CoreTask.{CoreTask}
use Rattle.task_ast.specs.declared.core_form.Core.{Core}
use Rattle.task_ast.specs.declared.core_form.Site.{Site}
use Rattle.task_ast.specs.CoreSites.{Standing, a_call, a_block, a_copy, standing_of, site_numbers}
use Rattle.task_ast.specs.WellFormed.{IsCoreStmt, IsCoreExpr, scope_of}
use Rattle.io_depend.specs.Told.{IsSiteOf}
use Rattle.region_split.specs.Regions.{regions}
use Rattle.task_attempts.specs.Calls.{site_at}
use Rattle.run_plan.specs.declared.act.Act.{Act, Row_of-Act, end_of-Act, more_of-Act}
use Rattle.run_plan.specs.declared.act.Act.TheVariants as act
use Rattle.run_plan.specs.declared.parts.Plan.{Plan}
use Rattle.run_plan.specs.PlanOf.{most_regions}

-- what is said to stand at a site, if it is there
abbrev pub standing_or_none : Option Site → Option Standing
standing_or_none None = None
standing_or_none (Some s) = Some (standing_of s)

abbrev pub stands_at : CoreTask → (site : ℕ) → Option Standing
stands_at t k = standing_or_none (site_at t.sites k)

-- a call, a block or a copy stands there
abbrev pub IsCall : CoreTask → (site : ℕ) → Type 0
IsCall t k = stands_at t k ≡ Some a_call

abbrev pub IsBlock : CoreTask → (site : ℕ) → Type 0
IsBlock t k = stands_at t k ≡ Some a_block

abbrev pub IsCopy : CoreTask → (site : ℕ) → Type 0
IsCopy t k = (n : ℕ) × (stands_at t k ≡ Some (a_copy n))

-- a statement of a task, at some depth, without sites
pub record IsPlain (c : Core) (t : CoreTask) (s : CoreStmt) : Type 0 where
  pub level : ℕ
  pub branched : Bool
  pub formed : IsCoreStmt (scope_of c t) level branched [] s
  pub bare : site_numbers s ≡ []

abbrev mutual
  -- what an act of a task is said of is there
  pub IsOfTask : Core → CoreTask → Act → Type 0
  IsOfTask c t (act.Restore r) = r < regions t
  IsOfTask c t (act.Begin n) = (0 < n) × (n ≤ length c.tasks)
  IsOfTask c t (act.Save r) = r < regions t
  IsOfTask c t (act.Lock r) = r < regions t
  IsOfTask c t (act.Plain s) = IsPlain c t s
  IsOfTask c t (act.Test' e m yes_row n no_row) = IsCoreExpr (scope_of c t) e × AreOfTask c t yes_row × AreOfTask c t no_row
  IsOfTask c t (act.Value k) = IsCall t k ⊎ IsCopy t k
  IsOfTask c t (act.Look k) = IsCall t k ⊎ IsBlock t k
  IsOfTask c t (act.Choose' k m issue_row n keep_row) = (IsCall t k ⊎ IsCopy t k) × AreOfTask c t issue_row × AreOfTask c t keep_row
  IsOfTask c t (act.Drop k) = IsSiteOf t k
  IsOfTask c t (act.Issue k) = IsCall t k
  IsOfTask c t (act.Seal k) = IsSiteOf t k
  IsOfTask c t (act.Take k) = IsCall t k
  IsOfTask c t (act.Write k) = IsCall t k
  IsOfTask c t (act.Enter k) = IsBlock t k
  IsOfTask c t (act.Leave' k m row) = IsBlock t k × AreOfTask c t row
  IsOfTask c t (act.ByClass' k l single_row m private_row n rest_row) = IsCopy t k × AreOfTask c t single_row × AreOfTask c t private_row × AreOfTask c t rest_row
  IsOfTask c t (act.Transfer k leg) = IsCopy t k
  IsOfTask c t (act.KeepWords k) = IsCopy t k
  IsOfTask c t (act.PutWords k) = IsCopy t k
  IsOfTask c t (act.Commit n) = n ≤ length c.tasks

  -- so it is of each act of a row
  pub AreOfTask : Core → CoreTask → {n : _} → Row_of-Act n → Type 0
  AreOfTask c t end_of-Act = ⊤
  AreOfTask c t (more_of-Act a rest) = IsOfTask c t a × AreOfTask c t rest

-- the regions that a boot restores are of some task
abbrev pub IsOfSome : Core → Act → Type 0
IsOfSome c (act.Restore r) = r < most_regions c.tasks
IsOfSome c a = ⊥

-- the acts of each task are of that task
abbrev pub AreOfTasks : Core → List CoreTask → List (List Act) → Type 0
AreOfTasks c [] [] = ⊤
AreOfTasks c [] (acts ∷ lists) = ⊥
AreOfTasks c (t ∷ tasks) [] = ⊥
AreOfTasks c (t ∷ tasks) (acts ∷ lists) = AllByRecursion (IsOfTask c t) acts × AreOfTasks c tasks lists

-- every act of a plan is said of what is there
pub record IsOfProgram (c : Core) (p : Plan) : Type 0 where
  pub boot : AllByRecursion (IsOfSome c) p.boot
  pub tasks : AreOfTasks c c.tasks p.tasks
