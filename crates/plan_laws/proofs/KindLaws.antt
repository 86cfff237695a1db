-- Each act of a plan is of its task.
use Rattle.std.proofs.Common.{◌≡◌, inl, inr, ℕ, ◌+◌, Bool, ◌<◌, ◌≤◌, List, [], ◌∷◌, ◌++◌, length, map, refl, sym, subst, arith}
use Rattle.std.specs.List.{AllByRecursion, range_with_len}
use Rattle.task_ast.specs.declared.core_form.CoreExpr.{CoreExpr}
use Rattle.task_ast.specs.declared.core_form.CoreStmt.{CoreStmt, Row_of-CoreStmt, end_of-CoreStmt, more_of-CoreStmt}
use Rattle.task_ast.specs.declared.core_form.CoreStmt.TheVariants as stmt
use Rattle.task_ast.specs.declared.core_form.CoreExit.{CoreExit, end_of-CoreExit, more_of-CoreExit}
use Rattle.task_ast.specs.declared.core_form.CoreExit.TheVariants as exit
use Rattle.task_ast.specs.declared.core_form.CoreTask.{CoreTask}
use Rattle.task_ast.specs.declared.core_form.Core.{Core}
use Rattle.task_ast.specs.CoreSites.{site_numbers, row_numbers, all_numbers, standings, row_standings, all_standings}
use Rattle.task_ast.specs.Pointing.{pointing}
use Rattle.task_ast.specs.WellFormed.{IsCoreStmt, AreCoreStmts, IsCoreExit, IsCoreExpr, IsCoreTask, IsWellFormed, scope_of}
use Rattle.io_depend.specs.Told.{IsSiteOf}
use Rattle.region_split.specs.Regions.{regions}
use Rattle.word_isa.specs.declared.parts.Scheme.{Scheme}
use Rattle.word_isa.specs.declared.parts.Scheme.TheVariants.{Undo, Bank}
use Rattle.run_plan.specs.declared.act.Leg.TheVariants.{Across, ToKept, FromKept}
use Rattle.run_plan.specs.declared.act.Act.{Act}
use Rattle.run_plan.specs.declared.act.Act.TheVariants as act
use Rattle.run_plan.specs.PlanOf.{Around, save_acts, issue_acts, call_acts, block_end_acts, anew_acts, again_acts, unless_plain, statement_acts, row_acts, body_acts, exit_act, around, task_acts, tasks_acts, most_regions, restore_acts, plan_of}
use Rattle.run_plan.specs.Kinds.{IsCall, IsBlock, IsCopy, IsOfTask, IsOfSome, AreOfTasks, IsOfProgram}
use Rattle.run_plan.specs.ActRows.{test_of_task, choose_of_task, leave_of_task, by_class_of_task}
use Rattle.plan_laws.proofs.Lists.{all_joined, all_mapped, all_in_range}
use Rattle.plan_laws.specs.PlacedSites.{Placed, placed_parts, same_long, row_long, task_placed, region_there}
use Rattle.plan_laws.proofs.Dependents.{dependents_placed}

-- a claim that is told by its parts
told : {P Q : Type 0} → P ≡ Q → Q → P
told same q = subst (λ (T : Type 0). T) (sym same) q

module _ (c : Core) (t : CoreTask) (scheme : Scheme) where
  abbrev Of : Act → Type 0
  Of = IsOfTask c t

  abbrev by_task : Around
  by_task = around scheme t

  saved : (s : Scheme) (r : ℕ) → r < regions t → AllByRecursion Of (save_acts s r)
  saved Undo r there = (there, (there, tt))
  saved Bank r there = tt

  called : (k : ℕ) → IsSiteOf t k → IsCall t k → AllByRecursion Of (call_acts by_task k)
  called k there call =
      let drops = all_mapped (IsSiteOf t) Of act.Drop (by_task.dependents k) (λ j site. site) (dependents_placed t k) in
      let issue = all_joined Of (act.Drop k ∷ map act.Drop (by_task.dependents k)) (act.Issue k ∷ act.Seal k ∷ []) (there, drops) (call, (there, tt)) in
      (inl call, (inl call, (told (choose_of_task c t k (issue_acts by_task k) (act.Take k ∷ [])) (inl call, issue, (call, tt)), (call, tt))))

  blocked : (k : ℕ) → IsSiteOf t k → IsBlock t k → (body : List Act) → AllByRecursion Of body → AllByRecursion Of (act.Look k ∷ act.Enter k ∷ body ++ act.Leave k (block_end_acts k) ∷ [])
  blocked k there block body all =
      all_joined Of (act.Look k ∷ act.Enter k ∷ body) (act.Leave k (block_end_acts k) ∷ []) (inr block, (block, all)) (told (leave_of_task c t k (block_end_acts k)) (block, (there, (there, tt))), tt)

  copied : (k : ℕ) → IsSiteOf t k → IsCopy t k → AllByRecursion Of (act.Value k ∷ save_acts scheme (by_task.region k) ++ act.Choose k (anew_acts k) (again_acts k) ∷ [])
  copied k there copy =
      let anew = told (by_class_of_task c t k (act.Transfer k Across ∷ act.KeepWords k ∷ act.Seal k ∷ []) (act.Transfer k ToKept ∷ act.Seal k ∷ act.Transfer k FromKept ∷ []) (act.Transfer k Across ∷ []))
      (copy, (copy, (copy, (there, tt))), (copy, (there, (copy, tt))), (copy, tt)) in
      let again = told (by_class_of_task c t k (act.PutWords k ∷ []) (act.Transfer k FromKept ∷ []) []) (copy, (copy, tt), (copy, tt), tt) in
      all_joined Of (act.Value k ∷ save_acts scheme (by_task.region k)) (act.Choose k (anew_acts k) (again_acts k) ∷ [])
      (inr copy, saved scheme (by_task.region k) (region_there t k)) (told (choose_of_task c t k (anew_acts k) (again_acts k)) (inr copy, (anew, tt), (again, tt)), tt)

  by_sites : (s : CoreStmt) (level : ℕ) (branched : Bool) (e : CoreExpr) (ys ns : List Act) → IsCoreStmt (scope_of c t) level branched [] s → (ks : List ℕ) → ks ≡ site_numbers s
      → IsCoreExpr (scope_of c t) e × AllByRecursion Of ys × AllByRecursion Of ns → Of (unless_plain ks s (act.Test e ys ns))
  by_sites s level branched e ys ns w [] is parts = record { level = level; branched = branched; formed = w; bare = sym is }
  by_sites s level branched e ys ns w (k ∷ ks) is parts = told (test_of_task c t e ys ns) parts

  mutual
    stmt_of : (s : CoreStmt) (level : ℕ) (branched : Bool) → IsCoreStmt (scope_of c t) level branched [] s → Placed t (site_numbers s) (standings c.arrays (pointing t) s) → AllByRecursion Of (statement_acts by_task s)
    stmt_of (stmt.Assign x e) level branched w there = (record { level = level; branched = branched; formed = w; bare = refl }, tt)
    stmt_of (stmt.Point p array i) level branched w there = (record { level = level; branched = branched; formed = w; bare = refl }, tt)
    stmt_of (stmt.If' e m yes_row n no_row) level branched w there =
        let parts = placed_parts t (row_numbers yes_row) (row_numbers no_row) (row_standings c.arrays (pointing t) yes_row) (row_standings c.arrays (pointing t) no_row) (row_long c.arrays (pointing t) yes_row) there in (
          by_sites (stmt.If' e m yes_row n no_row) level branched e (row_acts by_task yes_row) (row_acts by_task no_row) w (row_numbers yes_row ++ row_numbers no_row) refl
              (w.1, row_of yes_row _ _ w.2 parts.0, row_of no_row _ _ w.3 parts.1),
          tt,
        )
    stmt_of (stmt.Loop' i turns m row) level branched w there = (record { level = level; branched = branched; formed = w; bare = w.4 }, tt)
    stmt_of (stmt.Io k x p args) level branched w there = called k there.0.0 there.0.1
    stmt_of (stmt.Block' k m row) level branched w there = blocked k there.0.0 there.0.1 (row_acts by_task row) (row_of row _ _ w.1 there.1)
    stmt_of (stmt.Copy k to from n) level branched w there = copied k there.0.0 (_, there.0.1)

    row_of : {n : _} (row : Row_of-CoreStmt n) (level : ℕ) (branched : Bool) → AreCoreStmts (scope_of c t) level branched [] row → Placed t (row_numbers row) (row_standings c.arrays (pointing t) row) → AllByRecursion Of (row_acts by_task row)
    row_of end_of-CoreStmt level branched w there = tt
    row_of (more_of-CoreStmt s rest) level branched w there =
        let parts = placed_parts t (site_numbers s) (row_numbers rest) (standings c.arrays (pointing t) s) (row_standings c.arrays (pointing t) rest) (same_long c.arrays (pointing t) s) there in
        all_joined Of (statement_acts by_task s) (row_acts by_task rest) (stmt_of s level branched w.0 parts.0) (row_of rest level branched w.1 parts.1)

  body_of : (body : List CoreStmt) (level : ℕ) (branched : Bool) → AllByRecursion (IsCoreStmt (scope_of c t) level branched []) body → Placed t (all_numbers body) (all_standings c.arrays (pointing t) body) → AllByRecursion Of (body_acts by_task body)
  body_of [] level branched w there = tt
  body_of (s ∷ rest) level branched w there =
      let parts = placed_parts t (site_numbers s) (all_numbers rest) (standings c.arrays (pointing t) s) (all_standings c.arrays (pointing t) rest) (same_long c.arrays (pointing t) s) there in
      all_joined Of (statement_acts by_task s) (body_acts by_task rest) (stmt_of s level branched w.0 parts.0) (body_of rest level branched w.1 parts.1)

  exit_of : (e : CoreExit) (level : ℕ) → IsCoreExit (scope_of c t) (length c.tasks) level e → Of (exit_act e)
  exit_of (exit.Next n) level w = w.1
  exit_of exit.Stop level w = omega arith
  exit_of (exit.Choose' e u (more_of-CoreExit a end_of-CoreExit) v (more_of-CoreExit b end_of-CoreExit)) level w =
      told (test_of_task c t e (exit_act a ∷ []) (exit_act b ∷ [])) (w.1, (exit_of a _ w.2, tt), (exit_of b _ w.3, tt))

  task_of : (number : ℕ) → 0 < number → number ≤ length c.tasks → IsCoreTask c t → AllByRecursion Of (task_acts scheme number t)
  task_of number low high w =
      all_joined Of (act.Begin number ∷ save_acts scheme 0 ++ body_acts by_task t.body) (exit_act t.exit ∷ [])
      (all_joined Of (act.Begin number ∷ save_acts scheme 0) (body_acts by_task t.body) ((low, high), saved scheme 0 (omega arith)) (body_of t.body 1 _ w.body (task_placed c.arrays t w.sites)))
      (exit_of t.exit 1 w.exit, tt)

-- tasks, numbered from a number on
tasks_of : (c : Core) (scheme : Scheme) (number : ℕ) (ts : List CoreTask) → 0 < number → number + length ts ≤ length c.tasks + 1 → AllByRecursion (IsCoreTask c) ts → AreOfTasks c ts (tasks_acts scheme number ts)
tasks_of c scheme number [] low high w = tt
tasks_of c scheme number (t ∷ ts) low high w = (task_of c t scheme number low (omega (arith, high)) w.0, tasks_of c scheme (number + 1) ts (omega arith) (omega (arith, high)) w.1)

restores_of : (c : Core) (scheme : Scheme) → AllByRecursion (IsOfSome c) (restore_acts scheme (most_regions c.tasks))
restores_of c Undo = all_mapped (λ r. r < most_regions c.tasks) (IsOfSome c) act.Restore (range_with_len 0 (most_regions c.tasks)) (λ r there. there) (all_in_range (λ r. r < most_regions c.tasks) 0 (most_regions c.tasks) (λ r low high. omega (arith, high)))
restores_of c Bank = tt

-- the whole plan
pub plan_kinds : (c : Core) (scheme : Scheme) → IsWellFormed c → IsOfProgram c (plan_of c scheme)
plan_kinds c scheme w = record { boot = restores_of c scheme; tasks = tasks_of c scheme 1 c.tasks (omega arith) (omega arith) w.tasks }
