-- The plan of a program under either scheme (docs/PLAN.md, "The plan").
use Rattle.std.specs.Prelude.{ℕ, ◌+◌, max, List, [], ◌∷◌, ◌++◌, map}
use Rattle.std.specs.List.{range_with_len}
use Rattle.task_ast.specs.declared.core_form.CoreStmt.{CoreStmt, Row_of-CoreStmt, end_of-CoreStmt, more_of-CoreStmt}
use Rattle.task_ast.specs.declared.core_form.CoreStmt.TheVariants as stmt
use Rattle.task_ast.specs.declared.core_form.CoreExit.{CoreExit, end_of-CoreExit, more_of-CoreExit}
use Rattle.task_ast.specs.declared.core_form.CoreExit.TheVariants as exit
use Rattle.task_ast.specs.declared.core_form.CoreTask.{CoreTask}
use Rattle.task_ast.specs.declared.core_form.Core.{Core}
use Rattle.task_ast.specs.CoreSites.{row_numbers}
use Rattle.io_depend.specs.Depend.{dependents}
use Rattle.region_split.specs.Regions.{region_of, regions}
use Rattle.region_split.specs.Owners.{all_first}
use Rattle.word_isa.specs.declared.parts.Scheme.{Scheme}
use Rattle.word_isa.specs.declared.parts.Scheme.TheVariants.{Undo, Bank}
use Rattle.run_plan.specs.declared.act.Leg.TheVariants.{Across, ToKept, FromKept}
use Rattle.run_plan.specs.declared.act.Act.{Act}
use Rattle.run_plan.specs.declared.act.Act.TheVariants as act
use Rattle.run_plan.specs.declared.parts.Plan.{Plan}

-- what a task's acts go by: the scheme, the sites that depend on each site, and the region that each copy begins
pub record Around : Type 0 where
  pub scheme : Scheme
  pub dependents : ℕ → List ℕ
  pub region : ℕ → ℕ

-- what a region may write first is saved, and then the region locked; under `bank` nothing is
abbrev pub save_acts : Scheme → (region : ℕ) → List Act
save_acts Undo r = act.Save r ∷ act.Lock r ∷ []
save_acts Bank r = []

-- a call: its own record is dropped, then those of the sites that depend on it, and only then it is issued
abbrev pub issue_acts : Around → (site : ℕ) → List Act
issue_acts a k = act.Drop k ∷ map act.Drop (a.dependents k) ++ act.Issue k ∷ act.Seal k ∷ []

abbrev pub call_acts : Around → (site : ℕ) → List Act
call_acts a k = act.Value k ∷ act.Look k ∷ act.Choose k (issue_acts a k) (act.Take k ∷ []) ∷ act.Write k ∷ []

-- the end of a block that didn't keep
abbrev pub block_end_acts : (site : ℕ) → List Act
block_end_acts k = act.Drop k ∷ act.Seal k ∷ []

-- a block around acts
abbrev pub block_acts : (site : ℕ) → (body : List Act) → List Act
block_acts k body = act.Look k ∷ act.Enter k ∷ body ++ act.Leave k (block_end_acts k) ∷ []

-- a copy without a record, by its class: it goes across and the words are kept; it goes by the kept words; or it goes across
abbrev pub anew_acts : (site : ℕ) → List Act
anew_acts k = act.ByClass k
    (act.Transfer k Across ∷ act.KeepWords k ∷ act.Seal k ∷ [])
    (act.Transfer k ToKept ∷ act.Seal k ∷ act.Transfer k FromKept ∷ [])
    (act.Transfer k Across ∷ []) ∷ []

-- a copy with a record, by the record's class
abbrev pub again_acts : (site : ℕ) → List Act
again_acts k = act.ByClass k (act.PutWords k ∷ []) (act.Transfer k FromKept ∷ []) [] ∷ []

-- a copy saves the region that it begins once it is valued
abbrev pub copy_acts : Around → (site : ℕ) → List Act
copy_acts a k = act.Value k ∷ save_acts a.scheme (a.region k) ++ act.Choose k (anew_acts k) (again_acts k) ∷ []

-- without sites a statement is one act, else an `if` is a test
abbrev pub unless_plain : (sites : List ℕ) → CoreStmt → Act → Act
unless_plain [] s test = act.Plain s
unless_plain (k ∷ ks) s test = test

abbrev mutual
  -- the acts of a statement
  pub statement_acts : Around → CoreStmt → List Act
  statement_acts a (stmt.Assign x e) = act.Plain (stmt.Assign x e) ∷ []
  statement_acts a (stmt.Point p array i) = act.Plain (stmt.Point p array i) ∷ []
  statement_acts a (stmt.If' c m yes_row n no_row) =
      unless_plain (row_numbers yes_row ++ row_numbers no_row) (stmt.If' c m yes_row n no_row) (act.Test c (row_acts a yes_row) (row_acts a no_row)) ∷ []
  statement_acts a (stmt.Loop' i turns m row) = act.Plain (stmt.Loop' i turns m row) ∷ []
  statement_acts a (stmt.Io k x p args) = call_acts a k
  statement_acts a (stmt.Block' k m row) = block_acts k (row_acts a row)
  statement_acts a (stmt.Copy k to from n) = copy_acts a k

  -- those of a row's statements
  pub row_acts : Around → {n : _} → Row_of-CoreStmt n → List Act
  row_acts a end_of-CoreStmt = []
  row_acts a (more_of-CoreStmt s rest) = statement_acts a s ++ row_acts a rest

-- those of statements, one after another
abbrev pub body_acts : Around → List CoreStmt → List Act
body_acts a [] = []
body_acts a (s ∷ rest) = statement_acts a s ++ body_acts a rest

-- the act of an exit
abbrev pub exit_act : CoreExit → Act
exit_act (exit.Next t) = act.Commit t
exit_act exit.Stop = act.Commit 0
exit_act (exit.Choose' c u (more_of-CoreExit a end_of-CoreExit) v (more_of-CoreExit b end_of-CoreExit)) = act.Test c (exit_act a ∷ []) (exit_act b ∷ [])

-- what the acts of a task go by
abbrev pub around : Scheme → CoreTask → Around
around scheme t = record { scheme = scheme; dependents = dependents t; region = region_of t }

-- the acts of the task of a number
abbrev pub task_acts : Scheme → (number : ℕ) → CoreTask → List Act
task_acts scheme number t = act.Begin number ∷ save_acts scheme 0 ++ body_acts (around scheme t) t.body ++ exit_act t.exit ∷ []

-- those of tasks, numbered from a number on
abbrev pub tasks_acts : Scheme → (number : ℕ) → List CoreTask → List (List Act)
tasks_acts scheme number [] = []
tasks_acts scheme number (t ∷ rest) = task_acts scheme number t ∷ tasks_acts scheme (number + 1) rest

-- the regions of the task that has the most
abbrev pub most_regions : List CoreTask → ℕ
most_regions [] = 0
most_regions (t ∷ rest) = max (regions t) (most_regions rest)

-- what a boot restores: under `undo` so many regions, in order
abbrev pub restore_acts : Scheme → (count : ℕ) → List Act
restore_acts Undo count = map act.Restore (range_with_len 0 count)
restore_acts Bank count = []

-- the plan of a program
abbrev pub plan_of : Core → Scheme → Plan
plan_of c scheme = record {
  scheme = scheme;
  boot = restore_acts scheme (most_regions c.tasks);
  tasks = tasks_acts scheme 1 c.tasks;
  firsts = map (all_first c) c.tasks;
}
