-- Plans whose numbers fit the operands and marks of their code.
use Rattle.std.specs.Prelude.{◌≡◌, ◌≤◌, length, sum_by, List}
use Rattle.std.specs.List.{AllByRecursion}
use Rattle.task_ast.specs.declared.core_form.CoreTask.{CoreTask}
use Rattle.task_ast.specs.declared.core_form.Core.{Core}
use Rattle.task_ast.specs.WellFormed.{site_words}
use Rattle.line_code.specs.declared.areas.Placed.{Placed}
use Rattle.line_code.specs.Areas.{areas_from, free_at_first, total}
use Rattle.run_plan.specs.declared.parts.Plan.{Plan}
use Rattle.word_code.specs.CodeOf.{Job, jobs_of}
use Rattle.word_code.specs.Fitting.{AreFit}

-- a plan and its program
pub record Built : Type 0 where
  pub plan : Plan
  pub core : Core

-- what a boot restores for a task, and the task's acts, fit
abbrev pub IsFitJob : Plan → Job → Type 0
IsFitJob p j = AreFit j.frame p.boot × AreFit j.frame j.acts

-- a task keeps few words
abbrev pub KeepsFew : CoreTask → Type 0
KeepsFew t = sum_by site_words t.sites ≤ 16384

-- the plan of a program within its limits
pub record IsFitPlan (p : Plan) (c : Core) : Type 0 where
  pub words : total c.arrays ≤ 4096
  pub arrays : length c.arrays ≤ 256
  pub pointers : length c.pointers ≤ 256
  pub tasks : length c.tasks ≤ 64
  pub kept : AllByRecursion KeepsFew c.tasks
  pub jobs : AllByRecursion (IsFitJob p) (jobs_of p c)

-- the same with where the arrays lie
pub record IsBuilt (p : Plan) (c : Core) (areas : List Placed) : Type 0 where
  pub fit : IsFitPlan p c
  pub placed : areas ≡ areas_from free_at_first c.arrays
