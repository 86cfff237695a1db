-- That the acts of a plan need no more than the formulas of its program say (docs/PLAN.md, "Sizes").
use Rattle.std.specs.Prelude.{◌+◌, ◌≤◌, length}
use Rattle.std.specs.List.{AllByRecursion}
use Rattle.task_ast.specs.declared.core_form.CoreTask.{CoreTask}
use Rattle.task_ast.specs.declared.core_form.Core.{Core}
use Rattle.run_plan.specs.declared.parts.Plan.{Plan}
use Rattle.run_plan.specs.PlanOf.{most_regions}
use Rattle.run_plan.specs.Sizes.{code_words, code_marks}
use Rattle.word_code.specs.ActMarks.{jobs_marks}
use Rattle.word_code.specs.Beginnings.{home_count}
use Rattle.word_code.specs.CodeOf.{first_at, jobs_of, jobs_size, constants_of, most_kept}

-- Each area of FRAM has room for what acts name there (docs/CODE.md, "Memory"): homes, constants, a lock for each region, a
-- record for each site, and the kept words, which lie last.
pub record HasPlaces (c : Core) : Type 0 where
  pub homes : home_count c.arrays ≤ 2048
  pub constants : length (constants_of c.arrays) ≤ 2048
  pub locks : most_regions c.tasks ≤ 129
  pub records : AllByRecursion (λ (t : CoreTask). length t.sites ≤ 128) c.tasks
  pub kept : 7042 + most_kept c.tasks ≤ 65536

-- the lines of all acts behind the head and the stubs, the marks of all acts, and the places of all
pub record IsWithin (p : Plan) (c : Core) : Type 0 where
  pub code : first_at c + jobs_size p (jobs_of p c) ≤ code_words p.scheme c
  pub marks : jobs_marks p (jobs_of p c) ≤ code_marks c
  pub fram : HasPlaces c
