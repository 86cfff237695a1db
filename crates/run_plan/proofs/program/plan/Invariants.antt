-- What is done with the tasks that are left gives the whole.
use Rattle.std.proofs.Common.{◌≡◌, ◌+◌, ◌++◌, max, map, drop}
use Rattle.region_split.specs.Owners.{all_first}
use Rattle.run_plan.specs.PlanOf.{tasks_acts, most_regions}
use Rattle.run_plan.proofs.program.plan.Given as goal

abbrev pub invariant-tasks : goal.invariant-tasks
invariant-tasks l = record {
  tasks : l.tasks ++ tasks_acts l.scheme (l.index + 1) (drop l.index l.c.tasks) ≡ tasks_acts l.scheme 1 l.c.tasks;
  firsts : l.firsts ++ map (all_first l.c) (drop l.index l.c.tasks) ≡ map (all_first l.c) l.c.tasks;
  most : max l.most (most_regions (drop l.index l.c.tasks)) ≡ most_regions l.c.tasks;
}
