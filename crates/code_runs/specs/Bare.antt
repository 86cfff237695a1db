-- Programs without sites.
use Rattle.std.specs.Prelude.{◌≡◌, []}
use Rattle.std.specs.List.{AllByRecursion}
use Rattle.devices.specs.declared.world.World.{World}
use Rattle.task_ast.specs.declared.core_form.Core.{Core}
use Rattle.task_attempts.specs.Boots.{rules_of}
use Rattle.word_isa.specs.declared.parts.Scheme.{Scheme}
use Rattle.run_plan.specs.PlanOf.{plan_of}
use Rattle.run_plan.specs.Runs.{Planned}

-- the run of a program's plan in a world
abbrev pub planned : Core → World → Scheme → Planned
planned c world scheme = record { rules = rules_of c world; plan = plan_of c scheme }

-- no task of a program has sites
abbrev pub IsBare : Core → Type 0
IsBare c = AllByRecursion (λ t. t.sites ≡ []) c.tasks
