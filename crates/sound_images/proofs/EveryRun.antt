-- Every run of every program's plan is sound in every world: the laws on one world that is given, for all of them.
use Rattle.std.proofs.Common.{ℕ, List}
use Rattle.attempt_laws.proofs.BootRecords.{records_agree}
use Rattle.attempt_laws.proofs.StateLaws.{commits_are_walked, trap_is_walked}
use Rattle.devices.specs.declared.world.World.{World}
use Rattle.plan_restore.proofs.Boots.{failed_left, plan_keeps}
use Rattle.plan_restore.specs.Kept.{planned}
use Rattle.run_plan.specs.Runs.{plan_run}
use Rattle.run_plan.specs.Sound.{IsSoundRun, counts}
use Rattle.site_events.proofs.Runs.{plan_expected, plan_goes_on, plan_traps, plan_walked, plan_weighs}
use Rattle.task_ast.specs.WellFormed.{IsWellFormed}
use Rattle.task_ast.specs.declared.core_form.Core.{Core}
use Rattle.task_attempts.specs.Along.{setting_of}
use Rattle.task_attempts.specs.Boots.{rules_of}
use Rattle.word_isa.specs.declared.parts.Scheme.{Scheme}
use Rattle.sound_images.proofs.PlainLog.{plain_statement}

module _ (c : Core) (world : World) (scheme : Scheme) (well : IsWellFormed c) where
  pub every_run : (numbers looks : List ℕ) → IsSoundRun (planned c world scheme) numbers looks
  every_run numbers looks =
      record {
        walked = plan_walked c world scheme (λ t s none go here. plain_statement (setting_of (rules_of c world) t) s none go here) (failed_left c) well (plan_keeps c world scheme well) (commits_are_walked c world well) numbers looks;
        traps = plan_traps c world scheme (λ t s none go here. plain_statement (setting_of (rules_of c world) t) s none go here) (failed_left c) well (plan_keeps c world scheme well) (trap_is_walked c world well) numbers looks;
        expected = plan_expected c world scheme (λ t s none go here. plain_statement (setting_of (rules_of c world) t) s none go here) (failed_left c) well (plan_keeps c world scheme well) numbers looks;
        agree = records_agree c world well (counts (plan_run (planned c world scheme) numbers looks)) looks;
        weights = plan_weighs c world scheme (λ t s none go here. plain_statement (setting_of (rules_of c world) t) s none go here) (failed_left c) well (plan_keeps c world scheme well) numbers looks;
        goes_on = plan_goes_on c world scheme (λ t s none go here. plain_statement (setting_of (rules_of c world) t) s none go here) (failed_left c) well (plan_keeps c world scheme well) numbers looks;
      }
