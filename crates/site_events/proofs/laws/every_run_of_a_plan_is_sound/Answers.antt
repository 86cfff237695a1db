-- Part by part.
use Rattle.run_plan.specs.Runs.{plan_run}
use Rattle.run_plan.specs.Sound.{counts}
use Rattle.plan_restore.specs.Kept.{planned}
use Rattle.site_events.proofs.laws.every_run_of_a_plan_is_sound.Goals as goal

pub returns : goal.returns
returns c = λ numbers looks. record {
  walked = c.what_a_plan_commits_is_walked.ensures numbers looks;
  traps = c.a_trap_of_a_plan_is_walked.ensures numbers looks;
  expected = c.a_plan_shows_what_the_rules_expect.ensures numbers looks;
  agree = c.a_record_that_is_followed_agrees.ensures (counts (plan_run (planned c.args.c.now c.args.world.now c.args.scheme) numbers looks)) looks;
  weights = c.a_plan_stays_within_the_steps.ensures numbers looks;
  goes_on = c.a_plan_goes_on.ensures numbers looks;
}
