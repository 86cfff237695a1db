-- Of every run.
use Rattle.site_events.proofs.Runs.{plan_weighs}
use Rattle.site_events.proofs.laws.a_plan_stays_within_the_steps.Goals as goal

pub returns : goal.returns
returns c = plan_weighs c.args.c.now c.args.world.now c.args.scheme c.a_statement_without_sites_shows_no_event.ensures c.a_run_s_failure_leaves_what_one_may.ensures
    c.requires c.a_boot_finds_the_committed_store.ensures
