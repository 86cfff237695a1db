-- Of every run.
use Rattle.site_events.proofs.Runs.{plan_goes_on}
use Rattle.site_events.proofs.laws.a_plan_goes_on.Goals as goal

pub returns : goal.returns
returns c = plan_goes_on c.args.c.now c.args.world.now c.args.scheme c.a_statement_without_sites_shows_no_event.ensures c.a_run_s_failure_leaves_what_one_may.ensures
    c.requires c.a_boot_finds_the_committed_store.ensures
