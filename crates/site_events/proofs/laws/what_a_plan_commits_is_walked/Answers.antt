-- Of every run.
use Rattle.site_events.proofs.Runs.{plan_walked}
use Rattle.site_events.proofs.laws.what_a_plan_commits_is_walked.Goals as goal

pub returns : goal.returns
returns c = plan_walked c.args.c.now c.args.world.now c.args.scheme c.a_statement_without_sites_shows_no_event.ensures c.a_run_s_failure_leaves_what_one_may.ensures
    c.requires c.a_boot_finds_the_committed_store.ensures c.what_is_committed_is_what_an_unbroken_run_does.ensures
