-- Of every run.
use Rattle.site_events.proofs.Runs.{plan_traps}
use Rattle.site_events.proofs.laws.a_trap_of_a_plan_is_walked.Goals as goal

pub returns : goal.returns
returns c = plan_traps c.args.c.now c.args.world.now c.args.scheme c.a_statement_without_sites_shows_no_event.ensures c.a_run_s_failure_leaves_what_one_may.ensures
    c.requires c.a_boot_finds_the_committed_store.ensures c.a_trap_is_that_of_the_unbroken_run.ensures
