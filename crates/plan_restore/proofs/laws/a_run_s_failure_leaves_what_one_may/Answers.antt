-- Of every state.
use Rattle.plan_restore.proofs.Boots.{failed_left}
use Rattle.plan_restore.proofs.laws.a_run_s_failure_leaves_what_one_may.Goals as goal

pub returns : goal.returns
returns c = failed_left c.args.c.now
