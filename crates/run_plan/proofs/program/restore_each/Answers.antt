-- One region more.
use Rattle.run_plan.proofs.ProgramLemmas.{restore_more}
use Rattle.run_plan.proofs.program.restore_each.Goals as goal

pub regions-preserved : goal.regions-preserved
regions-preserved c = restore_more c.regions.r _ _ _ c.regions.invariant c.in_ok-push.ensures.ok
