-- One site more.
use Rattle.run_plan.proofs.ToldLemmas.{later_more}
use Rattle.run_plan.proofs.statements.drop_later.Goals as goal

pub sites-preserved : goal.sites-preserved
sites-preserved c = later_more c.args.around.now.depends.now c.sites.index c.args.site c.args.acts.now _ _ _ c.sites.invariant c.later.ensures.rows c.in_ok-drop_if.ensures
