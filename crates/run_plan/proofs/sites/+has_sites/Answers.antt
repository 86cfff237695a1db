-- An `if` and a loop by their bodies.
use Rattle.run_plan.proofs.SiteLemmas.{has_first, has_second, has_loop}
use Rattle.run_plan.proofs.sites.+has_sites.Goals as goal

pub has_sites-returns-then-body_has_sites : goal.has_sites-returns-then-body_has_sites
has_sites-returns-then-body_has_sites t c = has_first _ _ _ _ _ _ c.in-If.is c.as_slice.ensures c.body_has_sites.ensures c.if-body_has_sites.true

pub has_sites-returns-else-body_has_sites : goal.has_sites-returns-else-body_has_sites
has_sites-returns-else-body_has_sites t c =
    has_second _ _ _ _ _ _ _ _ c.in-If.is c.as_slice.ensures c.as_slice-else-body_has_sites.ensures c.body_has_sites.ensures c.if-body_has_sites.false c.body_has_sites-else-body_has_sites.ensures

pub has_sites-returns-in-Loop : goal.has_sites-returns-in-Loop
has_sites-returns-in-Loop t c = has_loop _ _ _ _ _ _ c.in-Loop.is c.as_slice-in-Loop.ensures c.body_has_sites-in-Loop.ensures
