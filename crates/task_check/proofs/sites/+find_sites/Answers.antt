use Rattle.task_check.proofs.SiteLemmas.{has_first, has_second, has_loop}
use Rattle.task_check.proofs.sites.+find_sites.Goals as goal

pub has_sites-returns-then-body_has_sites : goal.has_sites-returns-then-body_has_sites
has_sites-returns-then-body_has_sites t c = has_first _ _ _ _ _ _ c.in-If.is c.as_slice.ensures c.body_has_sites.ensures c.if-body_has_sites.true

pub has_sites-returns-else-body_has_sites : goal.has_sites-returns-else-body_has_sites
has_sites-returns-else-body_has_sites t c =
    has_second _ _ _ _ _ _ _ _ c.in-If.is c.as_slice.ensures c.as_slice-else-body_has_sites.ensures c.body_has_sites.ensures c.if-body_has_sites.false c.body_has_sites-else-body_has_sites.ensures

pub has_sites-returns-in-For : goal.has_sites-returns-in-For
has_sites-returns-in-For t c = has_loop _ _ _ _ _ _ _ _ c.in-For.is c.as_slice-in-For.ensures c.body_has_sites-in-For.ensures
