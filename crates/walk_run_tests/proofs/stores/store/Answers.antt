-- The program is well formed.
use Rattle.walk_run_tests.proofs.WellFormed.{is_well_formed}
use Rattle.walk_run_tests.proofs.stores.store.Goals as goal

pub make-requires : goal.make-requires
make-requires c = is_well_formed c.in_ok-c.c c.in_ok-c.ensures
