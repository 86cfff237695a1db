-- The program is well formed.
use Rattle.walk_run_tests.proofs.WellFormed.{is_well_formed}
use Rattle.walk_run_tests.proofs.runs.text_of.Goals as goal

pub walk-requires-clause-well_formed : goal.walk-requires-clause-well_formed
walk-requires-clause-well_formed c = is_well_formed c.in_ok-c.c c.in_ok-c.ensures
