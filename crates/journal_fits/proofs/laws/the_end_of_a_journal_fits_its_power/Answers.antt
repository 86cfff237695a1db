-- By how the machine is behind all power rows.
use Rattle.journal_fits.proofs.Fits.{end_fits}
use Rattle.journal_fits.proofs.laws.the_end_of_a_journal_fits_its_power.Goals as goal

pub returns : goal.returns
returns c = λ place_of p rows s on well. end_fits place_of p rows s on well
