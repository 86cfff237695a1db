-- Row by row.
use Rattle.journal_fits.proofs.Steps.{boots_fit}
use Rattle.journal_fits.proofs.laws.the_steps_of_a_journal_fit_its_power.Goals as goal

pub returns : goal.returns
returns c = λ place_of p rows before s. boots_fit place_of p rows before s
