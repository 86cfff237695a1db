-- Boot by boot.
use Rattle.journal_fits.proofs.NamedBoots.{expected_name}
use Rattle.journal_fits.proofs.laws.the_rules_name_the_peripherals_of_a_program.Goals as goal

pub returns : goal.returns
returns c = λ core world cuts looks well. expected_name core world cuts looks well
