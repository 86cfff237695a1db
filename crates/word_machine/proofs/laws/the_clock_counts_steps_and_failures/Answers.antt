-- The law on power rows.
use Rattle.word_machine.specs.PowerLaws.{powered_clock}
use Rattle.word_machine.proofs.laws.the_clock_counts_steps_and_failures.Goals as goal

pub returns : goal.returns
returns c = powered_clock
