-- Step by step.
use Rattle.std.proofs.Common.{refl}
use Rattle.word_machine.specs.Straight.{live}
use Rattle.power_runs.specs.Journals.{events_seen}
use Rattle.power_runs.proofs.laws.the_events_of_a_boot_are_those_seen.Goals as goal

pub returns : goal.returns
returns c = λ p place_of unmarked before n m. events_seen p place_of unmarked before n (live m) refl
