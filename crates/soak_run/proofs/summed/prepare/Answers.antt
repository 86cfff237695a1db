-- The parts are those of the first boot.
use Rattle.devices.specs.Readings.{values_of}
use Rattle.word_machine.specs.Held.{state_with}
use Rattle.soak_run.proofs.summed.prepare.Goals as goal

pub returns-clause-prepared : goal.returns-clause-prepared
returns-clause-prepared c = record {
  state = λ i. state_with (c.in_ok-machine.ensures.state i) (c.new.ensures i) (c.in_ok-make.ensures.issued i);
  program = c.in_ok-machine.ensures.program (values_of c.in_ok-make.field-0);
}
