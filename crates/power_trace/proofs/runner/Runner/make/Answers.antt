-- The parts are those of the first boot.
use Rattle.devices.specs.Readings.{values_of}
use Rattle.word_machine.specs.Held.{state_with}
use Rattle.power_trace.proofs.runner.Runner.make.Goals as goal

pub invariant_of-result : goal.invariant_of-result
invariant_of-result c = record {
  state = λ i. state_with (c.in_ok-machine.ensures.state i) (c.new.ensures i) (c.in_ok-make.ensures.issued i);
  program = c.in_ok-machine.ensures.program (values_of c.in_ok-make.field-0);
}
