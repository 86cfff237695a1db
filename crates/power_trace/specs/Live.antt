-- A machine on its way: its state and its program (docs/MACHINE.md, "The state").
use Rattle.std.specs.Prelude.{◌≡◌}
use Rattle.devices.specs.Readings.{values_of}
use Rattle.devices.specs.declared.outside.Outside.{Outside}
use Rattle.power_trace.specs.declared.live.Live.{Live}
use Rattle.power_trace.specs.Run.{program_in as program_of_image}
use Rattle.word_isa.specs.declared.image.Image.{Image}
use Rattle.word_machine.specs.Held.{Loaded, state_in, program_in}
use Rattle.word_machine.specs.State.{Program, State, start}

-- the state
abbrev pub state_of : Live → State
state_of l = state_in l.machine.held l.outside

-- the program
abbrev pub program_in_live : Live → Program
program_in_live l = program_in l.machine l.outside

-- a machine of this image at its first boot, before its first step
pub record IsPrepared (image : Image) (machine : Loaded) (outside : Outside) : Type 0 where
  pub state : state_in machine.held outside ≡ start image.fram
  pub program : program_in machine outside ≡ program_of_image image (values_of outside.readings)
