-- The exit status of each way to end.
use Rattle.std.specs.Prelude.{ℕ}
use Rattle.ease_cli.specs.declared.status.Status.{Status}
use Rattle.ease_cli.specs.declared.status.Status.TheVariants.{Ok, Usage, SourceRefused, WorldRefused, ImageRefused, ReadFault, WriteFault, TooLong, NoMemory, Trapped, PowerEnded, ScriptRefused, ReportRefused, Illegal}

abbrev pub number_of : Status → ℕ
number_of Ok = 0
number_of Usage = 1
number_of SourceRefused = 2
number_of WorldRefused = 3
number_of ImageRefused = 4
number_of ReadFault = 5
number_of WriteFault = 6
number_of TooLong = 7
number_of NoMemory = 8
number_of Trapped = 9
number_of PowerEnded = 10
number_of ScriptRefused = 11
number_of ReportRefused = 12
number_of Illegal = 13
