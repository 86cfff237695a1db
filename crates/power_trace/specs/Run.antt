-- The run of an image on power rows, and what is written of it piece by piece (docs/MACHINE.md, "The report").
use Rattle.std.specs.Prelude.{ℕ, ◌≤◌, Bool, Option, Some, None, List, []}
use Rattle.devices.specs.Journal.{Journal, traps, placed}
use Rattle.devices.specs.Reading.{values_in}
use Rattle.devices.specs.Readings.{Series, values_of}
use Rattle.devices.specs.World.{steps_of, ticks_of}
use Rattle.devices.specs.declared.event.RunEnd.{RunEnd}
use Rattle.devices.specs.declared.event.RunEnd.TheVariants as ended
use Rattle.devices.specs.declared.world.PowerRow.{PowerRow}
use Rattle.devices.specs.declared.world.World.{World}
use Rattle.power_trace.specs.Report.{style_of, place_in, event_text, line, report}
use Rattle.word_isa.specs.declared.image.Image.{Image}
use Rattle.word_machine.specs.Runs.{journal}
use Rattle.word_machine.specs.State.{Program, program_of, start}
use Rattle.word_machine.specs.declared.ending.Ending.{Ending}
use Rattle.word_machine.specs.declared.ending.Ending.TheVariants.{Running, Halted, Trapped}
use Rattle.word_machine.specs.declared.stepped.Stepped.{Stepped}
use Rattle.word_machine.specs.declared.stepped.Stepped.TheVariants as stepped

-- the program of an image where each peripheral has these readings
abbrev pub program_in : Image → (values : ℕ → List ℕ) → Program
program_in image values = program_of image.code image.marks values

-- the journal of an image on power rows, from its first boot on
abbrev pub journal_of : Image → (values : ℕ → List ℕ) → List PowerRow → Journal
journal_of image values power = journal (place_in image) (program_in image values) power (start image.fram)

-- the journal of an image on a world
abbrev pub journal_on : Image → World → Journal
journal_on image world = journal_of image (values_in world.feeds) world.power

-- the report of an image on a world
abbrev pub report_on : Image → World → (brief : Bool) → List ℕ
report_on image world brief = report (style_of image brief) (journal_on image world)

-- power rows of at most 4194304 steps and at most 4294967295 ticks, as those of a world within the limits
pub record AreWithinLimits (power : List PowerRow) : Type 0 where
  pub steps : steps_of power ≤ 4194304
  pub ticks : ticks_of power ≤ 4294967295

-- what a runner runs: an image, and the readings of the peripherals
pub record Prepared : Type 0 where
  pub image : Image
  pub readings : List Series

-- its journal on power rows
abbrev pub journal_from : Prepared → List PowerRow → Journal
journal_from r power = journal_of r.image (values_of r.readings) power

-- its report on power rows
abbrev pub report_from : Prepared → List PowerRow → (brief : Bool) → List ℕ
report_from r power brief = report (style_of r.image brief) (journal_from r power)

-- the line of what a step answers, if it has one
abbrev pub told_text : Image → (brief : Bool) → (step : ℕ) → Stepped → List ℕ
told_text image brief step (stepped.Ran None) = []
told_text image brief step (stepped.Ran (Some e)) = line (style_of image brief) step (event_text (style_of image brief) (placed (place_in image) e))
told_text image brief step stepped.Halted = []
told_text image brief step (stepped.Trapped code) = line (style_of image brief) step (event_text (style_of image brief) (traps code))

-- the end that a step's answer tells
abbrev pub end_told : Stepped → Option RunEnd
end_told (stepped.Ran e) = None
end_told stepped.Halted = Some ended.Halted
end_told (stepped.Trapped code) = Some (ended.Trapped code)

-- the end of a machine that doesn't go on
abbrev pub end_in : Ending → Option RunEnd
end_in Running = None
end_in Halted = Some ended.Halted
end_in (Trapped code) = Some (ended.Trapped code)
