-- Where steps end, by what a step answers and where the counter stood before it (docs/COMMANDS.md, "The debugger").
use Rattle.std.specs.Prelude.{◌≡◌, ℕ, ◌-◌, ◌==◌, Bool, false, ◌&&◌, List, Some, slice_index, if◌then◌else◌}
use Rattle.devices.specs.declared.event.Event.TheVariants as the
use Rattle.ease_debug.specs.Session.{comes_from, task_of}
use Rattle.ease_debug.specs.declared.stop.Stop.{Stop}
use Rattle.ease_debug.specs.declared.stop.Stop.TheVariants.{Never, Site, SiteOf}
use Rattle.word_isa.specs.Marks.{mark_at}
use Rattle.word_isa.specs.declared.mark.Mark.{Mark}
use Rattle.word_machine.specs.declared.stepped.Stepped.{Stepped}
use Rattle.word_machine.specs.declared.stepped.Stepped.TheVariants as stepped

-- a copy of words has its event with the last of them, behind its instruction
abbrev pub place_by : Stepped → (at : ℕ) → ℕ
place_by (stepped.Ran (Some (the.Copied k from to n))) at = if n == 0 then at else at - 1
place_by _ at = at

-- the step is the last, where a table names the tasks of marks by their addresses
abbrev pub stops_by : (tasks : List ℕ) → Stop → (at : ℕ) → Stepped → Bool
stops_by tasks Never at told = false
stops_by tasks (Site k) at told = comes_from k told
stops_by tasks (SiteOf task k) at told = comes_from k told && slice_index tasks (place_by told at) == task

-- a table that names the task of the mark at each address
abbrev pub Names : (tasks : List ℕ) → List Mark → Type 0
Names tasks marks = (at : ℕ) → slice_index tasks at ≡ task_of (mark_at marks at)
