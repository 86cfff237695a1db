-- When events name the peripherals of a program.
use Rattle.std.specs.Prelude.{⊤, List}
use Rattle.std.specs.List.{AllByRecursion}
use Rattle.task_ast.specs.declared.core_form.Core.{Core}
use Rattle.devices.specs.Journal.{JournalEvent, issues}
use Rattle.report_text.specs.Events.{HasNumber}
use Rattle.task_attempts.specs.State.{Log}

-- an issue is of one of its peripherals
abbrev pub NamesPeripheral : Core → JournalEvent → Type 0
NamesPeripheral c (issues site p arguments reading) = HasNumber c.peripherals p
NamesPeripheral c e = ⊤

-- so is each of some events, of boots, and of a log
abbrev pub NamePeripherals : Core → List JournalEvent → Type 0
NamePeripherals c events = AllByRecursion (NamesPeripheral c) events

abbrev pub AllNamePeripherals : Core → List (List JournalEvent) → Type 0
AllNamePeripherals c boots = AllByRecursion (NamePeripherals c) boots

abbrev pub LogsPeripherals : Core → Log → Type 0
LogsPeripherals c log = AllByRecursion (λ l. NamesPeripheral c l.event) log
