-- How long a line of a report is (docs/MACHINE.md, "The report").
use Rattle.std.specs.Prelude.{ℕ, ◌<◌, ◌≤◌, ◌^◌, All, length}
use Rattle.devices.specs.Journal.{Place, cell, keep, address, JournalEvent, begins, looks, keeps, drops, issues, seals, copies, commits, traps}
use Rattle.devices.specs.declared.event.RunEnd.{RunEnd}
use Rattle.devices.specs.declared.event.RunEnd.TheVariants.{Halted, Trapped, Power}
use Rattle.ease_base.specs.declared.place.Peripheral.{Peripheral}
use Rattle.power_trace.specs.Report.{Style}
use Rattle.word_isa.specs.declared.parts.Symbol.{Symbol}

-- a number of 32 bits
abbrev pub IsWord : ℕ → Type 0
IsWord n = n < 2 ^ 32

-- a place whose number is a word
abbrev pub IsWordPlace : Place → Type 0
IsWordPlace (cell k i) = IsWord i
IsWordPlace keep = Unit {0}
IsWordPlace (address at) = IsWord at

-- an event whose numbers are words, with at most four arguments
abbrev pub HasWords : JournalEvent → Type 0
HasWords (begins task) = IsWord task
HasWords (looks site time) = IsWord site × IsWord time
HasWords (keeps site value) = IsWord site × IsWord value
HasWords (drops site) = IsWord site
HasWords (issues site peripheral arguments reading) = IsWord site × IsWord peripheral × (length arguments ≤ 4) × All IsWord arguments × IsWord reading
HasWords (seals site) = IsWord site
HasWords (copies site from to words) = IsWord site × IsWordPlace from × IsWordPlace to × IsWord words
HasWords (commits next) = IsWord next
HasWords (traps code) = IsWord code

-- an end whose code is a word
abbrev pub IsWordEnd : RunEnd → Type 0
IsWordEnd Halted = Unit {0}
IsWordEnd (Trapped code) = IsWord code
IsWordEnd Power = Unit {0}

-- names of at most 32 bytes, as all names of an image
pub record AreShort (style : Style) : Type 0 where
  pub symbols : All (λ (s : Symbol). length s.name ≤ 32) style.symbols
  pub peripherals : All (λ (p : Peripheral). length p.name ≤ 32) style.peripherals
