-- The report of a journal, line by line (docs/MACHINE.md, "The report").
use Rattle.std.specs.Prelude.{ℕ, zero, suc, ◌-◌, ◌==◌, Bool, Option, Some, None, List, [], ◌∷◌, ◌++◌, codes, decimal, if◌then◌else◌}
use Rattle.std.specs.List.{flat_map}
use Rattle.std.specs.Option.{option_or}
use Rattle.devices.specs.Journal.{Place, cell, keep, address, JournalEvent, begins, looks, keeps, drops, issues, seals, copies, commits, traps, Boot, Journal}
use Rattle.devices.specs.declared.event.RunEnd.{RunEnd}
use Rattle.devices.specs.declared.event.RunEnd.TheVariants.{Halted, Trapped, Power}
use Rattle.ease_base.specs.declared.place.Peripheral.{Peripheral}
use Rattle.word_isa.specs.declared.image.Image.{Image}
use Rattle.word_isa.specs.Entries.{own, other_bank}
use Rattle.word_isa.specs.declared.parts.Symbol.{Symbol}
use Rattle.word_isa.specs.declared.span.Span.{Span}
use Rattle.word_machine.specs.Places.{lies_in, place_of}

-- how a report is written: the names of an image, and whether in brief
pub record Style : Type 0 where
  pub symbols : List Symbol
  pub peripherals : List Peripheral
  pub brief : Bool

-- the style of an image's reports
abbrev pub style_of : Image → (brief : Bool) → Style
style_of image brief = record { symbols = image.symbols; peripherals = image.peripherals; brief = brief }

-- the place of an address in an image
abbrev pub place_in : Image → ℕ → Place
place_in image = place_of image.symbols image.stride image.keep image.keep_words

-- a number behind a space
abbrev pub number : ℕ → List ℕ
number n = codes " " ++ decimal n

-- a peripheral's name, or its number behind `#`
abbrev pub peripheral_name : List Peripheral → ℕ → List ℕ
peripheral_name [] n = codes "#" ++ decimal n
peripheral_name (p ∷ peripherals) n = if p.number == n then p.name else peripheral_name peripherals n

-- the name of a symbol by its place, from 0
abbrev pub symbol_name : List Symbol → ℕ → List ℕ
symbol_name [] k = []
symbol_name (s ∷ symbols) zero = s.name
symbol_name (s ∷ symbols) (suc k) = symbol_name symbols k

-- an end of a copy: a symbol's word as `NAME[I]`, `keep`, or `@` and the address
abbrev pub place_text : List Symbol → Place → List ℕ
place_text symbols (cell k i) = symbol_name symbols k ++ codes "[" ++ decimal i ++ codes "]"
place_text symbols keep = codes "keep"
place_text symbols (address at) = codes "@" ++ decimal at

-- which word of a range an address is, from 0
abbrev pub index_from : Span → ℕ → Option ℕ
index_from range at = if lies_in range at then Some (at - range.from) else None

-- which word of a symbol, in either bank; at the base first
abbrev pub index_in : Symbol → (stride : ℕ) → ℕ → Option ℕ
index_in s stride at = option_or (index_from (own s) at) (index_from (other_bank stride s) at)

-- a look, without its time in a brief report
abbrev pub look_text : (brief : Bool) → (site time : ℕ) → List ℕ
look_text brief site time = if brief then codes "look" ++ number site else codes "look" ++ number site ++ number time

-- an issue with its arguments in order
abbrev pub issue_text : List Peripheral → (site peripheral : ℕ) → List ℕ → (reading : ℕ) → List ℕ
issue_text peripherals site peripheral arguments reading =
    codes "issue" ++ number site ++ codes " " ++ peripheral_name peripherals peripheral ++ flat_map number arguments ++ codes " =" ++ number reading

-- the text of an event
abbrev pub event_text : Style → JournalEvent → List ℕ
event_text style (begins task) = codes "begin" ++ number task
event_text style (looks site time) = look_text style.brief site time
event_text style (keeps site value) = codes "kept" ++ number site ++ number value
event_text style (drops site) = codes "drop" ++ number site
event_text style (issues site peripheral arguments reading) = issue_text style.peripherals site peripheral arguments reading
event_text style (seals site) = codes "seal" ++ number site
event_text style (copies site from to words) =
    codes "copy" ++ number site ++ codes " " ++ place_text style.symbols from ++ codes " " ++ place_text style.symbols to ++ number words
event_text style (commits next) = codes "commit" ++ number next
event_text style (traps code) = codes "trap" ++ number code

-- how a run ended
abbrev pub end_text : RunEnd → List ℕ
end_text Halted = codes "end halted"
end_text (Trapped code) = codes "end trapped" ++ number code
end_text Power = codes "end power"

-- a line; a full one begins with the number of steps done
abbrev pub line : Style → (steps : ℕ) → List ℕ → List ℕ
line style steps text = (if style.brief then [] else decimal steps ++ codes " ") ++ text ++ 10 ∷ []

-- the lines of events with the numbers of their steps
abbrev pub event_lines : Style → List (ℕ × JournalEvent) → List ℕ
event_lines style events = flat_map (λ e. line style e.0 (event_text style e.1)) events

-- the lines of a boot, the boots numbered from 1
abbrev pub boot_lines : Style → (number : ℕ) → Boot → List ℕ
boot_lines style k boot = line style boot.begun_at (codes "boot" ++ number k) ++ event_lines style boot.events

-- the lines of boots from a number on
abbrev pub boots_lines : Style → (number : ℕ) → List Boot → List ℕ
boots_lines style k [] = []
boots_lines style k (boot ∷ boots) = boot_lines style k boot ++ boots_lines style (suc k) boots

-- the report: the boots, and how the run ended
abbrev pub report : Style → Journal → List ℕ
report style j = boots_lines style 1 j.boots ++ line style j.steps (end_text j.ending)
