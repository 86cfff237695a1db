-- The journal of a run: what it shows, boot by boot (docs/MACHINE.md, "The journal").
use Rattle.std.specs.Prelude.{ℕ, List, [], ◌∷◌, take}
use Rattle.devices.specs.declared.event.Args.{Args}
use Rattle.devices.specs.declared.event.Event.{Event}
use Rattle.devices.specs.declared.event.Event.TheVariants.{Begin, Look, Kept, Dropped, Issued, Sealed, Copied, Commit}
use Rattle.devices.specs.declared.event.RunEnd.{RunEnd}

-- where a copy's words come from or go: a place of an array or a symbol, the words kept for it, or a bare address
pub data Place : Type 0 where
  cell : (array index : ℕ) → Place
  keep : Place
  address : ℕ → Place

-- an event of a journal; `issues` has the peripheral's number, the arguments and the reading
pub data JournalEvent : Type 0 where
  begins : (task : ℕ) → JournalEvent
  looks : (site time : ℕ) → JournalEvent
  keeps : (site value : ℕ) → JournalEvent
  drops : (site : ℕ) → JournalEvent
  issues : (site peripheral : ℕ) → (arguments : List ℕ) → (reading : ℕ) → JournalEvent
  seals : (site : ℕ) → JournalEvent
  copies : (site : ℕ) → (from to : Place) → (words : ℕ) → JournalEvent
  commits : (next : ℕ) → JournalEvent
  traps : (code : ℕ) → JournalEvent

-- a boot: the steps that were done when it began, and its events, each with the number of its step
pub record Boot : Type 0 where
  pub begun_at : ℕ
  pub events : List (ℕ × JournalEvent)

-- the boots of a run, the steps that were done when it ended, and how it ended
pub record Journal : Type 0 where
  pub boots : List Boot
  pub steps : ℕ
  pub ending : RunEnd

-- the arguments of an issue in order
abbrev pub arguments_of : Args → List ℕ
arguments_of args = take args.count (args.a0 ∷ args.a1 ∷ args.a2 ∷ args.a3 ∷ [])

-- an event of a step, with its addresses turned to places
abbrev pub placed : (ℕ → Place) → Event → JournalEvent
placed place_of (Begin task) = begins task
placed place_of (Look site time) = looks site time
placed place_of (Kept site value) = keeps site value
placed place_of (Dropped site) = drops site
placed place_of (Issued site peripheral args reading) = issues site peripheral (arguments_of args) reading
placed place_of (Sealed site) = seals site
placed place_of (Copied site from to words) = copies site (place_of from) (place_of to) words
placed place_of (Commit next) = commits next
