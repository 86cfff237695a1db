-- What acts of sites ask, so that they miss nothing that an act before them makes.
use Rattle.std.specs.Prelude.{◌≡◌, ◌≢◌, ℕ, ◌<◌, ◌≤◌, Some, None}
use Rattle.walk_run.specs.declared.place.Place.{Place}
use Rattle.word_machine.specs.Straight.{Spot}
use Rattle.run_plan.specs.Cells.{CopyValued, State}
use Rattle.run_plan.specs.Deeds.{class_now}
use Rattle.run_plan.specs.Small.{Doing, core_of}
use Rattle.line_laws.specs.Relation.{base_at, room_at}
use Rattle.layout_laws.specs.Layouts.{layout_of}
use Rattle.act_refines.specs.Does.{IsFree}
use Rattle.act_refines.specs.Moves.{IsRecorded, IsRoomFor}

-- ---- what was made

abbrev pub HasMode : Spot → State → Type 0
HasMode m s = s.frame.mode ≢ None

abbrev pub HasTime : Spot → State → Type 0
HasTime m s = s.frame.time ≢ None

abbrev pub HasWord : Spot → State → Type 0
HasWord m s = s.frame.word ≢ None

abbrev pub HasArguments : Spot → State → Type 0
HasArguments m s = s.frame.args ≢ None

abbrev pub HasTarget : Spot → State → Type 0
HasTarget m s = s.frame.target ≢ None

abbrev pub HasCopy : Spot → State → Type 0
HasCopy m s = s.frame.copy ≢ None

-- a block's beginning, and the mode outside
abbrev pub HasBegun : (site : ℕ) → Spot → State → Type 0
HasBegun k m s = s.frame.begun k ≢ None

abbrev pub HasOuter : (site : ℕ) → Spot → State → Type 0
HasOuter k m s = s.frame.outer k ≢ None

-- a copy's class, by its record or as it was valued, and its recorded destination
abbrev pub HasClass : (site : ℕ) → Spot → State → Type 0
HasClass k m s = class_now s k ≢ None

abbrev pub HasDestination : (site : ℕ) → Spot → State → Type 0
HasDestination k m s = s.cells.to k ≢ None

-- ---- what acts ask of it

-- a choice and a block's beginning go by the mode and the last look's time
pub record IsTimed (m : Spot) (s : State) : Type 0 where
  pub mode : HasMode m s
  pub time : HasTime m s

-- a block's end goes by its mode, and makes the mode outside again
pub record IsInside (k : ℕ) (m : Spot) (s : State) : Type 0 where
  pub mode : HasMode m s
  pub outer : HasOuter k m s

-- a record that doesn't hold, and what is sealed; no stamp is of the future
pub record SealsCall (k : ℕ) (m : Spot) (s : State) : Type 0 where
  pub free : IsFree k m s
  pub word : HasWord m s
  pub time : HasTime m s
  pub past : (t : ℕ) → s.frame.time ≡ Some t → t ≤ m.clock

pub record SealsBlock (k : ℕ) (m : Spot) (s : State) : Type 0 where
  pub free : IsFree k m s
  pub begun : HasBegun k m s
  pub past : (t : ℕ) → s.frame.begun k ≡ Some t → t ≤ m.clock

-- a copy goes to a place of an array that isn't constant, also where it has no words, and the site's kept words have room for it
pub record SealsCopy (d : Doing) (k : ℕ) (m : Spot) (s : State) : Type 0 where
  pub free : IsFree k m s
  pub copy : HasCopy m s
  pub starts : (v : CopyValued) → s.frame.copy ≡ Some v → v.to.index < room_at (layout_of (core_of d) 0) v.to.array
  pub clear : (v : CopyValued) → s.frame.copy ≡ Some v → base_at (layout_of (core_of d) 0) v.to.array ≢ 0
  pub room : IsRoomFor d k m s

-- a call was valued, and a word goes to its target
pub record HasAimed (m : Spot) (s : State) : Type 0 where
  pub target : HasTarget m s
  pub word : (at : Place) → s.frame.target ≡ Some (Some at) → HasWord m s

-- ---- what acts of a copy's words ask

-- the copy was valued, and the site's kept words have room for it
pub record KeepsCopy (d : Doing) (k : ℕ) (m : Spot) (s : State) : Type 0 where
  pub copy : HasCopy m s
  pub room : IsRoomFor d k m s

-- its record holds, with a destination that may be written
pub record PutsCopy (d : Doing) (k : ℕ) (m : Spot) (s : State) : Type 0 where
  pub there : HasDestination k m s
  pub recorded : IsRecorded d k m s

-- the copy was valued, and goes to no constant
pub record MovesCopy (d : Doing) (m : Spot) (s : State) : Type 0 where
  pub copy : HasCopy m s
  pub clear : (v : CopyValued) → s.frame.copy ≡ Some v → base_at (layout_of (core_of d) 0) v.to.array ≢ 0
