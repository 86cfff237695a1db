-- What the acts of copies ask.
use Rattle.std.specs.Prelude.{◌≡◌, ◌≢◌, ℕ, ◌+◌, ◌≤◌, Some}
use Rattle.devices.specs.Journal as journal
use Rattle.task_ast.specs.declared.core_form.Core.{Core}
use Rattle.task_attempts.specs.Copies.{shown}
use Rattle.walk_run.specs.declared.place.Place.{Place}
use Rattle.word_machine.specs.Straight.{Spot}
use Rattle.run_plan.specs.Cells.{CopyValued, State}
use Rattle.run_plan.specs.Small.{Doing, core_of}
use Rattle.run_plan.specs.Words.{kept_at}
use Rattle.line_laws.specs.Relation.{base_at, room_at}
use Rattle.layout_laws.specs.Layouts.{layout_of}
use Rattle.cell_laws.specs.Standing.{address_in, worked}

-- the site's kept words have room for the copy as it was valued
abbrev pub IsRoomFor : Doing → (site : ℕ) → Spot → State → Type 0
IsRoomFor d k m s = (v : CopyValued) → s.frame.copy ≡ Some v → kept_at d k + v.length ≤ 16384

-- so many words from a place on may be written: they are there, and no constants
pub record IsWritableRow (c : Core) (at : Place) (n : ℕ) : Type 0 where
  pub inside : at.index + n ≤ room_at (layout_of c 0) at.array
  pub written : base_at (layout_of c 0) at.array ≢ 0

-- a copy's record holds, its destination may be written, and its kept words have room
pub record IsRecorded (d : Doing) (k : ℕ) (m : Spot) (s : State) : Type 0 where
  pub held : s.cells.flag k ≡ s.epoch
  pub inside : (at : Place) → s.cells.to k ≡ Some at → IsWritableRow (core_of d) at (s.cells.length k)
  pub room : kept_at d k + s.cells.length k ≤ 16384

-- ---- the places that a copy's event shows

-- the address of a place is told as the place
abbrev pub IsTold : (ℕ → journal.Place) → Doing → State → Place → Type 0
IsTold place_of d s at = place_of (address_in (core_of d) (worked d.scheme s.bank) at) ≡ shown at

-- the kept words have room for a copy, and its source and they are told as they are
pub record GoesToKept (place_of : ℕ → journal.Place) (d : Doing) (k : ℕ) (m : Spot) (s : State) : Type 0 where
  pub room : IsRoomFor d k m s
  pub from : (v : CopyValued) → s.frame.copy ≡ Some v → IsTold place_of d s v.from
  pub kept : place_of (7042 + kept_at d k) ≡ journal.keep

-- a copy's record holds, and they and its destination are told as they are
pub record ComesFromKept (place_of : ℕ → journal.Place) (d : Doing) (k : ℕ) (m : Spot) (s : State) : Type 0 where
  pub recorded : IsRecorded d k m s
  pub to : (at : Place) → s.cells.to k ≡ Some at → IsTold place_of d s at
  pub kept : place_of (7042 + kept_at d k) ≡ journal.keep

-- a copy goes to no constant, and both of its ends are told as they are
pub record GoesAcross (place_of : ℕ → journal.Place) (d : Doing) (m : Spot) (s : State) : Type 0 where
  pub clear : (v : CopyValued) → s.frame.copy ≡ Some v → base_at (layout_of (core_of d) 0) v.to.array ≢ 0
  pub from : (v : CopyValued) → s.frame.copy ≡ Some v → IsTold place_of d s v.from
  pub to : (v : CopyValued) → s.frame.copy ≡ Some v → IsTold place_of d s v.to
