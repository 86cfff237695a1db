-- What RAM has between the acts of an attempt, and which words of FRAM the constants are (docs/CODE.md, "Memory").
use Rattle.std.specs.Prelude.{List, [], ◌∷◌, ◌≡◌, ◌≢◌, ℕ, ◌+◌, ◌-◌, ◌^◌, ◌<◌, ◌≤◌, length, Option, Some}
use Rattle.task_ast.specs.declared.core_form.Core.{Core}
use Rattle.io_annot.specs.declared.choice.Mode.{Mode}
use Rattle.walk_run.specs.declared.place.Place.{Place}
use Rattle.walk_run.specs.Store.{Store, word_at, words_of, pointed}
use Rattle.word_isa.specs.declared.parts.Scheme.{Scheme}
use Rattle.word_machine.specs.Straight.{Spot}
use Rattle.line_code.specs.Areas.{pointer_at}
use Rattle.run_plan.specs.Cells.{CopyValued, Frame, State}
use Rattle.line_laws.specs.Relation.{Points, base_at, room_at}
use Rattle.word_code.specs.Frames.{begun_at, outer_at}
use Rattle.act_laws.specs.Words.{mode_word}
use Rattle.layout_laws.specs.Layouts.{layout_of}
use Rattle.cell_laws.specs.Standing.{IsSite, address_in, class_word, worked}

-- ---- arrays

-- a place of an array that counts from a register: 14 has homes, 0 constants, and 15 what is volatile
pub record IsPlaceOf (c : Core) (register : ℕ) (at : Place) : Type 0 where
  pub counts : base_at (layout_of c 0) at.array ≡ register
  pub inside : at.index < room_at (layout_of c 0) at.array

-- each array that counts from a register has as many words as its room, each of them a word
pub record AreWhole (c : Core) (register : ℕ) (store : Store) : Type 0 where
  pub rooms : (array : ℕ) → base_at (layout_of c 0) array ≡ register → length (words_of store array) ≡ room_at (layout_of c 0) array
  pub fits : (at : Place) → IsPlaceOf c register at → word_at store at < 2 ^ 32

-- and memory has them, where no bank counts
pub record HasArrays (c : Core) (register : ℕ) (m : ℕ → ℕ) (store : Store) : Type 0 where
  pub whole : AreWhole c register store
  pub holds : (at : Place) → IsPlaceOf c register at → m (address_in c 0 at) ≡ word_at store at

-- the constants, which nothing writes
abbrev pub HasConstants : Core → (ℕ → ℕ) → Store → Type 0
HasConstants c m store = HasArrays c 0 m store

-- the registers that arrays count from
pub record HasBases (bank : ℕ) (m : Spot) : Type 0 where
  pub zero_is : m.regs 0 ≡ 0
  pub bank_is : m.regs 14 ≡ bank
  pub ram_is : m.regs 15 ≡ 1048576

-- ---- what lives between acts

-- a word in a cell
pub record HasWord (m : ℕ → ℕ) (a word : ℕ) : Type 0 where
  pub holds : m a ≡ word
  pub fits : word < 2 ^ 32

-- the address of a call's target, which is a place that may be written
pub record HasTarget (c : Core) (bank : ℕ) (m : ℕ → ℕ) (at : Place) : Type 0 where
  pub holds : m 1048608 ≡ address_in c bank at
  pub inside : at.index < room_at (layout_of c bank) at.array
  pub written : base_at (layout_of c bank) at.array ≢ 0

-- words from a cell on
abbrev pub HasWords : List ℕ → (cell : ℕ) → (ℕ → ℕ) → Type 0
HasWords [] cell m = Unit {0}
HasWords (word ∷ words) cell m = (m cell ≡ word) × HasWords words (cell + 1) m

-- the arguments of a call, of which there are at most four
pub record HasArguments (m : ℕ → ℕ) (words : List ℕ) : Type 0 where
  pub few : length words ≤ 4
  pub holds : HasWords words 1048609 m

-- an end of a copy of so many words: its address, and the room from there on
pub record HasEnd (c : Core) (bank : ℕ) (m : ℕ → ℕ) (cell : ℕ) (at : Place) (n : ℕ) : Type 0 where
  pub address : m cell ≡ address_in c bank at
  pub room : m (cell + 1) ≡ room_at (layout_of c bank) at.array - at.index
  pub inside : at.index + n ≤ room_at (layout_of c bank) at.array

-- a copy as it was valued
pub record HasValued (c : Core) (bank : ℕ) (m : ℕ → ℕ) (v : CopyValued) : Type 0 where
  pub to : HasEnd c bank m 1048616 v.to v.length
  pub from : HasEnd c bank m 1048618 v.from v.length
  pub length : HasWord m 1048620 v.length
  pub class : m 1048621 ≡ class_word v.class

-- each cell between acts has what was noted there, once it was
pub record HasFrame (c : Core) (bank : ℕ) (m : ℕ → ℕ) (f : Frame) : Type 0 where
  pub mode : (o : Mode) → f.mode ≡ Some o → m 1048615 ≡ mode_word o
  pub target : (at : Place) → f.target ≡ Some (Some at) → HasTarget c bank m at
  pub args : (words : List ℕ) → f.args ≡ Some words → HasArguments m words
  pub time : (t : ℕ) → f.time ≡ Some t → HasWord m 1048613 t
  pub word : (w : ℕ) → f.word ≡ Some w → HasWord m 1048614 w
  pub copy : (v : CopyValued) → f.copy ≡ Some v → HasValued c bank m v
  pub outer : (k : ℕ) → IsSite k → (o : Mode) → f.outer k ≡ Some o → m (1048576 + outer_at k) ≡ mode_word o
  pub begun : (k : ℕ) → IsSite k → (t : ℕ) → f.begun k ≡ Some t → HasWord m (1048576 + begun_at k) t

-- ---- all of RAM

-- where each pointer points, of at most 256
pub record HasPointers (c : Core) (bank : ℕ) (m : ℕ → ℕ) (store : Store) : Type 0 where
  pub few : length c.pointers ≤ 256
  pub many : length c.pointers ≤ length store.pointers
  pub points : (q : ℕ) → q < length c.pointers → Points (layout_of c bank) (pointer_at q) (pointed store q) m

-- RAM over the bank at an offset: volatile arrays, pointers, and what lives between acts
pub record HasRam (c : Core) (bank : ℕ) (m : ℕ → ℕ) (store : Store) (f : Frame) : Type 0 where
  pub volatile : HasArrays c 15 m store
  pub pointers : HasPointers c bank m store
  pub frame : HasFrame c bank m f

-- RAM stands for what a state has beside its cells, from the end of an attempt's beginning on
abbrev pub RamStands : Core → Scheme → (ℕ → ℕ) → State → Type 0
RamStands c scheme m s = HasRam c (worked scheme s.bank) m s.store s.frame
