-- Which words of FRAM stand for a plan's cells (docs/CODE.md, "Memory").
use Rattle.std.specs.Prelude.{List, [], ◌∷◌, ◌≡◌, ◌≢◌, ℕ, ◌+◌, ◌-◌, ◌<◌, ◌≤◌, ◌==◌, Bool, true, length, Option, Some, None, slice_get, if◌then◌else◌}
use Rattle.std.specs.Prelude.{⊤, ◌⊎◌}
use Rattle.task_ast.specs.declared.core_form.Core.{Core}
use Rattle.task_ast.specs.declared.core_form.CoreTask.{CoreTask}
use Rattle.task_ast.specs.declared.core_form.Site.{Site}
use Rattle.task_ast.specs.WellFormed.{IsWellFormed}
use Rattle.fram_ram.specs.Memories.{put}
use Rattle.task_ast.specs.declared.core_form.Site.TheVariants as site
use Rattle.region_split.specs.declared.class.DmaClass.{DmaClass}
use Rattle.region_split.specs.declared.class.DmaClass.TheVariants.{Single, Private, Exclude, Always}
use Rattle.walk_run.specs.declared.place.Place.{Place}
use Rattle.walk_run.specs.Store.{word_at, words_of}
use Rattle.word_isa.specs.declared.parts.Scheme.{Scheme}
use Rattle.word_isa.specs.declared.parts.Scheme.TheVariants.{Undo, Bank}
use Rattle.run_plan.specs.Cells.{Cells, CellWrite, State, after_write, aside_at, puts_home, puts_aside, puts_lock, puts_flag, puts_value, puts_stamp, puts_class, puts_to, puts_from, puts_length, puts_kept, puts_state, with_words}
use Rattle.line_laws.specs.Relation.{base_at, place_address, room_at}
use Rattle.word_code.specs.Frames.{flag_at, stamp_at, value_at, ends_at, lock_at}
use Rattle.act_laws.specs.Words.{state_word}
use Rattle.layout_laws.specs.Layouts.{layout_of}

-- ---- addresses

-- where the bank that is worked in lies, and the other area: under `undo` the copies, under `bank` the committed bank
abbrev pub worked : Scheme → (bank : ℕ) → ℕ
worked Undo bank = 0
worked Bank bank = if bank == 0 then 2048 else 0

abbrev pub beside : Scheme → (bank : ℕ) → ℕ
beside Undo bank = 2048
beside Bank bank = if bank == 0 then 0 else 2048

-- an array of nonvolatile words counts from register 14
abbrev pub is_home : Core → (array : ℕ) → Bool
is_home c array = base_at (layout_of c 0) array == 14

-- a place of such an array
pub record IsHome (c : Core) (at : Place) : Type 0 where
  pub nonvolatile : is_home c at.array ≡ true
  pub inside : at.index < room_at (layout_of c 0) at.array

-- the address of a place, over the bank at an offset
abbrev pub address_in : Core → (bank : ℕ) → Place → ℕ
address_in c bank at = place_address (layout_of c bank) at.array at.index

-- a copy's class in its record
abbrev pub class_word : DmaClass → ℕ
class_word Single = 1
class_word Private = 2
class_word Exclude = 0
class_word Always = 0

-- ---- what stands there

-- the words of a store's homes, over the bank at an offset
abbrev pub HasHomes : Core → (bank : ℕ) → (ℕ → ℕ) → (Place → ℕ) → Type 0
HasHomes c bank m words = (at : Place) → IsHome c at → m (address_in c bank at) ≡ words at

-- the state word and both areas of homes
pub record HasStore (c : Core) (scheme : Scheme) (m : ℕ → ℕ) (s : State) : Type 0 where
  pub state : m 0 ≡ state_word s.epoch s.task s.bank
  pub homes : HasHomes c (worked scheme s.bank) m (word_at s.store)
  pub aside : HasHomes c (beside scheme s.bank) m (aside_at s)

-- the record of a copy: its class and ends, once they were written, and its length
pub record HasCopy (address : Place → ℕ) (m : ℕ → ℕ) (x : Cells) (k : ℕ) : Type 0 where
  pub class : (d : DmaClass) → x.class k ≡ Some d → m (value_at k) ≡ class_word d
  pub to : (at : Place) → x.to k ≡ Some at → m (ends_at k) ≡ address at
  pub from : (at : Place) → x.from k ≡ Some at → m (ends_at k + 1) ≡ address at
  pub length : m (ends_at k + 2) ≡ x.length k

-- the record of what stands at a site
abbrev pub HasRecord : (Place → ℕ) → Option Site → (ℕ → ℕ) → Cells → (site : ℕ) → Type 0
HasRecord address (Some (site.Io ann)) m x k = (m (value_at k) ≡ x.value k) × (m (stamp_at k) ≡ x.stamp k)
HasRecord address (Some (site.Block ann)) m x k = m (stamp_at k) ≡ x.stamp k
HasRecord address (Some (site.Copy n)) m x k = HasCopy address m x k
HasRecord address None m x k = ⊤

-- sites are numbered from 1
pub record IsSite (k : ℕ) : Type 0 where
  pub from : 1 ≤ k
  pub few : k ≤ 128

-- a task's record of a site in a state
abbrev pub RecordStands : Core → Scheme → CoreTask → (ℕ → ℕ) → State → (site : ℕ) → Type 0
RecordStands c scheme t m s k = HasRecord (address_in c (worked scheme s.bank)) (slice_get t.sites (k - 1)) m s.cells k

-- locks, flags and kept words; and the record of each site whose flag holds
pub record HasCells (c : Core) (scheme : Scheme) (t : CoreTask) (m : ℕ → ℕ) (s : State) : Type 0 where
  pub locks : (r : ℕ) → r ≤ 128 → m (lock_at r) ≡ s.cells.lock r
  pub flags : (k : ℕ) → IsSite k → m (flag_at k) ≡ s.cells.flag k
  pub kept : (n : ℕ) → n < 16384 → m (7042 + n) ≡ s.cells.kept n
  pub records : (k : ℕ) → IsSite k → s.cells.flag k ≡ s.epoch → RecordStands c scheme t m s k

-- the words of FRAM stand for the cells of a state
pub record Stands (c : Core) (scheme : Scheme) (t : CoreTask) (m : ℕ → ℕ) (s : State) : Type 0 where
  pub store : HasStore c scheme m s
  pub cells : HasCells c scheme t m s

-- ---- a write's word

-- the address of the cell that a write is of
abbrev pub address_of : Core → Scheme → State → CellWrite → ℕ
address_of c scheme s (puts_home at w) = address_in c (worked scheme s.bank) at
address_of c scheme s (puts_aside at w) = address_in c (beside scheme s.bank) at
address_of c scheme s (puts_lock r e) = lock_at r
address_of c scheme s (puts_flag k e) = flag_at k
address_of c scheme s (puts_value k w) = value_at k
address_of c scheme s (puts_stamp k t) = stamp_at k
address_of c scheme s (puts_class k d) = value_at k
address_of c scheme s (puts_to k at) = ends_at k
address_of c scheme s (puts_from k at) = ends_at k + 1
address_of c scheme s (puts_length k n) = ends_at k + 2
address_of c scheme s (puts_kept n w) = 7042 + n
address_of c scheme s (puts_state e t b) = 0

-- and the word that it has there
abbrev pub word_of : Core → Scheme → State → CellWrite → ℕ
word_of c scheme s (puts_home at w) = w
word_of c scheme s (puts_aside at w) = w
word_of c scheme s (puts_lock r e) = e
word_of c scheme s (puts_flag k e) = e
word_of c scheme s (puts_value k w) = w
word_of c scheme s (puts_stamp k t) = t
word_of c scheme s (puts_class k d) = class_word d
word_of c scheme s (puts_to k at) = address_in c (worked scheme s.bank) at
word_of c scheme s (puts_from k at) = address_in c (worked scheme s.bank) at
word_of c scheme s (puts_length k n) = n
word_of c scheme s (puts_kept n w) = w
word_of c scheme s (puts_state e t b) = state_word e t b

-- a record is written only where its flag doesn't hold
abbrev pub IsLoose : State → (site : ℕ) → Type 0
IsLoose s k = IsSite k × (s.cells.flag k ≢ s.epoch)

-- A write that the cells have room for. A flag is set to the epoch where the words of its record stand, and a commit has its own law.
abbrev pub Fits : Core → Scheme → CoreTask → (ℕ → ℕ) → State → CellWrite → Type 0
Fits c scheme t m s (puts_home at w) = IsHome c at × (at.index < length (words_of s.store at.array))
Fits c scheme t m s (puts_aside at w) = IsHome c at × (at.index < length (words_of (with_words s.aside s.store) at.array))
Fits c scheme t m s (puts_lock r e) = r ≤ 128
Fits c scheme t m s (puts_flag k e) = IsSite k × (e ≡ s.epoch → RecordStands c scheme t m s k)
Fits c scheme t m s (puts_value k w) = IsLoose s k
Fits c scheme t m s (puts_stamp k u) = IsLoose s k
Fits c scheme t m s (puts_class k d) = IsLoose s k
Fits c scheme t m s (puts_to k at) = IsLoose s k
Fits c scheme t m s (puts_from k at) = IsLoose s k
Fits c scheme t m s (puts_length k n) = IsLoose s k
Fits c scheme t m s (puts_kept n w) = n < 16384
Fits c scheme t m s (puts_state e u b) = ⊥

-- the two areas have the words of each nonvolatile array by its kind
pub record HaveHomes (c : Core) (s : State) : Type 0 where
  pub homes : length s.store.words ≡ length c.arrays
  pub others : length s.aside ≡ length c.arrays

-- A commit to an epoch that no flag has: under `undo` in the same bank, and under `bank` in the other.
pub record CommitFits (c : Core) (scheme : Scheme) (s : State) (epoch bank : ℕ) : Type 0 where
  pub new : (k : ℕ) → IsSite k → s.cells.flag k ≢ epoch
  pub shape : HaveHomes c s
  pub same : scheme ≡ Undo → bank ≡ s.bank
  pub other : scheme ≡ Bank → (bank ≡ 1 × s.bank ≡ 0) ⊎ (bank ≡ 0 × s.bank ≡ 1)

-- ---- writes in a row

-- the state behind them
abbrev pub written : Core → List CellWrite → State → State
written c [] s = s
written c (w ∷ writes) s = written c writes (after_write c.arrays w s)

-- and the words, each of the state that its write finds
abbrev pub words_after : Core → Scheme → List CellWrite → (ℕ → ℕ) → State → ℕ → ℕ
words_after c scheme [] m s = m
words_after c scheme (w ∷ writes) m s = words_after c scheme writes (put m (address_of c scheme s w) (word_of c scheme s w)) (after_write c.arrays w s)

-- behind these writes of a site's record, which doesn't hold before, the words stand for the cells
abbrev pub SealStands : Core → Scheme → CoreTask → (site : ℕ) → List CellWrite → (ℕ → ℕ) → State → Type 0
SealStands c scheme t k writes m s = IsWellFormed c → Stands c scheme t m s → IsLoose s k → Stands c scheme t (words_after c scheme writes m s) (written c writes s)
