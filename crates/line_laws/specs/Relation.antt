-- The machine's memory has a store: each array's words from its address on, and each pointer's place in two cells of RAM
-- (docs/CODE.md, "Memory").
use Rattle.std.specs.Prelude.{◌≡◌, ℕ, ◌+◌, ◌-◌, ◌^◌, ◌<◌, ◌≤◌, ◌&&◌, ◌||◌, ◌==◌, nat_lt, nat_le, Bool, true, false, List, length, Option, Some, None, if◌then◌else◌}
use Rattle.fram_ram.specs.Memories.{has_word}
use Rattle.walk_run.specs.declared.place.Place.{Place}
use Rattle.walk_run.specs.Store.{Store, place, words_of, word_at, pointed}
use Rattle.word_machine.specs.Straight.{Spot}
use Rattle.line_code.specs.declared.areas.Placed.{Placed}
use Rattle.line_code.specs.Areas.{area_at, pointer_at}
use Rattle.line_laws.specs.Gives.{IsKept}

-- where the arrays lie, and the offset of the bank that homes are taken from
pub record Layout : Type 0 where
  pub areas : List Placed
  pub bank : ℕ

-- the word of a register that addresses count from: 14 has the bank's offset and 15 where RAM begins; 0 has 0
abbrev pub base_word : (bank register : ℕ) → ℕ
base_word bank r = if r == 14 then bank else if r == 15 then 1048576 else 0

-- an array's register, the register's word, its offset and its number of words
abbrev pub base_at : Layout → ℕ → ℕ
base_at l array = (area_at l.areas array).base

abbrev pub from_at : Layout → ℕ → ℕ
from_at l array = base_word l.bank (base_at l array)

abbrev pub offset_at : Layout → ℕ → ℕ
offset_at l array = (area_at l.areas array).offset

abbrev pub room_at : Layout → ℕ → ℕ
room_at l array = (area_at l.areas array).room

-- the address of a place of an array
abbrev pub place_address : Layout → (array index : ℕ) → ℕ
place_address l array i = from_at l array + i + offset_at l array

-- the cells of the code itself: in RAM before the volatile arrays, the state word, and FRAM behind the constants
abbrev pub is_cell : ℕ → Bool
is_cell a = (nat_le 1048576 a && nat_lt a 1049408) || (a == 0) || (nat_le 6145 a && nat_lt a 65536)

-- a place's address is a memory's, apart from the code's cells, and has the store's word
pub record HasCell (s : Spot) (a word : ℕ) : Type 0 where
  pub there : has_word a ≡ true
  pub apart : is_cell a ≡ false
  pub holds : s.store a ≡ word
  pub fits : word < 2 ^ 32

-- an array counts from a register that no expression changes, and has its number of words
pub record HasArray (l : Layout) (s : Spot) (store : Store) (array : ℕ) : Type 0 where
  pub base : IsKept (base_at l array)
  pub from : s.regs (base_at l array) ≡ from_at l array
  pub rooms : length (words_of store array) ≡ room_at l array
  pub cells : (i : ℕ) → i < room_at l array → HasCell s (place_address l array i) (word_at store (place array i))

-- a pointer's cells have where it points: its address and the room from there on, or room 0
abbrev pub Points : Layout → (cell : ℕ) → Option Place → (ℕ → ℕ) → Type 0
Points l cell None memory = memory (1048576 + (cell + 1)) ≡ 0
Points l cell (Some at) memory =
    (memory (1048576 + cell) ≡ place_address l at.array at.index) × (memory (1048576 + (cell + 1)) ≡ room_at l at.array - at.index) × (at.index < room_at l at.array)

-- the fixed registers, each array, and each of so many pointers, of which there is room for 256
pub record Related (l : Layout) (count : ℕ) (s : Spot) (store : Store) : Type 0 where
  pub zero_is : s.regs 0 ≡ 0
  pub ram_is : s.regs 15 ≡ 1048576
  pub few : count ≤ 256
  pub many : count ≤ length store.pointers
  pub arrays : (array : ℕ) → HasArray l s store array
  pub pointers : (pointer : ℕ) → pointer < count → Points l (pointer_at pointer) (pointed store pointer) s.store

-- no two places have one address
abbrev pub IsApart : Layout → Type 0
IsApart l = (a b i j : ℕ) → i < room_at l a → j < room_at l b → place_address l a i ≡ place_address l b j → (a ≡ b) × (i ≡ j)
