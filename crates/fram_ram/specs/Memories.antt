-- Memories as one function from addresses to words; FRAM and RAM differ in a failure alone (docs/MACHINE.md, "Memories").
use Rattle.std.specs.Prelude.{ℕ, ◌-◌, Bool, ◌&&◌, ◌||◌, List, ◌==◌, nat_lt, nat_le, slice_index, if◌then◌else◌}

-- the words of FRAM from address 0 on, and those of RAM from address 1048576 on
pub record Contents : Type 0 where
  pub fram : List ℕ
  pub ram : List ℕ

-- FRAM has the addresses 0 to 65535
abbrev pub is_fram : ℕ → Bool
is_fram at = nat_lt at 65536

-- RAM has the addresses 1048576 to 1052671
abbrev pub is_ram : ℕ → Bool
is_ram at = nat_le 1048576 at && nat_lt at 1052672

-- whether a memory has the address
unfoldable pub has_word : ℕ → Bool
has_word at = is_fram at || is_ram at

-- the word at each address, and 0 where no memory has it
unfoldable pub words : Contents → ℕ → ℕ
words m at = if is_fram at then slice_index m.fram at else if is_ram at then slice_index m.ram (at - 1048576) else 0

-- the store in which one address has this word, and every other what it had
abbrev pub put : (ℕ → ℕ) → ℕ → ℕ → ℕ → ℕ
put store at word = λ other. if at == other then word else store other

-- the store after a power failure: FRAM stays, all of RAM is the fill word
abbrev pub failed : (ℕ → ℕ) → ℕ → ℕ → ℕ
failed store fill = λ at. if is_fram at then store at else if is_ram at then fill else 0
