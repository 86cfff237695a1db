-- The forms in which an instruction's operands stand in its word.
use Rattle.std.specs.Prelude.{ℕ, ◌+◌, ◌/◌, ◌<◌, ◌≤◌}
use Rattle.word_isa.specs.Fields.{word_of}

-- the operands, by the fields that hold them; those of IO and DMA are limited further
pub data Operands : Type 0 where
  op_none : Operands
  op_a : (a : ℕ) → Operands
  op_m : (m : ℕ) → Operands
  op_t : (t : ℕ) → Operands
  op_a_b : (a b : ℕ) → Operands
  op_a_m : (a m : ℕ) → Operands
  op_a_b_m : (a b m : ℕ) → Operands
  op_io : (a b m : ℕ) → Operands
  op_dma : (a b m : ℕ) → Operands

-- the word with this code and these operands, and 0 in the bits that they leave
abbrev pub packed : ℕ → Operands → ℕ
packed code op_none = word_of code 0 0 0
packed code (op_a a) = word_of code a 0 0
packed code (op_m m) = word_of code 0 0 m
packed code (op_t t) = word_of code 0 0 0 + t
packed code (op_a_b a b) = word_of code a b 0
packed code (op_a_m a m) = word_of code a 0 m
packed code (op_a_b_m a b m) = word_of code a b m
packed code (op_io a b m) = word_of code a b m
packed code (op_dma a b m) = word_of code a b m

-- each operand fits its field; a call has at most four arguments, in the registers from B on; M of a copy is a register
abbrev pub Fit : Operands → Type 0
Fit op_none = Unit {0}
Fit (op_a a) = a < 16
Fit (op_m m) = m < 65536
Fit (op_t t) = t < 16777216
Fit (op_a_b a b) = (a < 16) × (b < 16)
Fit (op_a_m a m) = (a < 16) × (m < 65536)
Fit (op_a_b_m a b m) = (a < 16) × (b < 16) × (m < 65536)
Fit (op_io a b m) = (a < 16) × (b < 16) × (m < 65536) × (m / 256 ≤ 4) × (b + m / 256 ≤ 16)
Fit (op_dma a b m) = (a < 16) × (b < 16) × (m < 16)
