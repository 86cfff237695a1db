-- The instruction of a word as a function of its fields.
use Rattle.std.specs.Prelude.{ℕ, zero, suc, ◌+◌, ◌/◌, Bool, true, ◌&&◌, ◌==◌, nat_le, nat_lt, List, [], ◌∷◌, Option, Some, None, if◌then◌else◌, slice_get}
use Rattle.word_isa.specs.Fields.{code_field, a_field, b_field, m_field, t_field}
use Rattle.word_isa.specs.Operands.{Operands, op_none, op_a, op_m, op_t, op_a_b, op_a_m, op_a_b_m, op_io, op_dma}
use Rattle.word_isa.specs.Instructions.{row_of}
use Rattle.word_isa.specs.declared.instr.Instr.{Instr}
use Rattle.word_isa.specs.declared.instr.Instr.TheVariants.{Halt, Ldi, Lui, Mov, Add, Sub, Mul, Div, Rem, And, Or, Xor, Shl, Shr, Eq, Ltu, Adi, Ld, St, Jmp, Jz, Io, Time, Dma, Trap}

-- the instructions of all rows with these fields, by their codes from 1
abbrev pub rows_with : (a b m t : ℕ) → List Instr
rows_with a b m t =
    Halt ∷ Ldi a m ∷ Lui a m ∷ Mov a b ∷ Add a b ∷ Sub a b ∷ Mul a b ∷ Div a b ∷ Rem a b ∷ And a b ∷ Or a b ∷ Xor a b ∷ Shl a b ∷ Shr a b ∷ Eq a b ∷ Ltu a b ∷ Adi a m ∷ Ld a b m ∷ St a b m ∷ Jmp t ∷ Jz a m ∷ Io a b m ∷ Time a ∷ Dma a b m ∷ Trap m ∷ []

-- the bits that the form doesn't use are 0, and the limits of IO and DMA hold
abbrev pub rest_is_clear : Operands → (a b m : ℕ) → Bool
rest_is_clear op_none a b m = (a == 0) && (b == 0) && (m == 0)
rest_is_clear (op_a _) a b m = (b == 0) && (m == 0)
rest_is_clear (op_m _) a b m = (a == 0) && (b == 0)
rest_is_clear (op_t _) a b m = true
rest_is_clear (op_a_b _ _) a b m = m == 0
rest_is_clear (op_a_m _ _) a b m = b == 0
rest_is_clear (op_a_b_m _ _ _) a b m = true
rest_is_clear (op_io _ _ _) a b m = nat_le (m / 256) 4 && nat_le (b + m / 256) 16
rest_is_clear (op_dma _ _ _) a b m = nat_lt m 16

-- the instruction, where its form leaves these fields clear
abbrev pub if_clear : Option Instr → (a b m : ℕ) → Option Instr
if_clear None a b m = None
if_clear (Some i) a b m = if rest_is_clear (row_of i).operands a b m then Some i else None

-- the instruction with this code and these fields
abbrev pub instr_at : (code a b m t : ℕ) → Option Instr
instr_at zero a b m t = None
instr_at (suc n) a b m t = if_clear (slice_get (rows_with a b m t) n) a b m

-- the instruction of a word; HasRow says of which
unfoldable pub decoded : ℕ → Option Instr
decoded word = instr_at (code_field word) (a_field word) (b_field word) (m_field word) (t_field word)
