-- The machine's instruction table: each instruction's code, name and operands, and so its word.
use Rattle.std.specs.Prelude.{◌≡◌, ℕ, List, codes}
use Rattle.word_isa.specs.Operands.{Operands, op_none, op_a, op_m, op_t, op_a_b, op_a_m, op_a_b_m, op_io, op_dma, packed, Fit}
use Rattle.word_isa.specs.declared.instr.Instr.{Instr}
use Rattle.word_isa.specs.declared.instr.Instr.TheVariants.{Halt, Ldi, Lui, Mov, Add, Sub, Mul, Div, Rem, And, Or, Xor, Shl, Shr, Eq, Ltu, Adi, Ld, St, Jmp, Jz, Io, Time, Dma, Trap}

-- a row of the table, with an instruction's operands
pub record InstrRow : Type 0 where
  pub code : ℕ
  pub name : List ℕ
  pub operands : Operands

abbrev row : ℕ → List ℕ → Operands → InstrRow
row code name operands = record { code = code; name = name; operands = operands }

-- the row of an instruction
abbrev pub row_of : Instr → InstrRow
row_of Halt = row 1 (codes "HALT") op_none
row_of (Ldi a m) = row 2 (codes "LDI") (op_a_m a m)
row_of (Lui a m) = row 3 (codes "LUI") (op_a_m a m)
row_of (Mov a b) = row 4 (codes "MOV") (op_a_b a b)
row_of (Add a b) = row 5 (codes "ADD") (op_a_b a b)
row_of (Sub a b) = row 6 (codes "SUB") (op_a_b a b)
row_of (Mul a b) = row 7 (codes "MUL") (op_a_b a b)
row_of (Div a b) = row 8 (codes "DIV") (op_a_b a b)
row_of (Rem a b) = row 9 (codes "REM") (op_a_b a b)
row_of (And a b) = row 10 (codes "AND") (op_a_b a b)
row_of (Or a b) = row 11 (codes "OR") (op_a_b a b)
row_of (Xor a b) = row 12 (codes "XOR") (op_a_b a b)
row_of (Shl a b) = row 13 (codes "SHL") (op_a_b a b)
row_of (Shr a b) = row 14 (codes "SHR") (op_a_b a b)
row_of (Eq a b) = row 15 (codes "EQ") (op_a_b a b)
row_of (Ltu a b) = row 16 (codes "LTU") (op_a_b a b)
row_of (Adi a m) = row 17 (codes "ADI") (op_a_m a m)
row_of (Ld a b m) = row 18 (codes "LD") (op_a_b_m a b m)
row_of (St a b m) = row 19 (codes "ST") (op_a_b_m a b m)
row_of (Jmp t) = row 20 (codes "JMP") (op_t t)
row_of (Jz a m) = row 21 (codes "JZ") (op_a_m a m)
row_of (Io a b m) = row 22 (codes "IO") (op_io a b m)
row_of (Time a) = row 23 (codes "TIME") (op_a a)
row_of (Dma a b m) = row 24 (codes "DMA") (op_dma a b m)
row_of (Trap m) = row 25 (codes "TRAP") (op_m m)

-- the operands fit their fields
abbrev pub FitsFields : Instr → Type 0
FitsFields i = Fit (row_of i).operands

-- the word of an instruction
abbrev pub encoded : Instr → ℕ
encoded i = packed (row_of i).code (row_of i).operands

-- the word is the instruction's, whose operands fit: the instruction's row has the word
abbrev pub HasRow : ℕ → Instr → Type 0
HasRow word i = FitsFields i × (encoded i ≡ word)
