-- How a word of code is listed.
use Rattle.std.specs.Prelude.{ℕ, List, [], ◌∷◌, ◌++◌, Option, Some, None, map, codes, decimal, slice_index_or}
use Rattle.std.specs.List.{flat_map}
use Rattle.op_table.specs.Table.{Entry}
use Rattle.word_isa.specs.Operands.{Operands, op_none, op_a, op_m, op_t, op_a_b, op_a_m, op_a_b_m, op_io, op_dma}
use Rattle.word_isa.specs.Instructions.{row_of}
use Rattle.word_isa.specs.Decoding.{rows_with, decoded}
use Rattle.word_isa.specs.declared.fields.Fields.{Fields}
use Rattle.word_isa.specs.declared.instr.Instr.{Instr}
use Rattle.word_isa.specs.declared.listing.Operand.{Operand}
use Rattle.word_isa.specs.declared.listing.Operand.TheVariants.{Register, Number}

-- a register as r and its number, or a number, behind a space
abbrev pub operand_text : Operand → List ℕ
operand_text (Register number) = codes " r" ++ decimal number
operand_text (Number number) = codes " " ++ decimal number

abbrev pub operands_text : List Operand → List ℕ
operands_text operands = flat_map operand_text operands

-- the operands as they are listed; the length of a copy is a register
abbrev pub listed : Operands → List Operand
listed op_none = []
listed (op_a a) = Register a ∷ []
listed (op_m m) = Number m ∷ []
listed (op_t t) = Number t ∷ []
listed (op_a_b a b) = Register a ∷ Register b ∷ []
listed (op_a_m a m) = Register a ∷ Number m ∷ []
listed (op_a_b_m a b m) = Register a ∷ Register b ∷ Number m ∷ []
listed (op_io a b m) = Register a ∷ Register b ∷ Number m ∷ []
listed (op_dma a b m) = Register a ∷ Register b ∷ Register m ∷ []

-- the name and the operands of an instruction
abbrev pub instr_text : Instr → List ℕ
instr_text i = (row_of i).name ++ operands_text (listed (row_of i).operands)

-- an instruction, or 63, the question mark, where there is none
abbrev pub text_or_mark : Option Instr → List ℕ
text_or_mark None = 63 ∷ []
text_or_mark (Some i) = instr_text i

-- the listing of a word
unfoldable pub word_text : ℕ → List ℕ
word_text word = text_or_mark (decoded word)

-- the number of a form in the table by which names are found
abbrev pub form_of : Operands → ℕ
form_of op_none = 0
form_of (op_a _) = 1
form_of (op_m _) = 2
form_of (op_t _) = 3
form_of (op_a_b _ _) = 4
form_of (op_a_m _ _) = 5
form_of (op_a_b_m _ _ _) = 6
form_of (op_io _ _ _) = 6
form_of (op_dma _ _ _) = 7

-- the operands of a form, of a word with these fields
abbrev pub form_operands : ℕ → Fields → List Operand
form_operands form f =
    let a = Register f.a in
    let b = Register f.b in
    slice_index_or ([] ∷ (a ∷ []) ∷ (Number f.m ∷ []) ∷ (Number f.t ∷ []) ∷ (a ∷ b ∷ []) ∷ (a ∷ Number f.m ∷ []) ∷ (a ∷ b ∷ Number f.m ∷ []) ∷ (a ∷ b ∷ Register f.m ∷ []) ∷ []) form []

-- the code, the name and the form of an instruction's row
abbrev pub table_entry : Instr → Entry
table_entry i = record { code = (row_of i).code; name = (row_of i).name; form = form_of (row_of i).operands }

-- the rows of the table, whose codes are those of the instructions' words
unfoldable pub instruction_table : List Entry
instruction_table = map table_entry (rows_with 0 0 0 0)

-- what is written for an entry and fields
abbrev pub entry_text : Option Entry → Fields → List ℕ
entry_text None f = []
entry_text (Some entry) f = entry.name ++ operands_text (form_operands entry.form f)
