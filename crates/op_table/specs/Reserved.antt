-- The reserved words of the language (docs/LANGUAGE.md).
use Rattle.std.specs.Prelude.{ℕ, List, [], ◌∷◌, codes}
use Rattle.op_table.specs.Places.{IsAt}

-- the words that are no names
unfoldable pub reserved_words : List (List ℕ)
reserved_words =
    codes "nv" ∷ codes "const" ∷ codes "word" ∷ codes "peripheral" ∷ codes "task" ∷ codes "if" ∷ codes "else" ∷ codes "for" ∷ codes "IO" ∷ codes "IO_BLOCK" ∷ codes "DMA" ∷ codes "NEXT" ∷ codes "STOP" ∷ codes "SINGLE" ∷ codes "TIMELY" ∷ codes "ALWAYS" ∷ []

-- these bytes are one of them
abbrev pub IsReserved : List ℕ → Type 0
IsReserved name = (place : ℕ) × IsAt reserved_words place name
