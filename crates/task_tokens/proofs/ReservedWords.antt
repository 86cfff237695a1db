-- The words of the table of reserved words are the keywords' letters, and a name token of a text is one of a tree.
use Rattle.std.specs.Prelude.{◌≡◌, ℕ, zero, suc, List, [], ◌∷◌, map}
use Rattle.std.proofs.Common.{refl, sym, subst}
use Rattle.op_table.specs.Places.{IsAt}
use Rattle.op_table.specs.Reserved.{IsReserved, reserved_words}
use Rattle.task_ast.specs.NameToken.{IsNameToken}
use Rattle.task_tokens.specs.declared.token.Keyword.{Keyword}
use Rattle.task_tokens.specs.declared.token.Keyword.TheVariants as keyword
use Rattle.task_tokens.specs.declared.token.Lexeme.TheVariants as lexeme
use Rattle.task_tokens.specs.Spelling.{letters, Spells}

-- the keywords, in the order of the table
abbrev keywords : List Keyword
keywords =
    keyword.Nv ∷ keyword.Const ∷ keyword.Word ∷ keyword.Peripheral ∷ keyword.Task ∷ keyword.If ∷ keyword.Else ∷ keyword.For ∷ keyword.Io ∷ keyword.IoBlock ∷ keyword.Dma ∷ keyword.Next ∷ keyword.Stop ∷ keyword.Single ∷ keyword.Timely ∷ keyword.Always ∷ []

same-words : reserved_words ≡ map letters keywords
unfolding reserved_words
same-words = refl

keyword-at : (ks : List Keyword) (place : ℕ) (word : List ℕ) → IsAt (map letters ks) place word → (k : Keyword) × (word ≡ letters k)
keyword-at [] place word h = absurd (let k : ⊥ = cc in k)
keyword-at (k ∷ ks) zero word h = (k, let e : word ≡ letters k = cc in e)
keyword-at (k ∷ ks) (suc place) word h = keyword-at ks place word h

-- a reserved word of the table is a keyword's
pub reserved-keyword : (word : List ℕ) → IsReserved word → (k : Keyword) × (word ≡ letters k)
reserved-keyword word h = keyword-at keywords h.0 word (subst (λ words. IsAt words h.0 word) same-words h.1)

-- and each keyword's is one of the table
pub keyword-reserved : (k : Keyword) → IsReserved (letters k)
unfolding reserved_words
keyword-reserved keyword.Nv = (0, refl)
keyword-reserved keyword.Const = (1, refl)
keyword-reserved keyword.Word = (2, refl)
keyword-reserved keyword.Peripheral = (3, refl)
keyword-reserved keyword.Task = (4, refl)
keyword-reserved keyword.If = (5, refl)
keyword-reserved keyword.Else = (6, refl)
keyword-reserved keyword.For = (7, refl)
keyword-reserved keyword.Io = (8, refl)
keyword-reserved keyword.IoBlock = (9, refl)
keyword-reserved keyword.Dma = (10, refl)
keyword-reserved keyword.Next = (11, refl)
keyword-reserved keyword.Stop = (12, refl)
keyword-reserved keyword.Single = (13, refl)
keyword-reserved keyword.Timely = (14, refl)
keyword-reserved keyword.Always = (15, refl)

-- what spells a name is a name token
pub name-token : (bytes text : List ℕ) → Spells bytes (lexeme.Name text) → IsNameToken text
name-token bytes text h = subst IsNameToken (sym h.0) (h.1, λ r. let k = reserved-keyword bytes r in h.2 k.0 k.1)
