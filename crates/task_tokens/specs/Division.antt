-- The division of a text into tokens, and the white space and comments between them (docs/LANGUAGE.md, "Tokens").
use Rattle.std.specs.Prelude.{◌≡◌, ◌≢◌, ℕ, ◌+◌, ◌<◌, Bool, false, not, ◌&&◌, ◌||◌, if◌then◌else◌, ◌==◌, IsTrue, ◌⊎◌, List, [], ◌∷◌, ◌++◌, fold, Option, Some, None, codes}
use Rattle.std.specs.List.{list_all}
use Rattle.ease_base.specs.declared.place.Pos.{Pos}
use Rattle.task_tokens.specs.declared.token.Lexeme.{Lexeme}
use Rattle.task_tokens.specs.declared.token.Token.{Token}
use Rattle.task_tokens.specs.Spelling.{Spells, MayStandBefore}

-- some bytes of a text, and the token that they are; None is white space or a comment
pub record Piece : Type 0 where
  pub bytes : List ℕ
  pub lexeme : Option Lexeme

-- space, tab, line feed, carriage return
abbrev pub is_white : ℕ → Bool
is_white b = b == 32 || b == 9 || b == 10 || b == 13

-- a line feed, or the end
abbrev pub IsLineEnd : List ℕ → Type 0
IsLineEnd [] = Unit {0}
IsLineEnd (b ∷ bs) = b ≡ 10

-- `//` up to a line feed or the end
abbrev pub IsLineComment : List ℕ → List ℕ → Type 0
IsLineComment bytes rest = (body : List ℕ) × (bytes ≡ codes "//" ++ body) × IsTrue (list_all (λ b. not (b == 10)) body) × IsLineEnd rest

-- a `*/` stands somewhere in the bytes
abbrev pub has_end : List ℕ → Bool
has_end (b ∷ c ∷ bs) = (b == 42 && c == 47) || has_end (c ∷ bs)
has_end _ = false

-- `/*` up to the next `*/` behind it
abbrev pub IsBlockComment : List ℕ → Type 0
IsBlockComment bytes = (body : List ℕ) × (bytes ≡ codes "/*" ++ body ++ codes "*/") × (has_end body ≡ false)

-- one byte of white space
abbrev pub IsWhite : List ℕ → Type 0
IsWhite bytes = (b : ℕ) × (bytes ≡ b ∷ []) × IsTrue (is_white b)

-- These bytes before that rest are white space, a comment, or the token.
abbrev pub Fits : List ℕ → List ℕ → Option Lexeme → Type 0
Fits bytes rest None = IsWhite bytes ⊎ (IsLineComment bytes rest ⊎ IsBlockComment bytes)
Fits bytes rest (Some lexeme) = Spells bytes lexeme × MayStandBefore rest lexeme

-- the bytes of the pieces, and then the rest
abbrev pub joined : List Piece → List ℕ → List ℕ
joined [] rest = rest
joined (p ∷ ps) rest = p.bytes ++ joined ps rest

-- each piece fits before what follows it
abbrev pub ArePieces : List Piece → List ℕ → Type 0
ArePieces [] rest = Unit {0}
ArePieces (p ∷ ps) rest = Fits p.bytes (joined ps rest) p.lexeme × ArePieces ps rest

-- the text is these pieces, and then a rest
pub record BeginsWith (text : List ℕ) (pieces : List Piece) (rest : List ℕ) : Type 0 where
  pub whole : text ≡ joined pieces rest
  pub each : ArePieces pieces rest

-- the whole text is these pieces
abbrev pub Divides : List ℕ → List Piece → Type 0
Divides text pieces = BeginsWith text pieces []

-- there are bytes, and no piece begins here
pub record IsStuck (rest : List ℕ) : Type 0 where
  pub some : rest ≢ []
  pub none : (bytes more : List ℕ) (lexeme : Option Lexeme) → rest ≡ bytes ++ more → Fits bytes more lexeme → ⊥

-- the place of a text's first byte
abbrev pub start : Pos
start = record { line = 1; column = 1 }

-- lines and columns are from 1
abbrev pub IsPlace : Pos → Type 0
IsPlace at = (0 < at.line) × (0 < at.column)

-- the place behind a byte; only a line feed ends a line
abbrev pub next_place : Pos → ℕ → Pos
next_place at b = if b == 10 then record { line = at.line + 1; column = 1 } else record { line = at.line; column = at.column + 1 }

-- the place behind some bytes
abbrev pub behind : Pos → List ℕ → Pos
behind at bytes = fold next_place at bytes

-- the place behind the pieces
abbrev pub end_of : Pos → List Piece → Pos
end_of at [] = at
end_of at (p ∷ ps) = end_of (behind at p.bytes) ps

abbrev pub with_token : Option Lexeme → Pos → List Token → List Token
with_token None at tokens = tokens
with_token (Some lexeme) at tokens = record { lexeme = lexeme; at = at } ∷ tokens

-- the tokens of pieces that begin at a place
abbrev pub tokens_of : Pos → List Piece → List Token
tokens_of at [] = []
tokens_of at (p ∷ ps) = with_token p.lexeme at (tokens_of (behind at p.bytes) ps)

-- The text can't be divided: behind some pieces, at this place, none begins.
pub record BreaksAt (text : List ℕ) (at : Pos) : Type 0 where
  pub pieces : List Piece
  pub rest : List ℕ
  pub begins : BeginsWith text pieces rest
  pub stuck : IsStuck rest
  pub place : at ≡ end_of start pieces
