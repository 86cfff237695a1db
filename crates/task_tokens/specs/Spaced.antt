-- A text that is written from its tokens: one space between any two, and a line feed behind the last.
use Rattle.std.specs.Prelude.{◌≡◌, ℕ, List, [], ◌∷◌, ◌++◌, map, decimal}
use Rattle.std.specs.List.{AllByRecursion}
use Rattle.task_ast.specs.NameToken.{IsNameToken}
use Rattle.task_ast.specs.Readable.{IsWord}
use Rattle.task_tokens.specs.declared.token.Lexeme.{Lexeme}
use Rattle.task_tokens.specs.declared.token.Lexeme.TheVariants as lexeme
use Rattle.task_tokens.specs.declared.token.Token.{Token}
use Rattle.task_tokens.specs.Spelling.{letters, marks}
use Rattle.task_tokens.specs.Division.{Piece, Divides, start, tokens_of}
use Rattle.task_tokens.specs.Fair.{IsNarrow}

-- tokens without their places
abbrev pub lexemes : List Token → List Lexeme
lexemes tokens = map (λ t. t.lexeme) tokens

-- the bytes of a token: a number in decimal
abbrev pub spelling : Lexeme → List ℕ
spelling (lexeme.Name text) = text
spelling (lexeme.Number n) = decimal n
spelling lexeme.TooWide = []
spelling (lexeme.Reserved k) = letters k
spelling (lexeme.Symbol s) = marks s

-- tokens with a space behind each but the last, and a line feed behind that
abbrev pub spaced : List Lexeme → List ℕ
spaced [] = []
spaced (x ∷ []) = spelling x ++ 10 ∷ []
spaced (x ∷ y ∷ more) = spelling x ++ 32 ∷ spaced (y ∷ more)

-- a token that is spelled by those bytes
abbrev pub IsPrintable : Lexeme → Type 0
IsPrintable (lexeme.Name text) = IsNameToken text
IsPrintable (lexeme.Number n) = IsWord n
IsPrintable lexeme.TooWide = ⊥
IsPrintable (lexeme.Reserved k) = Unit {0}
IsPrintable (lexeme.Symbol s) = Unit {0}

-- such a text divides into those tokens, none of which is too wide
pub record DividesSo (xs : List Lexeme) : Type 0 where
  pub pieces : List Piece
  pub divides : Divides (spaced xs) pieces
  pub narrow : AllByRecursion IsNarrow (tokens_of start pieces)
  pub are : lexemes (tokens_of start pieces) ≡ xs
