-- Which program a text is, and which refusal is right where it is none.
use Rattle.std.specs.Prelude.{◌≡◌, ◌⊎◌, List, ℕ, Bool, true, false, ◌∷◌, ◌++◌, Option, Some, None, Result, Ok, Err}
use Rattle.std.specs.List.{AllByRecursion}
use Rattle.ease_base.specs.declared.place.Pos.{Pos}
use Rattle.task_ast.specs.declared.tree.Program.{Program}
use Rattle.task_tokens.specs.declared.token.Token.{Token}
use Rattle.task_tokens.specs.declared.token.Lexeme.{Lexeme}
use Rattle.task_tokens.specs.declared.token.Lexeme.TheVariants.{TooWide}
use Rattle.task_text.specs.declared.error.TextError.{TextError}
use Rattle.task_text.specs.declared.error.TextError.TheVariants.{Syntax, NumberTooWide, NoMemory}
use Rattle.task_tokens.specs.Division.{Piece, Divides, BreaksAt, start, tokens_of, end_of}
use Rattle.task_tokens.specs.Fair.{IsNarrow}
use Rattle.task_text.specs.Grammar.{IsProgram}

-- the text divides into tokens, none too wide, and they are this program
pub record Reads (text : List ℕ) (p : Program) : Type 0 where
  pub pieces : List Piece
  pub divides : Divides text pieces
  pub narrow : AllByRecursion IsNarrow (tokens_of start pieces)
  pub program : IsProgram p (tokens_of start pieces)

abbrev pub is_too_wide : Lexeme → Bool
is_too_wide TooWide = true
is_too_wide _ = false

-- the first number that is too wide stands at this place
pub record IsFirstTooWide (tokens : List Token) (at : Pos) : Type 0 where
  pub front : List Token
  pub token : Token
  pub back : List Token
  pub whole : tokens ≡ front ++ token ∷ back
  pub narrow : AllByRecursion IsNarrow front
  pub wide : token.lexeme ≡ TooWide
  pub place : token.at ≡ at

-- the text divides, and a number is too wide; the first stands at this place
pub record IsTooWideAt (text : List ℕ) (at : Pos) : Type 0 where
  pub pieces : List Piece
  pub divides : Divides text pieces
  pub first : IsFirstTooWide (tokens_of start pieces) at

-- the place of one of the tokens, or of the end
abbrev pub IsPlaceAmong : List Token → Pos → Pos → Type 0
IsPlaceAmong tokens end at = ((front back : List Token) × (t : Token) × (tokens ≡ front ++ t ∷ back) × (t.at ≡ at)) ⊎ (end ≡ at)

-- the text divides, no number is too wide, and no program has the tokens; the place is a token's or the end
pub record HasNoTree (text : List ℕ) (at : Pos) : Type 0 where
  pub pieces : List Piece
  pub divides : Divides text pieces
  pub narrow : AllByRecursion IsNarrow (tokens_of start pieces)
  pub none : (p : Program) → IsProgram p (tokens_of start pieces) → ⊥
  pub place : IsPlaceAmong (tokens_of start pieces) (end_of start pieces) at

-- This refusal is right for the text.
abbrev pub Refuses : List ℕ → TextError → Type 0
Refuses text (Syntax at) = BreaksAt text at ⊎ HasNoTree text at
Refuses text (NumberTooWide at) = IsTooWideAt text at
Refuses text NoMemory = ⊥

-- the refusal is right, or memory ran out
abbrev pub IsCause : List ℕ → TextError → Type 0
IsCause text NoMemory = Unit {0}
IsCause text (Syntax at) = Refuses text (Syntax at)
IsCause text (NumberTooWide at) = Refuses text (NumberTooWide at)

-- the result is this answer, unless memory ran out
abbrev pub Answers : Result Program TextError → Result Program TextError → Type 0
Answers (Err NoMemory) answer = Unit {0}
Answers (Err (Syntax at)) answer = Err (Syntax at) ≡ answer
Answers (Err (NumberTooWide at)) answer = Err (NumberTooWide at) ≡ answer
Answers (Ok p) answer = Ok p ≡ answer

-- the tokens are a program, or the place is one where reading breaks off
abbrev pub IsReading : List Token → Pos → Result Program TextError → Type 0
IsReading tokens end (Ok p) = IsProgram p tokens
IsReading tokens end (Err (Syntax at)) = ((p : Program) → IsProgram p tokens → ⊥) × IsPlaceAmong tokens end at
IsReading tokens end (Err (NumberTooWide at)) = ⊥
IsReading tokens end (Err NoMemory) = Unit {0}

-- the first number that is too wide, or none is
abbrev pub IsFirstWide : List Token → Option Pos → Type 0
IsFirstWide tokens None = AllByRecursion IsNarrow tokens
IsFirstWide tokens (Some at) = IsFirstTooWide tokens at

-- the result is a program that the text is, or the right refusal, or memory ran out
abbrev pub IsResult : List ℕ → Result Program TextError → Type 0
IsResult text (Ok p) = Reads text p
IsResult text (Err e) = IsCause text e
