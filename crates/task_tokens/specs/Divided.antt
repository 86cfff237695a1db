-- What the division of a text gives.
use Rattle.std.specs.Prelude.{◌≡◌, ℕ, List}
use Rattle.task_tokens.specs.declared.dividing.Divided.{Divided}
use Rattle.task_tokens.specs.declared.dividing.DivideError.{DivideError}
use Rattle.task_tokens.specs.declared.dividing.DivideError.TheVariants.{Stuck, NoMemory}
use Rattle.task_tokens.specs.Division.{Piece, Divides, tokens_of, end_of, start, BreaksAt}

-- the tokens and the end of the text
pub record IsDivided (text : List ℕ) (d : Divided) : Type 0 where
  pub pieces : List Piece
  pub divides : Divides text pieces
  pub tokens : d.tokens ≡ tokens_of start pieces
  pub end : d.end ≡ end_of start pieces

-- why the text isn't divided
abbrev pub IsBreak : List ℕ → DivideError → Type 0
IsBreak text (Stuck at) = BreaksAt text at
IsBreak text NoMemory = Unit {0}
