-- What the tokens of every text meet.
use Rattle.std.specs.Prelude.{◌≢◌}
use Rattle.task_ast.specs.NameToken.{IsNameToken}
use Rattle.task_ast.specs.Readable.{IsWord}
use Rattle.task_tokens.specs.declared.token.Lexeme.{Lexeme}
use Rattle.task_tokens.specs.declared.token.Lexeme.TheVariants as lexeme
use Rattle.task_tokens.specs.declared.token.Token.{Token}

-- a name is a name token, and a number fits a word
abbrev pub IsFairLexeme : Lexeme → Type 0
IsFairLexeme (lexeme.Name text) = IsNameToken text
IsFairLexeme (lexeme.Number n) = IsWord n
IsFairLexeme lexeme.TooWide = Unit {0}
IsFairLexeme (lexeme.Reserved k) = Unit {0}
IsFairLexeme (lexeme.Symbol s) = Unit {0}

abbrev pub IsFair : Token → Type 0
IsFair t = IsFairLexeme t.lexeme

-- the number, if it is one, fits a word
abbrev pub IsNarrow : Token → Type 0
IsNarrow t = t.lexeme ≢ lexeme.TooWide
