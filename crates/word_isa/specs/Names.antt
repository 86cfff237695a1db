-- Which bytes may name a symbol or a peripheral (docs/LANGUAGE.md, "Tokens", says what a name is).
use Rattle.std.specs.Prelude.{ℕ, ◌≤◌, Bool, not, ◌&&◌, nat_le, List, length}
use Rattle.std.specs.Option.{is_some}
use Rattle.std.specs.Str.{bytes_eq}
use Rattle.op_table.specs.Places.{place_of}
use Rattle.op_table.specs.Reserved.{reserved_words}
use Rattle.task_ast.specs.NameToken.{is_name, IsNameToken}

-- a letter or `_`, then letters, digits and `_`, as the names of a program
unfoldable pub is_name_token : List ℕ → Bool
is_name_token name = is_name name

-- one of the language's reserved words
unfoldable pub is_reserved : List ℕ → Bool
is_reserved name = is_some (place_of bytes_eq name reserved_words)

-- a name of 1 to 32 bytes that is no reserved word, as a test
unfoldable pub is_symbol_name : List ℕ → Bool
is_symbol_name name = is_name_token name && nat_le (length name) 32 && not (is_reserved name)

-- and as facts: a name of the language, and how long it is
pub record IsSymbolName (name : List ℕ) : Type 0 where
  pub token : IsNameToken name
  pub short : length name ≤ 32
