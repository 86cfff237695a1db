-- How trees are read off the tokens: each reading gives a value and the tokens behind it, or the tokens where it breaks off. Here are the readings of one token.
use Rattle.std.specs.Prelude.{◌≡◌, ℕ, zero, suc, ◌==◌, bytes_eq, Bool, true, false, if◌then◌else◌, List, [], ◌∷◌, length, Option, Some, None, Result, Ok, Err}
use denote.Enum.Bare.{sameb}
use Rattle.ease_base.specs.declared.place.Pos.{Pos}
use Rattle.task_ast.specs.declared.tree.Name.{Name}
use Rattle.task_tokens.specs.declared.token.Keyword.{Keyword}
use Rattle.task_tokens.specs.declared.token.Keyword.TheVariants as keyword
use Rattle.task_tokens.specs.contracts.token.Keyword.{the_type as keywords}
use Rattle.task_tokens.specs.declared.token.Sign.{Sign}
use Rattle.task_tokens.specs.contracts.token.Sign.{the_type as signs}
use Rattle.task_tokens.specs.declared.token.Lexeme.{Lexeme}
use Rattle.task_tokens.specs.declared.token.Lexeme.TheVariants as lexeme
use Rattle.task_tokens.specs.declared.token.Token.{Token}
use Rattle.task_text.specs.declared.error.ReadError.{ReadError}
use Rattle.task_text.specs.declared.error.ReadError.TheVariants.{Syntax, NoMemory}
use Rattle.task_text.specs.declared.cursor.Numeral.{Numeral}
use Rattle.task_text.specs.declared.cursor.Opening.{Opening}
use Rattle.task_text.specs.declared.cursor.Opening.TheVariants as opening

-- what is read, and the tokens behind it
pub record Found (T : Type 0) : Type 0 where
  pub value : T
  pub rest : List Token

-- an Err has the tokens from the one on that doesn't fit
abbrev pub Outcome : Type 0 → Type 0
Outcome T = Result (Found T) (List Token)

abbrev pub found : {T : Type 0} → T → List Token → Outcome T
found x rest = Ok (record { value = x; rest = rest })

infixl 10 ◌>>=◌
abbrev pub ◌>>=◌ : {A B : Type 0} → Outcome A → (Found A → Outcome B) → Outcome B
(Ok x) >>= f = f x
(Err left) >>= f = Err left

-- a reading of tokens
abbrev pub Reader : Type 0 → Type 0
Reader T = List Token → Outcome T

-- a reading, and then what its value asks for
abbrev pub chain : {A B : Type 0} → Reader A → (A → Reader B) → Reader B
chain read next ts = read ts >>= λ x. next x.value x.rest

-- a reading whose value doesn't matter, and then another
infixr 30 ◌▹◌
abbrev pub ◌▹◌ : {A B : Type 0} → Reader A → Reader B → Reader B
read ▹ next = chain read (λ _. next)

-- the value, and no token
abbrev pub done : {T : Type 0} → T → Reader T
done x ts = found x ts

-- The cursor's method did this reading, unless memory ran out.
abbrev pub Gives : {T : Type 0} → Outcome T → Result T ReadError → List Token → Type 0
Gives read (Ok x) left = read ≡ found x left
Gives read (Err Syntax) left = read ≡ Err left
Gives read (Err NoMemory) left = Unit {0}

-- ---- tokens

abbrev pub is_empty : {T : Type 0} → List T → Bool
is_empty xs = length xs == 0

abbrev pub is_symbol : Sign → Lexeme → Bool
is_symbol s (lexeme.Symbol r) = sameb signs r s
is_symbol s _ = false

abbrev pub is_reserved : Keyword → Lexeme → Bool
is_reserved k (lexeme.Reserved r) = sameb keywords r k
is_reserved k _ = false

abbrev pub is_name : Lexeme → Bool
is_name (lexeme.Name x) = true
is_name _ = false

abbrev pub begins_sign : Sign → List Token → Bool
begins_sign s [] = false
begins_sign s (t ∷ ts) = is_symbol s t.lexeme

abbrev pub begins_reserved : Keyword → List Token → Bool
begins_reserved k [] = false
begins_reserved k (t ∷ ts) = is_reserved k t.lexeme

abbrev pub begins_name : List Token → Bool
begins_name [] = false
begins_name (t ∷ ts) = is_name t.lexeme

-- the words that a declaration begins with
abbrev pub is_declaring : Lexeme → Bool
is_declaring (lexeme.Reserved keyword.Const) = true
is_declaring (lexeme.Reserved keyword.Nv) = true
is_declaring (lexeme.Reserved keyword.Word) = true
is_declaring (lexeme.Reserved keyword.Peripheral) = true
is_declaring _ = false

abbrev pub begins_decl : List Token → Bool
begins_decl [] = false
begins_decl (t ∷ ts) = is_declaring t.lexeme

-- what a token begins in a task: a statement of that kind, or none
abbrev pub opening_of : Lexeme → Opening
opening_of (lexeme.Name x) = opening.Assignment
opening_of (lexeme.Reserved keyword.Io) = opening.Call
opening_of (lexeme.Reserved keyword.Dma) = opening.Copy
opening_of (lexeme.Reserved keyword.IoBlock) = opening.Block
opening_of (lexeme.Reserved keyword.If) = opening.If
opening_of (lexeme.Reserved keyword.For) = opening.Loop
opening_of _ = opening.Nothing

abbrev pub next_opening : List Token → Opening
next_opening [] = opening.Nothing
next_opening (t ∷ ts) = opening_of t.lexeme

-- whether a statement begins so
abbrev pub is_acting : Opening → Bool
is_acting opening.Nothing = false
is_acting opening.Assignment = true
is_acting opening.Call = true
is_acting opening.Copy = true
is_acting opening.Block = true
is_acting opening.If = true
is_acting opening.Loop = true

abbrev pub begins_stmt : List Token → Bool
begins_stmt ts = is_acting (next_opening ts)

-- this name again, and the number 0
abbrev pub is_same : List ℕ → Lexeme → Bool
is_same text (lexeme.Name x) = bytes_eq x text
is_same text _ = false

abbrev pub begins_same : List ℕ → List Token → Bool
begins_same text [] = false
begins_same text (t ∷ ts) = is_same text t.lexeme

abbrev pub is_zero : Lexeme → Bool
is_zero (lexeme.Number n) = n == 0
is_zero _ = false

abbrev pub begins_zero : List Token → Bool
begins_zero [] = false
begins_zero (t ∷ ts) = is_zero t.lexeme

unfoldable pub any_at : List Token → Outcome Pos
any_at [] = Err []
any_at (t ∷ ts) = found t.at ts

unfoldable pub sign_at : Sign → List Token → Outcome Pos
sign_at s ts = if begins_sign s ts then any_at ts else Err ts

unfoldable pub reserved_at : Keyword → List Token → Outcome Pos
reserved_at k ts = if begins_reserved k ts then any_at ts else Err ts

abbrev pub name_of : Lexeme → Pos → Option Name
name_of (lexeme.Name x) at = Some (record { text = x; at = at })
name_of _ at = None

abbrev pub number_of : Lexeme → Pos → Option Numeral
number_of (lexeme.Number n) at = Some (record { value = n; at = at })
number_of _ at = None

-- the token, if it was of use
abbrev pub taken : {T : Type 0} → Option T → Token → List Token → Outcome T
taken None t ts = Err (t ∷ ts)
taken (Some x) t ts = found x ts

unfoldable pub name_at : List Token → Outcome Name
name_at [] = Err []
name_at (t ∷ ts) = taken (name_of t.lexeme t.at) t ts

unfoldable pub number_at : List Token → Outcome Numeral
number_at [] = Err []
number_at (t ∷ ts) = taken (number_of t.lexeme t.at) t ts

unfoldable pub same_at : List ℕ → List Token → Outcome Pos
same_at text ts = if begins_same text ts then any_at ts else Err ts

unfoldable pub zero_at : List Token → Outcome Pos
zero_at ts = if begins_zero ts then any_at ts else Err ts

-- what stands between two signs
unfoldable pub between : {T : Type 0} → Sign → Sign → (List Token → Outcome T) → List Token → Outcome T
between first last inner ts = do
  a ← sign_at first ts
  x ← inner a.rest
  b ← sign_at last x.rest
  found x.value b.rest

-- ---- items

-- as many items as there are while they begin so; an item takes a token at least, so the number is that of the tokens
unfoldable pub many : {T : Type 0} → ℕ → (List Token → Bool) → (List Token → Outcome T) → List Token → Outcome (List T)
many zero begins item ts = found [] ts
many (suc n) begins item ts =
    if begins ts then (item ts >>= λ x. many n begins item x.rest >>= λ xs. found (x.value ∷ xs.value) xs.rest) else found [] ts
