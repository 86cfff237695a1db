-- How tokens are spelled: names, numbers, reserved words and signs (docs/LANGUAGE.md, "Tokens").
use Rattle.std.specs.Prelude.{◌≡◌, ◌≢◌, ℕ, ◌+◌, ◌-◌, ◌*◌, ◌^◌, ◌<◌, ◌≤◌, Bool, false, not, ◌&&◌, ◌||◌, if◌then◌else◌, ◌==◌, nat_le, IsTrue, List, [], ◌∷◌, fold, Option, Some, None, codes}
use Rattle.std.specs.Char.{is_ascii_digit, is_ascii_hexdigit}
use Rattle.std.specs.List.{list_all}
use Rattle.task_ast.specs.NameToken.{is_name, is_word_byte}
use Rattle.task_tokens.specs.declared.token.Keyword.{Keyword}
use Rattle.task_tokens.specs.declared.token.Keyword.TheVariants as keyword
use Rattle.task_tokens.specs.declared.token.Sign.{Sign}
use Rattle.task_tokens.specs.declared.token.Sign.TheVariants as sign
use Rattle.task_tokens.specs.declared.token.Lexeme.{Lexeme}
use Rattle.task_tokens.specs.declared.token.Lexeme.TheVariants.{Name, Number, TooWide, Reserved, Symbol}

-- the reserved words
abbrev pub letters : Keyword → List ℕ
letters keyword.Nv = codes "nv"
letters keyword.Const = codes "const"
letters keyword.Word = codes "word"
letters keyword.Peripheral = codes "peripheral"
letters keyword.Task = codes "task"
letters keyword.If = codes "if"
letters keyword.Else = codes "else"
letters keyword.For = codes "for"
letters keyword.Io = codes "IO"
letters keyword.IoBlock = codes "IO_BLOCK"
letters keyword.Dma = codes "DMA"
letters keyword.Next = codes "NEXT"
letters keyword.Stop = codes "STOP"
letters keyword.Single = codes "SINGLE"
letters keyword.Timely = codes "TIMELY"
letters keyword.Always = codes "ALWAYS"

-- the signs
abbrev pub marks : Sign → List ℕ
marks sign.BraceOpen = codes "{"
marks sign.BraceClose = codes "}"
marks sign.ParenOpen = codes "("
marks sign.ParenClose = codes ")"
marks sign.BracketOpen = codes "["
marks sign.BracketClose = codes "]"
marks sign.Semicolon = codes ";"
marks sign.Comma = codes ","
marks sign.Equal = codes "="
marks sign.Ampersand = codes "&"
marks sign.Bar = codes "|"
marks sign.Caret = codes "^"
marks sign.Tilde = codes "~"
marks sign.Bang = codes "!"
marks sign.Plus = codes "+"
marks sign.Minus = codes "-"
marks sign.Star = codes "*"
marks sign.Slash = codes "/"
marks sign.Percent = codes "%"
marks sign.Less = codes "<"
marks sign.Greater = codes ">"
marks sign.EqualEqual = codes "=="
marks sign.BangEqual = codes "!="
marks sign.LessEqual = codes "<="
marks sign.GreaterEqual = codes ">="
marks sign.LessLess = codes "<<"
marks sign.GreaterGreater = codes ">>"
marks sign.AmpersandAmpersand = codes "&&"
marks sign.BarBar = codes "||"
marks sign.PlusPlus = codes "++"

-- the bytes that make a sign longer, or a `/` a comment
abbrev pub longer : Sign → List ℕ
longer sign.Equal = codes "="
longer sign.Ampersand = codes "&"
longer sign.Bar = codes "|"
longer sign.Bang = codes "="
longer sign.Plus = codes "+"
longer sign.Slash = codes "/*"
longer sign.Less = codes "<="
longer sign.Greater = codes ">="
longer _ = []

-- digits without a leading zero, or 0 alone
abbrev pub is_decimal : List ℕ → Bool
is_decimal [] = false
is_decimal (b ∷ []) = is_ascii_digit b
is_decimal (b ∷ c ∷ bs) = not (b == 48) && list_all is_ascii_digit (b ∷ c ∷ bs)

-- `0x` and one or more hexadecimal digits
abbrev pub is_hexadecimal : List ℕ → Bool
is_hexadecimal (a ∷ x ∷ b ∷ bs) = a == 48 && x == 120 && list_all is_ascii_hexdigit (b ∷ bs)
is_hexadecimal _ = false

-- the value of a digit, decimal or hexadecimal
abbrev pub digit_value : ℕ → ℕ
digit_value b = if nat_le b 57 then b - 48 else (if nat_le b 70 then b - 55 else b - 87)

-- the value of digits, the highest first
abbrev pub value : ℕ → List ℕ → ℕ
value base digits = fold (λ n b. base * n + digit_value b) 0 digits

abbrev pub behind_two : List ℕ → List ℕ
behind_two (a ∷ b ∷ bs) = bs
behind_two _ = []

-- the number that the bytes spell
abbrev pub numeral : List ℕ → Option ℕ
numeral bytes = if is_decimal bytes then Some (value 10 bytes) else (if is_hexadecimal bytes then Some (value 16 (behind_two bytes)) else None)

-- the bytes are this token
abbrev pub Spells : List ℕ → Lexeme → Type 0
Spells bytes (Name text) = (text ≡ bytes) × IsTrue (is_name bytes) × ((k : Keyword) → bytes ≢ letters k)
Spells bytes (Number n) = (numeral bytes ≡ Some n) × (n < 2 ^ 32)
Spells bytes TooWide = (n : ℕ) × (numeral bytes ≡ Some n) × (2 ^ 32 ≤ n)
Spells bytes (Reserved k) = bytes ≡ letters k
Spells bytes (Symbol s) = bytes ≡ marks s

abbrev pub is_among : List ℕ → ℕ → Bool
is_among [] b = false
is_among (c ∷ cs) b = c == b || is_among cs b

-- Behind the token at once this byte may not stand: it would make the token longer, or spoil it.
abbrev pub is_barred : Lexeme → ℕ → Bool
is_barred (Symbol s) b = is_among (longer s) b
is_barred _ b = is_word_byte b

-- the token may stand before these bytes
abbrev pub MayStandBefore : List ℕ → Lexeme → Type 0
MayStandBefore [] lexeme = Unit {0}
MayStandBefore (b ∷ bs) lexeme = is_barred lexeme b ≡ false
