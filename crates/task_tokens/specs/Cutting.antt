-- How the piece at the front of a text is cut off: its length, and what it is.
use Rattle.std.specs.Prelude.{ℕ, ◌+◌, ◌^◌, Bool, not, ◌&&◌, if◌then◌else◌, ◌==◌, nat_lt, List, [], ◌∷◌, drop, find, length, Option, Some, None, codes}
use Rattle.std.specs.Char.{is_ascii_digit}
use Rattle.std.specs.Option.{option_map}
use Rattle.std.specs.List.{starts_with, take_while}
use Rattle.std.specs.Cmp.Lexicographic.{pointwise}
use Rattle.task_tokens.specs.declared.token.Keyword.{Keyword}
use Rattle.task_tokens.specs.declared.token.Sign.{Sign}
use Rattle.task_tokens.specs.declared.token.Lexeme.{Lexeme}
use Rattle.task_tokens.specs.declared.token.Lexeme.TheVariants.{Name, Number, TooWide, Reserved, Symbol}
use Rattle.task_tokens.specs.declared.cut.Cut.{Cut}
use Rattle.task_tokens.specs.declared.token.TheConstants.{KEYWORDS, SIGNS}
use Rattle.task_ast.specs.NameToken.{is_word_byte}
use Rattle.task_tokens.specs.Spelling.{letters, marks, numeral}
use Rattle.task_tokens.specs.Division.{is_white}

-- the reserved word with these letters
unfoldable pub keyword_of : List ℕ → Option Keyword
keyword_of word = find (λ k. pointwise ◌==◌ (letters k) word) KEYWORDS

-- the sign at the front; the signs of two bytes come first in the list
unfoldable pub sign_of : List ℕ → Option Sign
sign_of text = find (λ s. starts_with ◌==◌ text (marks s)) SIGNS

abbrev pub number_lexeme : ℕ → Lexeme
number_lexeme n = if nat_lt n (2 ^ 32) then Number n else TooWide

abbrev pub name_lexeme : List ℕ → Option Keyword → Lexeme
name_lexeme run None = Name run
name_lexeme run (Some k) = Reserved k

-- what a whole run of letters, digits and `_` is, which begins with that byte
unfoldable pub run_lexeme : ℕ → List ℕ → Option Lexeme
run_lexeme b run = if is_ascii_digit b then option_map number_lexeme (numeral run) else Some (name_lexeme run (keyword_of run))

abbrev pub blank : ℕ → Cut
blank n = record { len = n; lexeme = None }

abbrev pub token : ℕ → Lexeme → Cut
token n lexeme = record { len = n; lexeme = Some lexeme }

unfoldable pub run_cut : ℕ → List ℕ → Option Cut
run_cut b text = let run = take_while is_word_byte text in option_map (token (length run)) (run_lexeme b run)

-- the bytes are `*/`
abbrev pub ends_comment : ℕ → ℕ → Bool
ends_comment b c = b == 42 && c == 47

-- how far the first `*/` goes
abbrev pub end_len : List ℕ → Option ℕ
end_len (b ∷ c ∷ bs) = if ends_comment b c then Some 2 else option_map (λ n. n + 1) (end_len (c ∷ bs))
end_len _ = None

abbrev pub symbol_cut : Sign → Cut
symbol_cut s = token (length (marks s)) (Symbol s)

-- a comment or a sign
unfoldable pub mark_cut : List ℕ → Option Cut
mark_cut text =
    if starts_with ◌==◌ text (codes "//") then Some (blank (length (take_while (λ b. not (b == 10)) text)))
    else (if starts_with ◌==◌ text (codes "/*") then option_map (λ n. blank (n + 2)) (end_len (drop 2 text))
    else option_map symbol_cut (sign_of text))

-- the piece at the front
unfoldable pub first_cut : List ℕ → Option Cut
first_cut [] = None
first_cut (b ∷ bs) = if is_white b then Some (blank 1) else (if is_word_byte b then run_cut b (b ∷ bs) else mark_cut (b ∷ bs))
