-- Numbers are runs of letters and digits that begin with a digit.
use Rattle.std.proofs.Common.{◌≡◌, ℕ, ◌<◌, ◌≤◌, ◌^◌, true, false, not, ◌&&◌, ◌==◌, ltb, List, [], ◌∷◌, Some, None, refl, sym, ◌∙◌, arith, ◌⊎◌, inl, inr}
use Rattle.std.proofs.lemmas.Bool.{and_parts, and_from, cond-true, cond-false, cases_Bool, false≢true, lt-ltb, le-ltb}
use Rattle.std.proofs.lemmas.Bool.Decides.{nat_tests}
use Rattle.std.proofs.lemmas.Option.{none-some}
use Rattle.std.specs.Char.{is_ascii_digit, is_ascii_hexdigit}
use Rattle.std.specs.List.{list_all}
use Rattle.task_tokens.specs.declared.token.Lexeme.TheVariants.{Number, TooWide}
use Rattle.task_ast.specs.NameToken.{is_word_byte}
use Rattle.task_tokens.specs.Spelling.{is_decimal, is_hexadecimal, numeral, value, behind_two}
use Rattle.task_tokens.specs.Cutting.{number_lexeme}
use Rattle.task_tokens.proofs.Bytes.{list_all-mono, digit-word, hex-word}

decimal-word : (bytes : List ℕ) → is_decimal bytes ≡ true → list_all is_word_byte bytes ≡ true
decimal-word [] h = refl
decimal-word (b ∷ []) h = and_from (is_word_byte b) true (digit-word b h) refl
decimal-word (b ∷ c ∷ bs) h = list_all-mono is_ascii_digit is_word_byte digit-word (b ∷ c ∷ bs) (and_parts (not (b == 48)) (list_all is_ascii_digit (b ∷ c ∷ bs)) h).1

decimal-first : (b : ℕ) (bs : List ℕ) → is_decimal (b ∷ bs) ≡ true → is_ascii_digit b ≡ true
decimal-first b [] h = h
decimal-first b (c ∷ bs) h = (and_parts (is_ascii_digit b) (list_all is_ascii_digit (c ∷ bs)) (and_parts (not (b == 48)) (list_all is_ascii_digit (b ∷ c ∷ bs)) h).1).0

zero-word : (a : ℕ) → (a == 48) ≡ true → (is_word_byte a ≡ true) × (is_ascii_digit a ≡ true)
zero-word a h = (grind (arith, nat_tests), grind (arith, nat_tests))

x-word : (a : ℕ) → (a == 120) ≡ true → is_word_byte a ≡ true
x-word a h = grind (arith, nat_tests)

hexadecimal-word : (bytes : List ℕ) → is_hexadecimal bytes ≡ true → list_all is_word_byte bytes ≡ true
hexadecimal-word [] h = refl
hexadecimal-word (a ∷ []) h = absurd (false≢true h)
hexadecimal-word (a ∷ x ∷ []) h = absurd (false≢true h)
hexadecimal-word (a ∷ x ∷ b ∷ bs) h =
    let parts = and_parts (a == 48 && x == 120) (list_all is_ascii_hexdigit (b ∷ bs)) h in
    let heads = and_parts (a == 48) (x == 120) parts.0 in
    and_from (is_word_byte a) _ (zero-word a heads.0).0 (and_from (is_word_byte x) _ (x-word x heads.1) (list_all-mono is_ascii_hexdigit is_word_byte hex-word (b ∷ bs) parts.1))

hexadecimal-first : (b : ℕ) (bs : List ℕ) → is_hexadecimal (b ∷ bs) ≡ true → is_ascii_digit b ≡ true
hexadecimal-first a [] h = absurd (false≢true h)
hexadecimal-first a (x ∷ []) h = absurd (false≢true h)
hexadecimal-first a (x ∷ b ∷ bs) h =
    let parts = and_parts (a == 48 && x == 120) (list_all is_ascii_hexdigit (b ∷ bs)) h in
    (zero-word a (and_parts (a == 48) (x == 120) parts.0).0).1

-- a number is decimal or hexadecimal
kinds-decimal : (bytes : List ℕ) (n : ℕ) → numeral bytes ≡ Some n → is_decimal bytes ≡ false → (is_hexadecimal bytes ≡ true) ⊎ (is_hexadecimal bytes ≡ false) → is_hexadecimal bytes ≡ true
kinds-decimal bytes n h failed (inl held) = held
kinds-decimal bytes n h failed (inr also) =
    absurd (none-some n (sym (cond-false (is_decimal bytes) (Some (value 10 bytes)) _ failed ∙ cond-false (is_hexadecimal bytes) (Some (value 16 (behind_two bytes))) None also) ∙ h))

kinds : (bytes : List ℕ) (n : ℕ) → numeral bytes ≡ Some n → (is_decimal bytes ≡ true) ⊎ (is_decimal bytes ≡ false) → (is_decimal bytes ≡ true) ⊎ (is_hexadecimal bytes ≡ true)
kinds bytes n h (inl held) = inl held
kinds bytes n h (inr failed) = inr (kinds-decimal bytes n h failed (cases_Bool (is_hexadecimal bytes)))

word-cases : (bytes : List ℕ) → (is_decimal bytes ≡ true) ⊎ (is_hexadecimal bytes ≡ true) → list_all is_word_byte bytes ≡ true
word-cases bytes (inl h) = decimal-word bytes h
word-cases bytes (inr h) = hexadecimal-word bytes h

first-cases : (b : ℕ) (bs : List ℕ) → (is_decimal (b ∷ bs) ≡ true) ⊎ (is_hexadecimal (b ∷ bs) ≡ true) → is_ascii_digit b ≡ true
first-cases b bs (inl h) = decimal-first b bs h
first-cases b bs (inr h) = hexadecimal-first b bs h

-- each byte of a number goes on with a word, and the first is a digit
pub numeral-word : (bytes : List ℕ) (n : ℕ) → numeral bytes ≡ Some n → list_all is_word_byte bytes ≡ true
numeral-word bytes n h = word-cases bytes (kinds bytes n h (cases_Bool (is_decimal bytes)))

pub numeral-first : (b : ℕ) (bs : List ℕ) (n : ℕ) → numeral (b ∷ bs) ≡ Some n → is_ascii_digit b ≡ true
numeral-first b bs n h = first-cases b bs (kinds (b ∷ bs) n h (cases_Bool (is_decimal (b ∷ bs))))

pub number_lexeme-narrow : (n : ℕ) → n < 2 ^ 32 → number_lexeme n ≡ Number n
number_lexeme-narrow n h = cond-true (ltb n (2 ^ 32)) (Number n) TooWide (lt-ltb n (2 ^ 32) h)

pub number_lexeme-wide : (n : ℕ) → 2 ^ 32 ≤ n → number_lexeme n ≡ TooWide
number_lexeme-wide n h = cond-false (ltb n (2 ^ 32)) (Number n) TooWide (le-ltb n (2 ^ 32) h)
