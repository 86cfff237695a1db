-- The decimal digits of a number spell it.
use Rattle.std.proofs.Common.{◌≡◌, ℕ, zero, suc, ◌+◌, ◌-◌, ◌*◌, ◌^◌, ◌<◌, true, not, ◌==◌, List, [], ◌∷◌, length, get_or, Some, refl, ap, ◌∙◌, arith}
use Rattle.std.specs.Prelude.{decimal, fold, nat_le}
use Rattle.std.specs.Fmt.{digits}
use Rattle.std.specs.Int.{IsInRange}
use Rattle.std.specs.Char.{is_ascii_digit}
use Rattle.std.specs.List.{list_all}
use Rattle.std.proofs.lemmas.Bool.{and_parts, and_from, cond-true}
use Rattle.std.proofs.lemmas.Bool.Decides.{nat_tests}
use Rattle.std.proofs.lemmas.Fmt.{digits_decimal, digits_value-decimal, decimal_nonempty, first_decimal}
use Rattle.std.proofs.lemmas.Str.Parse.{IsDigitsTest, FoldsDigits, IsNumeralModel, numerals_by_fold}
use Rattle.task_tokens.specs.Spelling.{is_decimal, digit_value, value, numeral}

abbrev AreDigits : List ℕ → Type 0
AreDigits ds = list_all is_ascii_digit ds ≡ true

in_range : (c : ℕ) → is_ascii_digit c ≡ true → IsInRange 48 57 c
in_range c h = grind (arith, nat_tests)

is_digit : (c : ℕ) → IsInRange 48 57 c → is_ascii_digit c ≡ true
is_digit c h = let low = h.0 in let high = h.1 in grind (arith, nat_tests)

digit_worth : (c : ℕ) → IsInRange 48 57 c → digit_value c ≡ c - 48
digit_worth c h = let low = h.0 in let high = h.1 in cond-true (nat_le c 57) (c - 48) _ (grind (arith, nat_tests))

tests : IsDigitsTest AreDigits
tests = record {
  empty = refl;
  parts = λ c cs h. let p = and_parts (is_ascii_digit c) (list_all is_ascii_digit cs) h in (in_range c p.0, p.1);
  more = λ c cs h k. and_from (is_ascii_digit c) (list_all is_ascii_digit cs) (is_digit c h) k;
}

abbrev read_on : ℕ → List ℕ → ℕ
read_on n ds = fold (λ m b. 10 * m + digit_value b) n ds

folds : FoldsDigits read_on
folds = record {
  empty = λ n. refl;
  more = λ n c cs h. ap (λ m. read_on m cs) (omega (arith, digit_worth c h));
}

model : IsNumeralModel AreDigits (read_on 0)
model = numerals_by_fold AreDigits tests read_on folds

decimal_form : (ds : List ℕ) → AreDigits ds → 0 < length ds → (1 < length ds → 48 < get_or ds 0 0) → is_decimal ds ≡ true
decimal_form [] all some first = absurd (omega arith)
decimal_form (b ∷ []) all some first = (and_parts (is_ascii_digit b) true all).0
decimal_form (b ∷ c ∷ bs) all some first =
    let high : 48 < b = first (omega arith) in
    and_from (not (b == 48)) (list_all is_ascii_digit (b ∷ c ∷ bs)) (grind (arith, nat_tests)) all

zero_text : decimal 0 ≡ 48 ∷ []
unfolding digits
zero_text = refl

first_of_more : (n : ℕ) → n < 2 ^ 64 → 1 < length (decimal n) → 48 < get_or (decimal n) 0 0
first_of_more zero h long = absurd (omega (arith, ap length zero_text))
first_of_more (suc n) h long = first_decimal (suc n) (omega arith) h

pub numeral_decimal : (n : ℕ) → n < 2 ^ 32 → numeral (decimal n) ≡ Some n
numeral_decimal n h =
    let wide : n < 2 ^ 64 = omega arith in
    let form = decimal_form (decimal n) (digits_decimal model n wide) (decimal_nonempty n wide) (first_of_more n wide) in
    cond-true (is_decimal (decimal n)) (Some (value 10 (decimal n))) _ form ∙ ap Some (digits_value-decimal model n wide)
