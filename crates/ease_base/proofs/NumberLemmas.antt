-- The text of a number, one digit at a time from its end.
use Rattle.std.proofs.Common.{◌≡◌, ℕ, ◌+◌, ◌-◌, ◌/◌, ◌%◌, ◌^◌, ◌<◌, ◌≤◌, List, ◌++◌, length, drop, set, ap, ◌∙◌, arith, append_assoc, length-append}
use Rattle.std.specs.Fmt.{decimal}
use Rattle.std.proofs.lemmas.List.{drop-set, drop_all, append-nil}
use Rattle.std.proofs.lemmas.Fmt.{decimal_step, decimal_digit, length-decimal-le}

-- a digit is a text of one byte
pub length_digit : (n : ℕ) → n < 10 → length (decimal n) ≡ 1
length_digit n small = ap length (decimal_digit n small)

-- a longer number has one byte more than its tenth
pub length_step : (n : ℕ) → 10 ≤ n → n < 2 ^ 64 → length (decimal n) ≡ length (decimal (n / 10)) + 1
length_step n large fits = ap length (decimal_step n large fits) ∙ length-append _ _

-- a number of 64 bits has at most 20 digits
pub length_fits : (n : ℕ) → n < 2 ^ 64 → length (decimal n) ≤ 20
length_fits n fits = length-decimal-le 20 n (omega arith) (omega arith) fits

-- behind the end there is nothing yet
pub nothing_behind : (n end : ℕ) (bytes : List ℕ) → length bytes ≤ end → decimal n ++ drop end bytes ≡ decimal n
nothing_behind n end bytes short = ap (λ (x : List ℕ). decimal n ++ x) (drop_all end bytes short) ∙ append-nil (decimal n)

-- the last digit, put before what is written behind it, leaves the tenth
pub digit_put : (n start : ℕ) (bytes : List ℕ) → 10 ≤ n → n < 2 ^ 64 → 0 < start → start ≤ length bytes → decimal (n / 10) ++ drop (start - 1) (set bytes (start - 1) (48 + n % 10)) ≡ decimal n ++ drop start bytes
digit_put n start bytes large fits some within =
    let at : start - 1 + 1 ≡ start = omega arith in
    rw (drop-set bytes (start - 1) (48 + n % 10) (omega arith), at, decimal_step n large fits, append_assoc)

-- the first digit, put before what is written behind it, is the whole number
pub first_digit_put : (n start : ℕ) (bytes : List ℕ) → n < 10 → 0 < start → start ≤ length bytes → drop (start - 1) (set bytes (start - 1) (48 + n)) ≡ decimal n ++ drop start bytes
first_digit_put n start bytes small some within =
    let at : start - 1 + 1 ≡ start = omega arith in
    rw (drop-set bytes (start - 1) (48 + n) (omega arith), at, decimal_digit n small)
