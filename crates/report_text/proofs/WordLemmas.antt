-- The parts of a text, and the numbers that are such parts.
use Rattle.std.specs.Prelude.{◌==◌, Bool, not, decimal, nat_lt, cond, IfSome, IfNone}
use Rattle.std.proofs.Common.{◌≡◌, ◌∙◌, ℕ, ◌+◌, ◌-◌, ◌<◌, ◌≤◌, ◌^◌, true, false, List, [], ◌∷◌, length, take, drop, Option, Some, None, refl, ap, sym, arith, take_all}
use Rattle.std.specs.List.{position, position_or_len}
use Rattle.std.specs.Str.{bytes_eq, IsUtf8}
use Rattle.std.specs.Str.Parse.{digits_value}
use Rattle.std.proofs.lemmas.Bool.{false≢true}
use Rattle.std.proofs.lemmas.Bool.Decides.{nat_tests}
use Rattle.std.proofs.lemmas.Fmt.{digits_value-decimal, IsAscii-decimal}
use Rattle.std.proofs.lemmas.List.{length-drop}
use Rattle.std.proofs.lemmas.List.Sums.{fails_before_first}
use Rattle.std.proofs.lemmas.List.Splits.{slice_split_first, slice_split_none, length-slice_split}
use Rattle.std.proofs.lemmas.Slice.Eq.{bytes_eq-Decides}
use Rattle.std.proofs.lemmas.Str.{IsUtf8-from_ascii}
use Rattle.std.proofs.lemmas.Str.Parse.{numerals_by_value, tells_digits}
use Rattle.report_text.specs.Parts.{split_at, only_part}
use Rattle.report_text.specs.Reading.{number_in}

-- the value of the digits of a number
value_of : (n : ℕ) → n < 2 ^ 32 → digits_value 10 (decimal n) ≡ n
value_of n small = digits_value-decimal (numerals_by_value _ tells_digits) n (omega (arith, small))

-- digits are text
pub decimal_text : (n : ℕ) → n < 2 ^ 32 → IsUtf8 (decimal n)
decimal_text n small = let wide : n < 2 ^ 64 = omega (arith, small) in IsUtf8-from_ascii (decimal n) (IsAscii-decimal n wide)

-- the number of its digits
pub number_of_digits : (n : ℕ) → n < 2 ^ 32 → number_in (decimal n) ≡ Some n
number_of_digits n small = of_value (digits_value 10 (decimal n)) refl
  where
    of_value : (m : ℕ) → digits_value 10 (decimal n) ≡ m → number_in (decimal n) ≡ Some n
    of_value m is =
        let value : digits_value 10 (decimal n) ≡ n = value_of n small in
        let same : bytes_eq (decimal n) (decimal n) ≡ true = (bytes_eq-Decides (decimal n) (decimal n)).1 refl in
        let within : nat_lt n 4294967296 ≡ true = grind (arith, nat_tests) in
        rw (value, same, within) refl

-- a word of a number is its digits
pub digits_of_number : (n : ℕ) (word : List ℕ) → number_in word ≡ Some n → (n < 2 ^ 32) × (word ≡ decimal n)
digits_of_number n word is = by_tests (bytes_eq (decimal (digits_value 10 word)) word) refl (nat_lt (digits_value 10 word) 4294967296) refl
  where
    by_tests : (same : Bool) → bytes_eq (decimal (digits_value 10 word)) word ≡ same → (few : Bool) → nat_lt (digits_value 10 word) 4294967296 ≡ few → (n < 2 ^ 32) × (word ≡ decimal n)
    by_tests true same true within =
        let told : number_in word ≡ Some (digits_value 10 word) = rw (same, within) refl in
        let value : digits_value 10 word ≡ n = cc in
        let small : digits_value 10 word < 4294967296 = grind (arith, nat_tests) in
        (omega (arith, small, value), sym ((bytes_eq-Decides (decimal (digits_value 10 word)) word).0 same) ∙ ap decimal value)
    by_tests true same false within = let told : number_in word ≡ None = rw (same, within) refl in cc
    by_tests false same few within = let told : number_in word ≡ None = rw same refl in cc

-- a number that is answered exactly where the word is its digits
pub number_exact : (word : List ℕ) (o : Option ℕ) → IfSome o (λ n. (n < 2 ^ 32) × (word ≡ decimal n)) → IfNone o ((n : ℕ) → n < 2 ^ 32 → word ≡ decimal n → ⊥) → o ≡ number_in word
number_exact word (Some n) found none = sym (ap number_in found.1 ∙ number_of_digits n found.0)
number_exact word None found none = by (number_in word) refl
  where
    by : (o : Option ℕ) → number_in word ≡ o → None ≡ number_in word
    by None is = sym is
    by (Some n) is = let d = digits_of_number n word is in absurd (none n d.0 d.1)

-- texts for which `!=` is true are not the same
pub other_text : (differs : Bool) (xs ys : List ℕ) → differs ≡ not (bytes_eq xs ys) → differs ≡ true → xs ≡ ys → ⊥
other_text differs xs ys is tested same =
    false≢true (sym (ap not ((bytes_eq-Decides xs ys).1 same)) ∙ sym is ∙ tested)

found_at : (b : Bool) (n place : ℕ) → cond b (Some n) None ≡ Some place → (b ≡ true) × (n ≡ place)
found_at true n place e = (refl, cc)
found_at false n place e = cc

missed_at : (b : Bool) (n : ℕ) → cond b (Some n) None ≡ None → b ≡ false
missed_at true n e = cc
missed_at false n e = refl

below : (a b : ℕ) → nat_lt a b ≡ true → a < b
below a b e = grind (arith, nat_tests)

above : (a b : ℕ) → nat_lt a b ≡ false → b ≤ a
above a b e = grind (arith, nat_tests)

all_behind : (k : ℕ) (text : List ℕ) → take (length text - k) (drop k text) ≡ drop k text
all_behind k text = take_all (length text - k) (drop k text) (omega (arith, length-drop k text))

-- the first part of a text, where the byte stands in it
pub cut_found : (at place : ℕ) (text : List ℕ) → position (λ b. b == at) text ≡ Some place → split_at at text ≡ take place text ∷ split_at at (take (length text - (place + 1)) (drop (place + 1) text))
cut_found at place text is =
    let there = found_at _ _ _ is in
    slice_split_first (λ b. b == at) text 0 (below _ _ there.0)
    ∙ ap (λ k. take k text ∷ split_at at (drop (k + 1) text)) there.1
    ∙ ap (λ rest. take place text ∷ split_at at rest) (sym (all_behind (place + 1) text))

-- and where it doesn't
pub cut_missed : (at : ℕ) (text : List ℕ) → position (λ b. b == at) text ≡ None → split_at at text ≡ text ∷ []
cut_missed at text is =
    let none = missed_at _ _ is in
    let all = above (position_or_len (λ b. b == at) text) (length text) none in
    slice_split_none (λ b. b == at) text (λ k d within. fails_before_first (λ b. b == at) text k d (omega (arith, all, within)))

-- every text has a first part
pub some_part : (at : ℕ) (text : List ℕ) → (w : List ℕ) × (ws : List (List ℕ)) × (split_at at text ≡ w ∷ ws)
some_part at text = by (split_at at text) refl
  where
    by : (parts : List (List ℕ)) → split_at at text ≡ parts → (w : List ℕ) × (ws : List (List ℕ)) × (split_at at text ≡ w ∷ ws)
    by [] is = absurd (omega (arith, ap (λ (ps : List (List ℕ)). length ps) is, length-slice_split (λ b. b == at) text))
    by (w ∷ ws) is = (w, ws, is)

pub not_only : (at : ℕ) (w text : List ℕ) → only_part (w ∷ split_at at text) ≡ None
not_only at w text = let some = some_part at text in ap (λ (ws : List (List ℕ)). only_part (w ∷ ws)) some.2
