-- The words of a line, and the numbers that are such words.
use Rattle.std.specs.Prelude.{◌≤◌, ◌<◌, ◌^◌, ◌==◌, Bool, not, decimal, nat_le, nat_lt, cond, IfSome, IfNone}
use Rattle.std.proofs.Common.{◌≡◌, ◌∙◌, ℕ, ◌+◌, ◌-◌, true, false, List, [], ◌∷◌, length, take, drop, Option, Some, None, refl, ap, sym, arith}
use Rattle.std.specs.List.{position, position_or_len}
use Rattle.std.specs.Str.{bytes_eq, IsUtf8}
use Rattle.std.specs.Str.Parse.{digits_value}
use Rattle.std.proofs.lemmas.Bool.{false≢true}
use Rattle.std.proofs.lemmas.Bool.Decides.{nat_tests}
use Rattle.std.proofs.lemmas.Fmt.{digits_value-decimal, IsAscii-decimal}
use Rattle.std.proofs.Common.{take_all}
use Rattle.std.proofs.lemmas.List.{length-drop}
use Rattle.std.proofs.lemmas.List.Sums.{fails_before_first}
use Rattle.std.proofs.lemmas.List.Splits.{slice_split_first, slice_split_none, length-slice_split}
use Rattle.std.proofs.lemmas.Slice.Eq.{bytes_eq-Decides}
use Rattle.std.proofs.lemmas.Str.{IsUtf8-from_ascii}
use Rattle.std.proofs.lemmas.Str.Parse.{numerals_by_value, tells_digits}
use Rattle.ease_debug.specs.Reading.{number_in, only_word, with_none, with_name, ◌>>=◌}
use Rattle.std.specs.Option.{option_map}
use Rattle.ease_debug.specs.declared.command.Command.{Command}
use Rattle.ease_debug.specs.declared.command.Command.TheVariants.{Show}
use Rattle.word_isa.specs.declared.image.Image.{Image}
use Rattle.word_isa.specs.declared.parts.Symbol.{Symbol}
use Rattle.ease_debug.specs.Words.{split_at}

value_of : (n : ℕ) → n < 2 ^ 64 → digits_value 10 (decimal n) ≡ n
value_of n small = digits_value-decimal (numerals_by_value _ tells_digits) n small

number_some : (most n : ℕ) (word : List ℕ) → digits_value 10 (decimal n) ≡ n → n ≤ most → word ≡ decimal n → number_in most word ≡ Some n
number_some most n word value few is =
    let same : bytes_eq (decimal n) (decimal n) ≡ true = (bytes_eq-Decides (decimal n) (decimal n)).1 refl in
    let within : nat_le n most ≡ true = grind (arith, nat_tests) in
    rw (is, value, same, within) refl

number_none : (most : ℕ) (word : List ℕ) → ((n : ℕ) → n ≤ most → word ≡ decimal n → ⊥) → number_in most word ≡ None
number_none most word none = by_tests (bytes_eq (decimal (digits_value 10 word)) word) refl (nat_le (digits_value 10 word) most) refl
  where
    by_tests : (same : Bool) → bytes_eq (decimal (digits_value 10 word)) word ≡ same → (few : Bool) → nat_le (digits_value 10 word) most ≡ few → number_in most word ≡ None
    by_tests true is true within = absurd (none (digits_value 10 word) (grind (arith, nat_tests)) (sym ((bytes_eq-Decides (decimal (digits_value 10 word)) word).0 is)))
    by_tests true is false within = rw (is, within) refl
    by_tests false is few within = rw is refl

-- a number that is answered exactly where the word is its digits
pub number_exact : (most : ℕ) (word : List ℕ) (o : Option ℕ) → most < 2 ^ 64 → IfSome o (λ n. (n ≤ most) × (word ≡ decimal n)) → IfNone o ((n : ℕ) → n ≤ most → word ≡ decimal n → ⊥) → o ≡ number_in most word
number_exact most word None small found none = sym (number_none most word none)
number_exact most word (Some n) small found none = sym (number_some most n word (value_of n (omega (arith, found.0, small))) found.0 found.1)

-- the number of the digits of a number
pub number_of_digits : (most n : ℕ) → n ≤ most → most < 2 ^ 64 → number_in most (decimal n) ≡ Some n
number_of_digits most n few small = number_some most n (decimal n) (value_of n (omega (arith, few, small))) few refl

-- a word of a number is its digits
pub digits_of_number : (most n : ℕ) (word : List ℕ) → number_in most word ≡ Some n → word ≡ decimal n
digits_of_number most n word is = by_tests (bytes_eq (decimal (digits_value 10 word)) word) refl (nat_le (digits_value 10 word) most) refl
  where
    by_tests : (same : Bool) → bytes_eq (decimal (digits_value 10 word)) word ≡ same → (few : Bool) → nat_le (digits_value 10 word) most ≡ few → word ≡ decimal n
    by_tests true same true within =
        let told : number_in most word ≡ Some (digits_value 10 word) = rw (same, within) refl in
        let value : digits_value 10 word ≡ n = cc in
        sym ((bytes_eq-Decides (decimal (digits_value 10 word)) word).0 same) ∙ ap decimal value
    by_tests true same false within = let told : number_in most word ≡ None = rw (same, within) refl in cc
    by_tests false same few within = let told : number_in most word ≡ None = rw same refl in cc

-- texts for which `!=` is true are not the same
pub other_text : (differs : Bool) (xs ys : List ℕ) → differs ≡ not (bytes_eq xs ys) → differs ≡ true → xs ≡ ys → ⊥
other_text differs xs ys is tested same =
    false≢true (sym (ap not ((bytes_eq-Decides xs ys).1 same)) ∙ sym is ∙ tested)

-- digits are text
pub decimal_text : (n : ℕ) → n < 2 ^ 64 → IsUtf8 (decimal n)
decimal_text n small = IsUtf8-from_ascii (decimal n) (IsAscii-decimal n small)

found_at : (b : Bool) (n place : ℕ) → cond b (Some n) None ≡ Some place → (b ≡ true) × (n ≡ place)
found_at true n place e = (refl, cc)
found_at false n place e = cc

missed_at : (b : Bool) (n : ℕ) → cond b (Some n) None ≡ None → b ≡ false
missed_at true n e = cc
missed_at false n e = refl

below : (a b : ℕ) → nat_lt a b ≡ true → a < b
below a b e = grind (arith, nat_tests)

above : (a b : ℕ) → nat_lt a b ≡ false → b ≤ a
above a b e = grind (arith, nat_tests)

all_behind : (k : ℕ) (text : List ℕ) → take (length text - k) (drop k text) ≡ drop k text
all_behind k text = take_all (length text - k) (drop k text) (omega (arith, length-drop k text))

-- the first part of a text, where the byte stands in it
pub cut_found : (at place : ℕ) (text : List ℕ) → position (λ b. b == at) text ≡ Some place → split_at at text ≡ take place text ∷ split_at at (take (length text - (place + 1)) (drop (place + 1) text))
cut_found at place text is =
    let there = found_at _ _ _ is in
    slice_split_first (λ b. b == at) text 0 (below _ _ there.0)
    ∙ ap (λ k. take k text ∷ split_at at (drop (k + 1) text)) there.1
    ∙ ap (λ rest. take place text ∷ split_at at rest) (sym (all_behind (place + 1) text))

-- and where it doesn't
pub cut_missed : (at : ℕ) (text : List ℕ) → position (λ b. b == at) text ≡ None → split_at at text ≡ text ∷ []
cut_missed at text is =
    let none = missed_at _ _ is in
    let all = above (position_or_len (λ b. b == at) text) (length text) none in
    slice_split_none (λ b. b == at) text (λ k d within. fails_before_first (λ b. b == at) text k d (omega (arith, all, within)))

pub cut_shorter : (place : ℕ) (text : List ℕ) → place < length text → length (take (length text - (place + 1)) (drop (place + 1) text)) < length text
cut_shorter place text within = omega (arith, ap (λ (xs : List ℕ). length xs) (all_behind (place + 1) text), length-drop (place + 1) text, within)

-- every text has a first part
pub some_part : (at : ℕ) (text : List ℕ) → (w : List ℕ) × (ws : List (List ℕ)) × (split_at at text ≡ w ∷ ws)
some_part at text = by (split_at at text) refl
  where
    by : (parts : List (List ℕ)) → split_at at text ≡ parts → (w : List ℕ) × (ws : List (List ℕ)) × (split_at at text ≡ w ∷ ws)
    by [] is = absurd (omega (arith, ap (λ (ps : List (List ℕ)). length ps) is, length-slice_split (λ b. b == at) text))
    by (w ∷ ws) is = (w, ws, is)

pub not_only : (at : ℕ) (w text : List ℕ) → only_word (w ∷ split_at at text) ≡ None
not_only at w text = let some = some_part at text in ap (λ (ws : List (List ℕ)). only_word (w ∷ ws)) some.2

pub not_none : (at : ℕ) (text : List ℕ) → with_none (split_at at text) ≡ None
not_none at text = let some = some_part at text in ap with_none some.2

-- a name that no symbol has
pub no_symbol : (image : Image) (symbols : List Symbol) (result : Option Command) (place : Option ℕ) (w : List ℕ) (words : List (List ℕ)) → result ≡ None → place ≡ None → place ≡ position (λ (s : Symbol). bytes_eq s.name w) symbols → symbols ≡ image.symbols
    → Some w ≡ only_word words → result ≡ with_name image words
no_symbol image symbols result place w words none missing is same only =
    none ∙ ap (option_map Show) (sym missing ∙ is ∙ ap (position (λ (s : Symbol). bytes_eq s.name w)) same) ∙ ap (λ o. o >>= (λ v. option_map Show (position (λ (s : Symbol). bytes_eq s.name v) image.symbols))) only
