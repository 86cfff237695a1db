-- Numbers and texts as code finds them.
use Rattle.std.specs.Prelude.{◌≡◌, ◌≤◌, ◌<◌, ◌^◌, ℕ, Bool, true, false, not, List, [], ◌∷◌, map, decimal, nat_le, slice_get, zero, suc, Option, Some, None, IfSome, IfNone, option_map}
use Rattle.std.proofs.Common.{refl, ap, sym, ◌∙◌, arith}
use Rattle.std.specs.Str.{bytes_eq}
use Rattle.std.specs.Str.Parse.{digits_value}
use Rattle.std.proofs.lemmas.Fmt.{digits_value-decimal}
use Rattle.std.proofs.lemmas.Str.Parse.{numerals_by_value, tells_digits}
use Rattle.std.specs.Borrow.{Bor}
use Rattle.std.proofs.lemmas.Slice.Eq.{bytes_eq-Decides}
use Rattle.std.proofs.lemmas.Bool.{false≢true}
use Rattle.std.proofs.lemmas.Bool.Decides.{nat_tests}
use Rattle.clap.specs.Words.{fault_of}
use Rattle.command_line.proofs.ParsedLaws.{line_is_taken}
use Rattle.command_line.specs.Words.{ease_app}
use Rattle.command_line.specs.Form.{Form, number_in, form_in, form_of, ◌>>=◌}
use Rattle.command_line.specs.Parsed.{AreTexts}
use Rattle.command_line.specs.Line.{Line, Text, line_of}

value_of : (n : ℕ) → n < 2 ^ 64 → digits_value 10 (decimal n) ≡ n
value_of n small = digits_value-decimal (numerals_by_value _ tells_digits) n small

number_some : (most n : ℕ) (word : List ℕ) → digits_value 10 (decimal n) ≡ n → n ≤ most → word ≡ decimal n → number_in most word ≡ Some n
number_some most n word value few is =
    let same : bytes_eq (decimal n) (decimal n) ≡ true = (bytes_eq-Decides (decimal n) (decimal n)).1 refl in
    let within : nat_le n most ≡ true = grind (arith, nat_tests) in
    rw (is, value, same, within) refl

number_none : (most : ℕ) (word : List ℕ) → ((n : ℕ) → n ≤ most → word ≡ decimal n → ⊥) → number_in most word ≡ None
number_none most word none = by_tests (bytes_eq (decimal (digits_value 10 word)) word) refl (nat_le (digits_value 10 word) most) refl
  where
    by_tests : (same : Bool) → bytes_eq (decimal (digits_value 10 word)) word ≡ same → (few : Bool) → nat_le (digits_value 10 word) most ≡ few → number_in most word ≡ None
    by_tests true is true within = absurd (none (digits_value 10 word) (grind (arith, nat_tests)) (sym ((bytes_eq-Decides (decimal (digits_value 10 word)) word).0 is)))
    by_tests true is false within = rw (is, within) refl
    by_tests false is few within = rw is refl

-- a number that is answered exactly where the word is its digits
pub number_exact : (most : ℕ) (word : List ℕ) (o : Option ℕ) → most < 2 ^ 64 → IfSome o (λ n. (n ≤ most) × (word ≡ decimal n)) → IfNone o ((n : ℕ) → n ≤ most → word ≡ decimal n → ⊥) → o ≡ number_in most word
number_exact most word None small found none = sym (number_none most word none)
number_exact most word (Some n) small found none = sym (number_some most n word (value_of n (omega (arith, found.0, small))) found.0 found.1)

-- texts for which `!=` is true are not the same
pub other_text : (differs : Bool) (xs ys : List ℕ) → differs ≡ not (bytes_eq xs ys) → differs ≡ true → xs ≡ ys → ⊥
other_text differs xs ys is tested same =
    false≢true (sym (ap not ((bytes_eq-Decides xs ys).1 same)) ∙ sym is ∙ tested)

-- the text at a place of a list of references
pub text_seen : (args : List (Bor (List ℕ))) (at : ℕ) → option_map (λ (s : Bor (List ℕ)). s.now) (slice_get args at) ≡ slice_get (map (λ (s : Bor (List ℕ)). s.now) args) at
text_seen [] at = refl
text_seen (x ∷ xs) zero = refl
text_seen (x ∷ xs) (suc at) = text_seen xs at

-- the form of words that have a line, and of words that have none
pub form_of_line : (words : List Text) (l : Line) → line_of words ≡ Some l → form_of words ≡ form_in l
unfolding form_of
form_of_line words l is = ap (λ (o : Option Line). o >>= form_in) is

pub form_of_none : (words : List Text) → line_of words ≡ None → form_of words ≡ None
unfolding form_of
form_of_none words is = ap (λ (o : Option Line). o >>= form_in) is

some_line : (o : Option Line) (f : Form) → (o >>= form_in) ≡ Some f → (l : Line) × (o ≡ Some l)
some_line None f e = cc
some_line (Some l) f e = (l, refl)

-- each form is a line that `clap` takes
pub form_is_taken : (words : List Text) (f : Form) → AreTexts words → form_of words ≡ Some f → fault_of ease_app words ≡ []
unfolding form_of
form_is_taken words f texts is = let found = some_line (line_of words) f is in line_is_taken words found.0 texts found.1
