-- The four shapes of a word before `--`.
use Rattle.std.specs.Prelude.{◌≡◌, ℕ, ◌==◌, Bool, true, false, [], ◌∷◌, Option, Some, None}
use Rattle.std.proofs.Common.{refl, ap}
use Rattle.std.specs.Str.{bytes_eq}
use Rattle.std.proofs.lemmas.Bool.Decides.{Decides-eqb}
use Rattle.clap.specs.Lexer.{long_of, short_of, name_and_value}
use Rattle.clap.specs.Walk.{Text}
use Rattle.command_line.specs.Line.{is_option}
use Rattle.command_line.proofs.Walked.{dashes, IsPlain, IsLong}

-- a word `-x..`
pub record IsShort (word flags : Text) : Type 0 where
  pub dashes : bytes_eq word dashes ≡ false
  pub long : long_of word ≡ None
  pub short : short_of word ≡ Some flags
  pub spelled : word ≡ 45 ∷ flags

pub data Shape (word : Text) : Type 0 where
  behind : bytes_eq word dashes ≡ true → is_option word ≡ true → Shape word
  long : (name : Text) (given : Option Text) → IsLong word name given → is_option word ≡ true → Shape word
  short : (first : ℕ) (flags : Text) → IsShort word (first ∷ flags) → is_option word ≡ true → Shape word
  plain : IsPlain word → is_option word ≡ false → Shape word

is_45 : (b : ℕ) → (b == 45) ≡ true → b ≡ 45
is_45 b is = (Decides-eqb b 45).0 is

of_one : (b : ℕ) (is : Bool) → (b == 45) ≡ is → Shape (b ∷ [])
of_one b true is = plain (record { dashes = rw is refl; long = rw is refl; short = rw is refl }) refl
of_one b false is = plain (record { dashes = rw is refl; long = rw is refl; short = rw is refl }) refl

of_two : (b c : ℕ) (rest : Text) (is : Bool) → (b == 45) ≡ is → (second : Bool) → (c == 45) ≡ second → Shape (b ∷ c ∷ rest)
of_two b c rest false first second next = plain (record { dashes = rw first refl; long = rw first refl; short = rw first refl }) first
of_two b c [] true first true next = behind (rw (first, next) refl) first
of_two b c (x ∷ xs) true first true next = long (name_and_value (x ∷ xs)).0 (name_and_value (x ∷ xs)).1 (record { dashes = rw (first, next) refl; long = rw (first, next) refl }) first
of_two b c rest true first false next = short c rest (record { dashes = rw (first, next) refl; long = rw (first, next) refl; short = rw (first, next) refl; spelled = ap (λ (n : ℕ). n ∷ c ∷ rest) (is_45 b first) }) first

-- each word has one
pub shape_of : (word : Text) → Shape word
shape_of [] = plain (record { dashes = refl; long = refl; short = refl }) refl
shape_of (b ∷ []) = of_one b (b == 45) refl
shape_of (b ∷ c ∷ rest) = of_two b c rest (b == 45) refl (c == 45) refl
