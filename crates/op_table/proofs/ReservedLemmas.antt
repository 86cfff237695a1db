-- The table of the reserved words.
use Rattle.std.specs.Prelude.{◌≡◌, ◌↔◌, ◌⊎◌, ℕ, Bool, true, false, List, [], ◌∷◌, Option, Some, None, eqb, refl, IsTrue}
use Rattle.std.proofs.Common.{sym, ◌∙◌, inl, inr, subst}
use Rattle.std.specs.Option.{is_some}
use Rattle.std.specs.Str.{bytes_eq}
use Rattle.std.proofs.lemmas.Slice.Eq.{bytes_eq-Decides}
use Rattle.std.proofs.lemmas.Bool.Decides.{Decides-eqb}
use Rattle.op_table.specs.Places.{IsAt, StandsTwice, place_of, repeats}
use Rattle.op_table.specs.Reserved.{reserved_words}
use Rattle.op_table.specs.Table.{Entry, names}
use Rattle.op_table.specs.PlaceLemmas.{repeats-Decides}

-- the codes of their rows
abbrev pub word_codes : List ℕ
word_codes = 0 ∷ 1 ∷ 2 ∷ 3 ∷ 4 ∷ 5 ∷ 6 ∷ 7 ∷ 8 ∷ 9 ∷ 10 ∷ 11 ∷ 12 ∷ 13 ∷ 14 ∷ 15 ∷ []

codes_differ : repeats eqb word_codes ≡ false
unfolding repeats place_of
codes_differ = refl

words_differ : repeats bytes_eq reserved_words ≡ false
unfolding repeats place_of reserved_words
words_differ = refl

true_and_false : (b : Bool) → b ≡ false → b ≡ true → ⊥
true_and_false b no_ yes_ = cc

-- no code and no word stands twice
pub no_twins : StandsTwice word_codes ⊎ StandsTwice reserved_words → ⊥
no_twins twins = elim twins [
  | inl twice ↦ true_and_false (repeats eqb word_codes) codes_differ ((repeats-Decides eqb Decides-eqb word_codes).1 twice)
  | inr twice ↦ true_and_false (repeats bytes_eq reserved_words) words_differ ((repeats-Decides bytes_eq bytes_eq-Decides reserved_words).1 twice)
]

found_stands : (words : List (List ℕ)) (name : List ℕ) (place : Option ℕ) → ((i : ℕ) → (place ≡ Some i) ↔ IsAt words i name) → is_some place ≡ true → (i : ℕ) × IsAt words i name
found_stands words name None told some = cc
found_stands words name (Some i) told some = (i, (told i).0 refl)

standing_found : (words : List (List ℕ)) (name : List ℕ) (place : Option ℕ) → ((i : ℕ) → (place ≡ Some i) ↔ IsAt words i name) → (i : ℕ) × IsAt words i name → is_some place ≡ true
standing_found words name None told stands = let at : None ≡ Some stands.0 = (told stands.0).1 stands.1 in cc
standing_found words name (Some i) told stands = refl

-- a name is found exactly where it stands among the table's
pub found_decides : (table all : List Entry) (name : List ℕ) (place : Option ℕ) (result : Bool) → table ≡ all → ((i : ℕ) → (place ≡ Some i) ↔ IsAt (names table) i name) → result ≡ is_some place → IsTrue result ↔ ((i : ℕ) × IsAt (names all) i name)
found_decides table all name place result same told is =
    let P : List Entry → Type 0 = λ t. IsTrue result ↔ ((i : ℕ) × IsAt (names t) i name) in
    subst P same (λ e. found_stands (names table) name place told (sym is ∙ e), λ stands. is ∙ standing_found (names table) name place told stands)
