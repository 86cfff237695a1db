-- The table of the words with which commands begin.
use Rattle.std.specs.Prelude.{◌≡◌, ◌↔◌, ◌⊎◌, ℕ, zero, suc, Bool, true, false, List, [], ◌∷◌, Option, Some, None, eqb, refl, codes, slice_get, nat_lt, ◌<◌}
use Rattle.std.proofs.Common.{sym, inl, inr, subst}
use Rattle.std.specs.List.{list_all}
use Rattle.std.proofs.Common.{get_or, arith}
use Rattle.std.proofs.lemmas.Bool.Decides.{nat_tests}
use Rattle.std.proofs.lemmas.List.Sums.{AllPass-from_list_all}
use Rattle.std.proofs.lemmas.Str.Ascii.{IsAscii-from_all}
use Rattle.std.specs.Str.{bytes_eq, IsUtf8}
use Rattle.std.proofs.lemmas.Slice.Eq.{bytes_eq-Decides}
use Rattle.std.proofs.lemmas.Bool.Decides.{Decides-eqb}
use Rattle.std.proofs.lemmas.Str.{IsUtf8-from_ascii}
use Rattle.op_table.specs.Places.{IsAt, StandsTwice, place_of, repeats}
use Rattle.op_table.specs.PlaceLemmas.{found_exactly, repeats-Decides, place_found}
use Rattle.op_table.specs.Table.{Entry, HasTwins, names}
use Rattle.ease_debug.specs.Reading.{command_words}

abbrev row_codes : List ℕ
row_codes = 0 ∷ 1 ∷ 2 ∷ 3 ∷ 4 ∷ 5 ∷ 6 ∷ []

codes_differ : repeats eqb row_codes ≡ false
unfolding repeats place_of
codes_differ = refl

words_differ : repeats bytes_eq command_words ≡ false
unfolding repeats place_of
words_differ = refl

true_and_false : (b : Bool) → b ≡ false → b ≡ true → ⊥
true_and_false b no_ yes_ = cc

-- no code and no word stands twice
pub no_twins : StandsTwice row_codes ⊎ StandsTwice command_words → ⊥
no_twins twins = elim twins [
  | inl twice ↦ true_and_false (repeats eqb row_codes) codes_differ ((repeats-Decides eqb Decides-eqb row_codes).1 twice)
  | inr twice ↦ true_and_false (repeats bytes_eq command_words) words_differ ((repeats-Decides bytes_eq bytes_eq-Decides command_words).1 twice)
]

pub words_once : StandsTwice command_words → ⊥
words_once twice = no_twins (inr twice)

-- the place that a table answers is the first
pub place_exact : (table all : List Entry) (name : List ℕ) (place : Option ℕ) → table ≡ all → (HasTwins all → ⊥) → ((i : ℕ) → (place ≡ Some i) ↔ IsAt (names table) i name) → (place ≡ None) ↔ ((i : ℕ) → IsAt (names table) i name → ⊥)
    → place ≡ place_of bytes_eq name (names all)
place_exact table all name None same clear found missed =
    sym (none_of (place_of bytes_eq name (names all)) refl)
  where
    none_of : (o : Option ℕ) → place_of bytes_eq name (names all) ≡ o → o ≡ None
    none_of None is = refl
    none_of (Some k) is = absurd (missed.0 refl k (subst (λ (t : List Entry). IsAt (names t) k name) (sym same) (place_found bytes_eq bytes_eq-Decides name (names all) k is)))
place_exact table all name (Some k) same clear found missed =
    sym ((found_exactly bytes_eq bytes_eq-Decides name (names all) (place_of bytes_eq name (names all)) (λ twice. clear (inr twice)) refl k).1 (subst (λ (t : List Entry). IsAt (names t) k name) same ((found k).0 refl)))

-- a word that is no text is none of them
is_text : (name word : List ℕ) → list_all (λ b. nat_lt b 128) name ≡ true → Some name ≡ Some word → IsUtf8 word
is_text name word small is =
    let same : name ≡ word = cc in
    subst IsUtf8 same (IsUtf8-from_ascii name (IsAscii-from_all name (λ k d within. below (get_or name k d) (AllPass-from_list_all (λ b. nat_lt b 128) name small k d within))))
  where
    below : (b : ℕ) → nat_lt b 128 ≡ true → b < 128
    below b e = grind (arith, nat_tests)

text_at : (k : ℕ) (word : List ℕ) → slice_get command_words k ≡ Some word → IsUtf8 word
text_at zero word at = is_text (codes "step") word refl at
text_at (suc zero) word at = is_text (codes "fail") word refl at
text_at (suc (suc zero)) word at = is_text (codes "to") word refl at
text_at (suc (suc (suc zero))) word at = is_text (codes "at") word refl at
text_at (suc (suc (suc (suc zero)))) word at = is_text (codes "show") word refl at
text_at (suc (suc (suc (suc (suc zero))))) word at = is_text (codes "regs") word refl at
text_at (suc (suc (suc (suc (suc (suc zero)))))) word at = is_text (codes "why") word refl at
text_at (suc (suc (suc (suc (suc (suc (suc k))))))) word at = cc

pub no_text : (word : List ℕ) → (IsUtf8 word → ⊥) → None ≡ place_of bytes_eq word command_words
no_text word bad = sym (none_of (place_of bytes_eq word command_words) refl)
  where
    none_of : (o : Option ℕ) → place_of bytes_eq word command_words ≡ o → o ≡ None
    none_of None is = refl
    none_of (Some k) is = absurd (bad (text_at k word (place_found bytes_eq bytes_eq-Decides word command_words k is)))
