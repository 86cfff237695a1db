-- What is read after a write of a word or of a pointer.
use Rattle.std.specs.Prelude.{◌≡◌, ◌≢◌, ◌<◌, ℕ, zero, suc, Bool, true, false, ◌==◌, List, [], ◌∷◌, length, get_or, set, Some, None}
use Rattle.std.proofs.Common.{refl, sym, ap, subst, ◌∙◌, eqb-true, length-set, get_or-set_other}
use Rattle.std.proofs.lemmas.List.{get_or-set_same}
use Rattle.std.proofs.lemmas.Bool.{eqb-false}
use Rattle.walk_run.specs.declared.place.Place.{Place}
use Rattle.walk_run.specs.Store.{Store, IsInside, words_of, word_at, put_word, pointed, put_pointer}

-- the words of an array after one is written
set_there : (words : List (List ℕ)) (a i w : ℕ) → get_or (set words a (set (get_or words a []) i w)) a [] ≡ set (get_or words a []) i w
set_there [] a i w = refl
set_there (ws ∷ words) zero i w = refl
set_there (ws ∷ words) (suc a) i w = set_there words a i w

pub words_same : (at : Place) (w : ℕ) (s : Store) → words_of (put_word at w s) at.array ≡ set (words_of s at.array) at.index w
words_same at w s = set_there s.words at.array at.index w

-- those of another array stay
pub words_other : (at : Place) (w : ℕ) (s : Store) (b : ℕ) → b ≢ at.array → words_of (put_word at w s) b ≡ words_of s b
words_other at w s b other = get_or-set_other s.words at.array b (set (words_of s at.array) at.index w) [] other

-- each array keeps its number of words
pub rooms_stay : (at : Place) (w : ℕ) (s : Store) (b : ℕ) → length (words_of (put_word at w s) b) ≡ length (words_of s b)
rooms_stay at w s b = by_equal (b == at.array) refl
  where
    by_equal : (q : Bool) → (b == at.array) ≡ q → length (words_of (put_word at w s) b) ≡ length (words_of s b)
    by_equal true is =
        subst (λ a. length (words_of (put_word at w s) a) ≡ length (words_of s a)) (sym (eqb-true b at.array is))
        (ap length (words_same at w s) ∙ length-set (words_of s at.array) at.index w)
    by_equal false is = ap length (words_other at w s b (eqb-false b at.array is))

-- the place that is written has the word
pub word_same : (at : Place) (w : ℕ) (s : Store) → IsInside s at → word_at (put_word at w s) at ≡ w
word_same at w s inside = ap (λ ws. get_or ws at.index 0) (words_same at w s) ∙ get_or-set_same (words_of s at.array) at.index w 0 inside

-- and each other place what it had
pub word_other : (at : Place) (w : ℕ) (s : Store) (other : Place) → ((other.array ≡ at.array) × (other.index ≡ at.index) → ⊥) → word_at (put_word at w s) other ≡ word_at s other
word_other at w s other apart = by_equal (other.array == at.array) refl
  where
    by_equal : (q : Bool) → (other.array == at.array) ≡ q → word_at (put_word at w s) other ≡ word_at s other
    by_equal true is =
        let same : other.array ≡ at.array = eqb-true other.array at.array is in
        subst (λ a. get_or (words_of (put_word at w s) a) other.index 0 ≡ get_or (words_of s a) other.index 0) (sym same)
        (ap (λ ws. get_or ws other.index 0) (words_same at w s) ∙ get_or-set_other (words_of s at.array) at.index other.index w 0 (λ e. apart (same, e)))
    by_equal false is = ap (λ ws. get_or ws other.index 0) (words_other at w s other.array (eqb-false other.array at.array is))

-- the pointer that is set points to the place
pub pointed_same : (pointer : ℕ) (at : Place) (s : Store) → pointer < length s.pointers → pointed (put_pointer pointer at s) pointer ≡ Some at
pointed_same pointer at s there = get_or-set_same s.pointers pointer (Some at) None there

-- and each other pointer to what it did
pub pointed_other : (pointer : ℕ) (at : Place) (s : Store) (other : ℕ) → other ≢ pointer → pointed (put_pointer pointer at s) other ≡ pointed s other
pointed_other pointer at s other apart = get_or-set_other s.pointers pointer other (Some at) None apart
