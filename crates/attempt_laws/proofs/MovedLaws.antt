-- The words that a move leaves at its destination are a matter of its source words alone, though the two may overlap.
use Rattle.std.proofs.Common.{◌≡◌, ◌≢◌, ℕ, zero, suc, ◌+◌, ◌-◌, ◌≤◌, ◌<◌, Bool, true, false, ◌==◌, List, [], ◌∷◌, length, take, drop, get_or, set, refl, sym, ap, subst, ◌∙◌, arith, length-set, get_or-set_same, get_or-set_other, eqb-true}
use Rattle.std.proofs.lemmas.Bool.{eqb-false}
use Rattle.std.proofs.lemmas.List.{get_or-take, get_or-drop, length-take-le, length-drop}
use Rattle.walk_run.specs.StoreLaws.{words_same}
use Rattle.attempt_laws.proofs.MoveLaws.{put_source, read_back, words_after}
use Rattle.attempt_laws.specs.Records.{Fits}
use Rattle.task_attempts.specs.Copies.{put_words, words_at}
use Rattle.walk_run.specs.Store.{Store, place, put_word, word_at, words_of}
use Rattle.walk_run.specs.Walk.{move_words}
use Rattle.walk_run.specs.declared.place.Place.{Place}

-- the words that a move puts, in their order
abbrev moved : (n : ℕ) → (to from : Place) → Store → List ℕ
moved zero to from store = []
moved (suc n) to from store = word_at store from ∷ moved n (place to.array (to.index + 1)) (place from.array (from.index + 1)) (put_word to (word_at store from) store)

moved_many : (n : ℕ) (to from : Place) (store : Store) → length (moved n to from store) ≡ n
moved_many zero to from store = refl
moved_many (suc n) to from store = ap suc (moved_many n (place to.array (to.index + 1)) (place from.array (from.index + 1)) (put_word to (word_at store from) store))

moved_put : (n : ℕ) (to from : Place) (store : Store) → move_words n to from store ≡ put_words to (moved n to from store) store
moved_put zero to from store = refl
moved_put (suc n) to from store = moved_put n (place to.array (to.index + 1)) (place from.array (from.index + 1)) (put_word to (word_at store from) store)

-- words that are put are those that stand there then
put_there : (words : List ℕ) (to : Place) (store : Store) → Fits store to (length words) → words_at (put_words to words store) to (length words) ≡ words
put_there words to store fits = ap (λ r. take (length words) (drop to.index r)) (words_after words to store) ∙ read_back words to.index (words_of store to.array) fits

moved_there : (n : ℕ) (to from : Place) (store : Store) → Fits store to n → words_at (move_words n to from store) to n ≡ moved n to from store
moved_there n to from store fits =
    let words = moved n to from store in
    let many = moved_many n to from store in
    ap (λ after. words_at after to n) (moved_put n to from store)
    ∙ ap (λ k. words_at (put_words to words store) to k) (sym many)
    ∙ put_there words to store (subst (λ k. Fits store to k) (sym many) fits)

-- the same words from a place on
abbrev SourceSame : ℕ → Place → (x y : Store) → Type 0
SourceSame n from x y = (i : ℕ) → from.index ≤ i → i < from.index + n → get_or (words_of x from.array) i 0 ≡ get_or (words_of y from.array) i 0

-- a word of an array after one is put
word_after : (to : Place) (w a i : ℕ) (x y : Store) → to.index < length (words_of x to.array) → to.index < length (words_of y to.array) → get_or (words_of x a) i 0 ≡ get_or (words_of y a) i 0
    → get_or (words_of (put_word to w x) a) i 0 ≡ get_or (words_of (put_word to w y) a) i 0
word_after to w a i x y fits_x fits_y same = by_array (to.array == a) refl
  where
    there : (x : Store) → words_of (put_word to w x) to.array ≡ set (words_of x to.array) to.index w
    there x = words_same to w x

    elsewhere : (x : Store) → a ≢ to.array → words_of (put_word to w x) a ≡ words_of x a
    elsewhere x other = get_or-set_other x.words to.array a _ [] other

    by_index : (b : Bool) → (to.index == i) ≡ b → to.array ≡ a → get_or (set (words_of x to.array) to.index w) i 0 ≡ get_or (set (words_of y to.array) to.index w) i 0
    by_index true is here =
        subst (λ i. get_or (set (words_of x to.array) to.index w) i 0 ≡ get_or (set (words_of y to.array) to.index w) i 0) (eqb-true to.index i is)
        (get_or-set_same (words_of x to.array) to.index w 0 fits_x ∙ sym (get_or-set_same (words_of y to.array) to.index w 0 fits_y))
    by_index false is here =
        let other : i ≢ to.index = λ e. eqb-false to.index i is (sym e) in
        get_or-set_other (words_of x to.array) to.index i w 0 other
        ∙ subst (λ a. get_or (words_of x a) i 0 ≡ get_or (words_of y a) i 0) (sym here) same
        ∙ sym (get_or-set_other (words_of y to.array) to.index i w 0 other)

    by_array : (b : Bool) → (to.array == a) ≡ b → get_or (words_of (put_word to w x) a) i 0 ≡ get_or (words_of (put_word to w y) a) i 0
    by_array true is =
        let here : to.array ≡ a = eqb-true to.array a is in
        subst (λ a. get_or (words_of (put_word to w x) a) i 0 ≡ get_or (words_of (put_word to w y) a) i 0) here
        (ap (λ ws. get_or ws i 0) (there x) ∙ by_index (to.index == i) refl here ∙ sym (ap (λ ws. get_or ws i 0) (there y)))
    by_array false is =
        let other : a ≢ to.array = λ e. eqb-false to.array a is (sym e) in
        ap (λ ws. get_or ws i 0) (elsewhere x other) ∙ same ∙ sym (ap (λ ws. get_or ws i 0) (elsewhere y other))

-- a place after one word is put fits what fitted before
still_fits : (to : Place) (n w : ℕ) (x : Store) → Fits x to (suc n) → Fits (put_word to w x) (place to.array (to.index + 1)) n
still_fits to n w x fits =
    let same : length (words_of (put_word to w x) to.array) ≡ length (words_of x to.array) = ap length (words_same to w x) ∙ length-set (words_of x to.array) to.index w in
    subst (λ m. to.index + 1 + n ≤ m) (sym same) (omega arith)

moved_alike : (n : ℕ) (to from : Place) (x y : Store) → Fits x to n → Fits y to n → SourceSame n from x y → moved n to from x ≡ moved n to from y
moved_alike zero to from x y fits_x fits_y same = refl
moved_alike (suc n) to from x y fits_x fits_y same =
    let w = word_at x from in
    let first : w ≡ word_at y from = same from.index (omega arith) (omega arith) in
    let to' = place to.array (to.index + 1) in
    let from' = place from.array (from.index + 1) in
    let rest = moved_alike n to' from' (put_word to w x) (put_word to w y) (still_fits to n w x fits_x) (still_fits to n w y fits_y)
    (λ i from_here below. word_after to w from.array i x y (omega arith) (omega arith) (same i (omega arith) (omega arith))) in
    ap {B = List ℕ} (λ ws. w ∷ ws) rest ∙ ap (λ w. w ∷ moved n to' from' (put_word to w y)) first

-- the same source words, place by place
source_same : (n : ℕ) (from : Place) (x y : Store) → words_at x from n ≡ words_at y from n → SourceSame n from x y
source_same n from x y same i from_here below = sym (at x) ∙ ap (λ ws. get_or ws (i - from.index) 0) same ∙ at y
  where
    at : (x : Store) → get_or (words_at x from n) (i - from.index) 0 ≡ get_or (words_of x from.array) i 0
    at x =
        get_or-take n (drop from.index (words_of x from.array)) (i - from.index) 0 (omega arith)
        ∙ get_or-drop from.index (words_of x from.array) (i - from.index) 0
        ∙ ap (λ k. get_or (words_of x from.array) k 0) (omega arith)

-- two moves of the same source words leave the same words
pub moves_alike : (n : ℕ) (to from : Place) (x y : Store) → Fits x to n → Fits y to n → words_at x from n ≡ words_at y from n
    → words_at (move_words n to from x) to n ≡ words_at (move_words n to from y) to n
moves_alike n to from x y fits_x fits_y same =
    moved_there n to from x fits_x ∙ moved_alike n to from x y fits_x fits_y (source_same n from x y same) ∙ sym (moved_there n to from y fits_y)

-- how many words there are
pub source_many : (n : ℕ) (from : Place) (store : Store) → Fits store from n → length (words_at store from n) ≡ n
source_many n from store fits = length-take-le n (drop from.index (words_of store from.array)) (omega (arith, length-drop from.index (words_of store from.array)))

-- a move into another array leaves the source words
pub moved_source : (n : ℕ) (to from : Place) (store : Store) → Fits store to n → Fits store from n → from.array ≢ to.array → words_at (move_words n to from store) to n ≡ words_at store from n
moved_source n to from store fits_to fits_from other =
    let words = words_at store from n in
    let many = source_many n from store fits_from in
    ap (λ after. words_at after to n) (sym (put_source n to from store fits_from other))
    ∙ ap (λ k. words_at (put_words to words store) to k) (sym many)
    ∙ put_there words to store (subst (λ k. Fits store to k) (sym many) fits_to)
