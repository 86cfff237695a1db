-- Words that are moved one by one, and words that are put back.
use Rattle.std.proofs.Common.{◌≡◌, ◌≢◌, ℕ, zero, suc, ◌+◌, ◌≤◌, List, [], ◌∷◌, length, take, drop, set, refl, sym, ap, subst, ◌∙◌, arith, drop-cons, get_or-set_other}
use Rattle.walk_run.specs.StoreLaws.{words_same}
use Rattle.attempt_laws.specs.Records.{Fits}
use Rattle.task_attempts.specs.Copies.{put_words, words_at}
use Rattle.walk_run.specs.Store.{Store, place, put_word, word_at, words_of}
use Rattle.walk_run.specs.Walk.{move_words}
use Rattle.walk_run.specs.declared.place.Place.{Place}

-- words put into a list from a place on
abbrev pub put_list : List ℕ → ℕ → List ℕ → List ℕ
put_list [] i xs = xs
put_list (w ∷ ws) i xs = put_list ws (i + 1) (set xs i w)

put_list_behind : (ws : List ℕ) (i x : ℕ) (xs : List ℕ) → put_list ws (suc i) (x ∷ xs) ≡ x ∷ put_list ws i xs
put_list_behind [] i x xs = refl
put_list_behind (w ∷ ws) i x xs =
    let e : suc i + 1 ≡ suc (i + 1) = omega arith in
    ap (λ k. put_list ws k (x ∷ set xs i w)) e ∙ put_list_behind ws (i + 1) x (set xs i w)

-- words that were put are read back
pub read_back : (ws : List ℕ) (i : ℕ) (xs : List ℕ) → i + length ws ≤ length xs → take (length ws) (drop i (put_list ws i xs)) ≡ ws
read_back [] i xs room = refl
read_back (w ∷ ws) zero [] room = absurd (omega arith)
read_back (w ∷ ws) zero (x ∷ xs) room =
    ap (take (suc (length ws))) (put_list_behind ws 0 w xs) ∙ ap {B = List ℕ} (λ r. w ∷ r) (read_back ws zero xs (omega arith))
read_back (w ∷ ws) (suc i) [] room = absurd (omega arith)
read_back (w ∷ ws) (suc i) (x ∷ xs) room =
    ap (λ r. take (suc (length ws)) (drop (suc i) r)) (put_list_behind (w ∷ ws) i x xs) ∙ read_back (w ∷ ws) i xs (omega arith)

pub words_after : (ws : List ℕ) (at : Place) (store : Store) → words_of (put_words at ws store) at.array ≡ put_list ws at.index (words_of store at.array)
words_after [] at store = refl
words_after (w ∷ ws) at store =
    words_after ws (place at.array (at.index + 1)) (put_word at w store) ∙ ap (put_list ws (at.index + 1)) (words_same at w store)

-- moving puts some words, as many as are moved
pub record IsPut (n : ℕ) (to : Place) (store after : Store) : Type 0 where
  pub words : List ℕ
  pub many : length words ≡ n
  pub is : after ≡ put_words to words store

moved_is_put : (n : ℕ) (to from : Place) (store : Store) → IsPut n to store (move_words n to from store)
moved_is_put zero to from store = record { words = []; many = refl; is = refl }
moved_is_put (suc n) to from store =
    let w = word_at store from in
    let more = moved_is_put n (place to.array (to.index + 1)) (place from.array (from.index + 1)) (put_word to w store) in
    record { words = w ∷ more.words; many = ap suc more.many; is = more.is }

-- the words that stand at a destination after a move, put there again, give what the move gives
pub put_back : (n : ℕ) (to from : Place) (store : Store) → Fits store to n → put_words to (words_at (move_words n to from store) to n) store ≡ move_words n to from store
put_back n to from store room =
    let m = moved_is_put n to from store in
    let xs = words_of store to.array in
    let read : words_at (put_words to m.words store) to n ≡ m.words =
    ap (λ r. take n (drop to.index r)) (words_after m.words to store)
    ∙ ap (λ k. take k (drop to.index (put_list m.words to.index xs))) (sym m.many)
    ∙ read_back m.words to.index xs (subst (λ k. to.index + k ≤ length xs) (sym m.many) room) in
    ap (λ after. put_words to (words_at after to n) store) m.is ∙ ap (λ words. put_words to words store) read ∙ sym m.is

-- the words of a source in another array, put to the destination, give what the move gives
pub put_source : (n : ℕ) (to from : Place) (store : Store) → Fits store from n → from.array ≢ to.array → put_words to (words_at store from n) store ≡ move_words n to from store
put_source zero to from store room other = refl
put_source (suc n) to from store room other =
    let xs = words_of store from.array in
    let w = word_at store from in
    let after = put_word to w store in
    let same : words_of after from.array ≡ xs = get_or-set_other store.words to.array from.array _ [] other in
    let step : suc from.index ≡ from.index + 1 = omega arith in
    let front : words_at store from (suc n) ≡ w ∷ take n (drop (from.index + 1) xs) =
    ap (take (suc n)) (drop-cons xs from.index 0 (omega arith)) ∙ ap (λ k. w ∷ take n (drop k xs)) step in
    let room' : from.index + 1 + n ≤ length xs = omega arith in
    ap (λ words. put_words to words store) front
    ∙ ap (λ ys. put_words (place to.array (to.index + 1)) (take n (drop (from.index + 1) ys)) after) (sym same)
    ∙ put_source n (place to.array (to.index + 1)) (place from.array (from.index + 1)) after (subst (λ ys. from.index + 1 + n ≤ length ys) (sym same) room') other
