-- Words behind an array's end, and words of a range one more at a time.
use Rattle.std.proofs.Common.{◌≡◌, ℕ, zero, suc, ◌+◌, ◌<◌, ◌≤◌, List, [], ◌∷◌, ◌++◌, length, take, drop, get_or, set, refl, sym, ap, ◌∙◌, arith}
use Rattle.std.proofs.lemmas.List.{get_or_past, at_drop_more, drop-drop}
use Rattle.std.proofs.Math.Seq.{set_out, take-add}
use Rattle.walk_run.specs.Store.{Store, place, put_word, word_at, words_of}
use Rattle.task_attempts.specs.Copies.{put_words}

-- no word is there
pub no_word : (store : Store) (array index : ℕ) → length (words_of store array) ≤ index → word_at store (place array index) ≡ 0
no_word store array index past = get_or_past (words_of store array) index 0 past

-- the words of an array that is set to itself
set_itself : (words : List (List ℕ)) (a : ℕ) → set words a (get_or words a []) ≡ words
set_itself [] a = refl
set_itself (ws ∷ words) zero = refl
set_itself (ws ∷ words) (suc a) = ap (λ rest. ws ∷ rest) (set_itself words a)

-- none is written there
pub not_put : (store : Store) (array index word : ℕ) → length (words_of store array) ≤ index → put_word (place array index) word store ≡ store
not_put store array index word past =
    let same : set store.words array (set (words_of store array) index word) ≡ store.words =
    ap (λ ws. set store.words array ws) (set_out (words_of store array) index word past) ∙ set_itself store.words array in
    ap (λ words. record store { words = words }) same

-- one more word is read
pub word_read : (ws old read : List ℕ) (i n : ℕ) → old ≡ take n (drop i ws) → read ≡ old ++ take 1 (drop (i + n) ws) → read ≡ take (n + 1) (drop i ws)
word_read ws old read i n so_far is =
    is ∙ ap (λ front. front ++ take 1 (drop (i + n) ws)) so_far ∙ ap (λ rest. take n (drop i ws) ++ take 1 rest) (sym (drop-drop n i ws)) ∙ sym (take-add n 1 (drop i ws))

-- one more word is put
pub word_put : (words : List ℕ) (i ta ti word : ℕ) (store after : Store) → i < length words → word ≡ get_or words i 0 → after ≡ put_word (place ta (ti + i)) word store
    → put_words (place ta (ti + (i + 1))) (drop (i + 1) words) after ≡ put_words (place ta (ti + i)) (drop i words) store
word_put words i ta ti word store after within is written =
    let to : ti + (i + 1) ≡ ti + i + 1 = omega arith in
    let put : after ≡ put_word (place ta (ti + i)) (get_or words i 0) store = written ∙ ap (λ w. put_word (place ta (ti + i)) w store) is in
    (λ j. put_words (place ta (to j)) (drop (i + 1) words) (put j)) ∙ sym (at_drop_more (λ ws. put_words (place ta (ti + i)) ws store) words i 0 within)
