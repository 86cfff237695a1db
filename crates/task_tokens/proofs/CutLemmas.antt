-- Steps of the loops that cut a piece.
use Rattle.std.proofs.Common.{◌≡◌, ℕ, suc, ◌+◌, ◌<◌, ◌≤◌, true, false, cond, List, [], ◌∷◌, length, get_or, drop, Option, Some, None, refl, sym, ap, ◌∙◌, arith, add-one}
use Rattle.std.proofs.Math.Seq.{drop-cons}
use Rattle.std.proofs.lemmas.List.{length-drop}
use Rattle.std.specs.Option.{option_map}
use Rattle.task_tokens.specs.Cutting.{end_len, ends_comment}

shifted : (o : Option ℕ) (i : ℕ) → option_map (λ n. n + i) (option_map (λ n. n + 1) o) ≡ option_map (λ n. n + (i + 1)) o
shifted None i = refl
shifted (Some n) i = ap Some (omega arith)

unmoved : (o : Option ℕ) → o ≡ option_map (λ n. n + 0) o
unmoved None = refl
unmoved (Some n) = ap Some (omega arith)

pub end_len-none : (xs : List ℕ) → end_len xs ≡ option_map (λ n. n + 0) (end_len (drop 0 xs))
end_len-none xs = unmoved (end_len xs)

-- the first `*/` at a place, or behind it
end_len-here : (xs : List ℕ) (i : ℕ) → suc i < length xs → end_len (drop i xs) ≡ cond (ends_comment (get_or xs i 0) (get_or xs (suc i) 0)) (Some 2) (option_map (λ n. n + 1) (end_len (drop (suc i) xs)))
end_len-here xs i h =
    let one : i < length xs = omega arith in
    ap end_len (drop-cons xs i 0 one ∙ ap (λ ys. get_or xs i 0 ∷ ys) (drop-cons xs (suc i) 0 h))
    ∙ ap (λ ys. cond (ends_comment (get_or xs i 0) (get_or xs (suc i) 0)) (Some 2) (option_map (λ n. n + 1) (end_len ys))) (sym (drop-cons xs (suc i) 0 h))

pub end_len-found : (xs : List ℕ) (i : ℕ) (whole : Option ℕ) → i + 1 < length xs → ends_comment (get_or xs i 0) (get_or xs (i + 1) 0) ≡ true → whole ≡ option_map (λ n. n + i) (end_len (drop i xs)) → Some (i + 2) ≡ whole
end_len-found xs i whole h t e =
    let h' : suc i < length xs = rw add-one at h in
    let t' : ends_comment (get_or xs i 0) (get_or xs (suc i) 0) ≡ true = rw add-one at t in
    let f = end_len-here xs i h' ∙ ap (λ b. cond b (Some 2) (option_map (λ n. n + 1) (end_len (drop (suc i) xs)))) t' in
    ap Some (omega arith) ∙ sym (e ∙ ap (option_map (λ n. n + i)) f)

pub end_len-more : (xs : List ℕ) (i : ℕ) (whole : Option ℕ) → i + 1 < length xs → ends_comment (get_or xs i 0) (get_or xs (i + 1) 0) ≡ false → whole ≡ option_map (λ n. n + i) (end_len (drop i xs)) → whole ≡ option_map (λ n. n + (i + 1)) (end_len (drop (i + 1) xs))
end_len-more xs i whole h t e =
    let h' : suc i < length xs = rw add-one at h in
    let t' : ends_comment (get_or xs i 0) (get_or xs (suc i) 0) ≡ false = rw add-one at t in
    let f = end_len-here xs i h' ∙ ap (λ b. cond b (Some 2) (option_map (λ n. n + 1) (end_len (drop (suc i) xs)))) t' in
    e ∙ ap (option_map (λ n. n + i)) f ∙ shifted (end_len (drop (suc i) xs)) i ∙ ap (λ k. option_map (λ n. n + (i + 1)) (end_len (drop k xs))) (sym (add-one i))

-- fewer than two bytes are left
pub end_len-short : (ys : List ℕ) → length ys ≤ 1 → end_len ys ≡ None
end_len-short [] h = refl
end_len-short (y ∷ []) h = refl
end_len-short (y ∷ z ∷ ys) h = absurd (omega arith)

pub end_len-over : (xs : List ℕ) (i : ℕ) (whole : Option ℕ) → length xs ≤ i + 1 → whole ≡ option_map (λ n. n + i) (end_len (drop i xs)) → None ≡ whole
end_len-over xs i whole h e =
    let short : length (drop i xs) ≤ 1 = omega (arith, length-drop i xs) in
    sym (e ∙ ap (option_map (λ n. n + i)) (end_len-short (drop i xs) short))
