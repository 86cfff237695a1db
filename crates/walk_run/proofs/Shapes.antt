-- The words of arrays have the shape of the declarations, and keep it.
use Rattle.std.proofs.Common.{◌≡◌, ◌∙◌, ℕ, zero, suc, ◌+◌, ◌<◌, List, [], ◌∷◌, ◌++◌, append_assoc, map, length, take, drop, Some, refl, sym, ap, set, get_or, add-one, arith, is_some, true≢false}
use Rattle.std.specs.Prelude.{slice_get}
use Rattle.std.proofs.lemmas.Option.{slice_get-get_or}
use Rattle.task_ast.specs.declared.tree.Kind.{Kind}
use Rattle.task_ast.specs.declared.tree.Kind.TheVariants.{Nv, Const, Vol}
use Rattle.task_ast.specs.declared.core_form.Array.{Array}
use Rattle.walk_run.specs.Store.{HasShape, fresh_words, fresh_arrays, first_if_shown, shown_words}
use Rattle.walk_run.specs.Arrays.{array_words, with_fresh}

-- what a loop reads at a place stands there
pub stands : (arrays : List Array) (n : ℕ) (a d : Array) → n < length arrays → a ≡ get_or arrays n d → slice_get arrays n ≡ Some a
stands arrays n a d there is = slice_get-get_or arrays n d there ∙ ap Some (sym is)

one_more : (arrays : List Array) (store : List (List ℕ)) (n : ℕ) (a : Array) → slice_get arrays n ≡ Some a
    → fresh_arrays (take (suc n) arrays) store ≡ with_fresh a n (fresh_arrays (take n arrays) store)
one_more [] store n a is = absurd (true≢false (sym (ap is_some is)))
one_more (b ∷ arrays) [] zero a is = refl
one_more (b ∷ arrays) (w ∷ ws) zero a is = let same : b ≡ a = cc in ap (λ x. fresh_words x.kind x.first w ∷ ws) same
one_more (b ∷ arrays) [] (suc n) a is = refl
one_more (b ∷ arrays) (w ∷ ws) (suc n) a is = ap (λ s. fresh_words b.kind b.first w ∷ s) (one_more arrays ws n a is)

-- one array more is fresh_arrays
pub fresh_next : (arrays : List Array) (store : List (List ℕ)) (n : ℕ) (a : Array) → slice_get arrays n ≡ Some a
    → fresh_arrays (take (n + 1) arrays) store ≡ with_fresh a n (fresh_arrays (take n arrays) store)
fresh_next arrays store n a is = ap (λ k. fresh_arrays (take k arrays) store) (add-one n) ∙ one_more arrays store n a is

-- each array of the declarations is there, with as many words
pub shape_there : (arrays : List Array) (store : List (List ℕ)) (n : ℕ) (a : Array) → HasShape arrays store → slice_get arrays n ≡ Some a
    → (n < length store) × (length (array_words store n) ≡ length a.first)
shape_there [] store n a shape is = absurd (true≢false (sym (ap is_some is)))
shape_there (b ∷ arrays) [] n a shape is = absurd (let e = ap length shape in omega arith)
shape_there (b ∷ arrays) (w ∷ ws) zero a shape is = let same : b ≡ a = cc in (omega arith, heads ∙ ap (λ x. length x.first) same)
  where
    heads : length w ≡ length b.first
    heads = cc
shape_there (b ∷ arrays) (w ∷ ws) (suc n) a shape is = let rest : map length ws ≡ map (λ x. length x.first) arrays = cc in
    let there = shape_there arrays ws n a rest is in (omega (arith, there.0), there.1)

fresh_length : (kind : Kind) (first words : List ℕ) → length words ≡ length first → length (fresh_words kind first words) ≡ length first
fresh_length Vol first words same = refl
fresh_length Nv first words same = same
fresh_length Const first words same = same

-- an array that is fresh_arrays keeps its length
pub shape_fresh : (arrays : List Array) (store : List (List ℕ)) (n : ℕ) (a : Array) → HasShape arrays store → slice_get arrays n ≡ Some a
    → HasShape arrays (with_fresh a n store)
shape_fresh [] store n a shape is = absurd (true≢false (sym (ap is_some is)))
shape_fresh (b ∷ arrays) [] n a shape is = absurd (let e = ap length shape in omega arith)
shape_fresh (b ∷ arrays) (w ∷ ws) zero a shape is =
    let same : b ≡ a = cc in
    let long : length w ≡ length a.first = heads ∙ ap (λ x. length x.first) same in
    let fresh : length (fresh_words a.kind a.first w) ≡ length b.first = fresh_length a.kind a.first w long ∙ sym (ap (λ x. length x.first) same) in
    ap (λ k. k ∷ map length ws) fresh ∙ ap (λ ks. length b.first ∷ ks) tails
  where
    heads : length w ≡ length b.first
    heads = cc

    tails : map length ws ≡ map (λ x. length x.first) arrays
    tails = cc
shape_fresh (b ∷ arrays) (w ∷ ws) (suc n) a shape is =
    let rest : map length ws ≡ map (λ x. length x.first) arrays = cc in
    let head : length w ≡ length b.first = cc in
    ap (λ k. k ∷ map length (with_fresh a n ws)) head ∙ ap (λ ks. length b.first ∷ ks) (shape_fresh arrays ws n a rest is)

-- an array that is kept as it is changes nothing
pub kept_as_is : (store : List (List ℕ)) (n : ℕ) → set store n (array_words store n) ≡ store
kept_as_is [] n = refl
kept_as_is (w ∷ ws) zero = refl
kept_as_is (w ∷ ws) (suc n) = ap (λ s. w ∷ s) (kept_as_is ws n)

-- an array that isn't volatile is kept as it is
pub fresh_otherwise : (a : Array) (n : ℕ) (store : List (List ℕ)) → (a.kind ≡ Vol → ⊥) → with_fresh a n store ≡ store
fresh_otherwise a n store not = words_kept a.kind refl
  where
    words_kept : (kind : Kind) → kind ≡ a.kind → set store n (fresh_words a.kind a.first (array_words store n)) ≡ store
    words_kept Vol is = absurd (not (sym is))
    words_kept Nv is = ap (λ k. set store n (fresh_words k a.first (array_words store n))) (sym is) ∙ kept_as_is store n
    words_kept Const is = ap (λ k. set store n (fresh_words k a.first (array_words store n))) (sym is) ∙ kept_as_is store n

-- a store that is fresh_arrays keeps its shape
pub shape_all_fresh : (arrays : List Array) (store : List (List ℕ)) → HasShape arrays store → HasShape arrays (fresh_arrays arrays store)
shape_all_fresh [] store shape = shape
shape_all_fresh (a ∷ arrays) [] shape = shape
shape_all_fresh (a ∷ arrays) (w ∷ ws) shape =
    let head : length w ≡ length a.first = cc in
    let rest : map length ws ≡ map (λ x. length x.first) arrays = cc in
    ap (λ k. k ∷ map length (fresh_arrays arrays ws)) (fresh_length a.kind a.first w head) ∙ ap (λ ks. length a.first ∷ ks) (shape_all_fresh arrays ws rest)

-- and the store that a program starts with has it
pub shape_declared : (arrays : List Array) → HasShape arrays (map (λ a. a.first) arrays)
shape_declared [] = refl
shape_declared (a ∷ arrays) = ap (λ ks. length a.first ∷ ks) (shape_declared arrays)

-- what a loop over arrays has left to show
pub shown_next : (arrays : List Array) (store : List (List ℕ)) (n : ℕ) (a : Array) → HasShape arrays store → slice_get arrays n ≡ Some a
    → shown_words (drop n arrays) (drop n store) ≡ first_if_shown a.kind (array_words store n) (shown_words (drop (suc n) arrays) (drop (suc n) store))
shown_next [] store n a shape is = absurd (true≢false (sym (ap is_some is)))
shown_next (b ∷ arrays) [] n a shape is = absurd (let e = ap length shape in omega arith)
shown_next (b ∷ arrays) (w ∷ ws) zero a shape is = let same : b ≡ a = cc in ap (λ x. first_if_shown x.kind w (shown_words arrays ws)) same
shown_next (b ∷ arrays) (w ∷ ws) (suc n) a shape is = let rest : map length ws ≡ map (λ x. length x.first) arrays = cc in shown_next arrays ws n a rest is

-- what one array adds stands in front of what the others add
shown_in_front : {A : Type 0} (kind : Kind) (x : A) (rest : List A) → first_if_shown kind x rest ≡ first_if_shown kind x [] ++ rest
shown_in_front Nv x rest = refl
shown_in_front Const x rest = refl
shown_in_front Vol x rest = refl

pub one_shown : (arrays : List Array) (words shown new : List (List ℕ)) (n : ℕ) (a : Array) → HasShape arrays words → slice_get arrays n ≡ Some a
    → new ≡ shown ++ first_if_shown a.kind (array_words words n) []
    → new ++ shown_words (drop (n + 1) arrays) (drop (n + 1) words) ≡ shown ++ shown_words (drop n arrays) (drop n words)
one_shown arrays words shown new n a shape is added =
    ap (λ k. new ++ shown_words (drop k arrays) (drop k words)) (add-one n)
    ∙ ap (λ xs. xs ++ shown_words (drop (suc n) arrays) (drop (suc n) words)) added
    ∙ append_assoc shown (first_if_shown a.kind (array_words words n) []) _
    ∙ ap (λ xs. shown ++ xs) (sym (shown_in_front a.kind (array_words words n) _) ∙ sym (shown_next arrays words n a shape is))

-- arrays with the same lengths, one by one
pub lengths_alike : (xs ys : List (List ℕ)) (n : ℕ) → map length xs ≡ map length ys → length (array_words xs n) ≡ length (array_words ys n)
lengths_alike [] [] n same = refl
lengths_alike [] (y ∷ ys) n same = absurd (let e = ap length same in omega arith)
lengths_alike (x ∷ xs) [] n same = absurd (let e = ap length same in omega arith)
lengths_alike (x ∷ xs) (y ∷ ys) zero same = cc
lengths_alike (x ∷ xs) (y ∷ ys) (suc n) same = let rest : map length xs ≡ map length ys = cc in lengths_alike xs ys n rest
