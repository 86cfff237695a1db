-- Arrays as they lie in memory: a write of a word and of a whole array, and lengths that fit a word.
use Rattle.std.proofs.Common.{◌≡◌, ◌∙◌, ℕ, zero, suc, ◌+◌, ◌<◌, ◌^◌, List, [], ◌∷◌, map, length, refl, ap, sym, subst, get_or, set, take, add-one, arith}
use Rattle.std.proofs.Math.Seq.{map-set_same}
use Rattle.std.proofs.lemmas.List.{map-set, get_or-map, length-set, length-map}
use Rattle.std.specs.List.{AllByRecursion}
use Rattle.walk_run.specs.Arrays.{array_words, IsShort, IsNarrow}
use Rattle.walk_run.specs.Store.{place, with_word}
use Rattle.walk_run.proofs.Shapes.{lengths_alike}

-- an array that has a place is there
pub array_is_there : (words : List (List ℕ)) (array index : ℕ) → index < length (array_words words array) → array < length words
array_is_there [] array index h = omega arith
array_is_there (w ∷ ws) zero index h = omega arith
array_is_there (w ∷ ws) (suc array) index h = omega (arith, array_is_there ws array index h)

-- a word written in an array, where each array is seen by f
pub view_written : {X : Type 0} (f : X → List ℕ) (xs : List X) (x d y : X) (array index word : ℕ)
    → array < length xs → x ≡ get_or xs array d → f y ≡ set (f x) index word
    → map f (set xs array y) ≡ with_word (place array index) word (map f xs)
view_written f xs x d y array index word h is e =
    map-set f xs array y
    ∙ ap (λ w. set (map f xs) array w) (e ∙ ap (λ z. set z index word) (ap f is ∙ sym (get_or-map f xs array d [] h)))

-- an array that is set, where each array is seen by f
pub view_reset : {X : Type 0} (f : X → List ℕ) (xs : List X) (y : X) (number : ℕ) (first : List ℕ) (words : List (List ℕ))
    → map f xs ≡ words → f y ≡ first → map f (set xs number y) ≡ set words number first
view_reset f xs y number first words seen is =
    map-set f xs number y ∙ ap (λ w. set (map f xs) number w) is ∙ ap (λ s. set s number first) seen

-- the length of each array fits a word
pub narrow_at : (words : List (List ℕ)) (array : ℕ) → IsNarrow words → length (array_words words array) < 2 ^ 32
narrow_at [] array narrow = omega arith
narrow_at (w ∷ ws) zero narrow = narrow.0
narrow_at (w ∷ ws) (suc array) narrow = narrow_at ws array narrow.1

-- also where an array is seen by f
pub narrow_seen : {X : Type 0} (f : X → List ℕ) (xs : List X) (words : List (List ℕ)) (array : ℕ) (seen : List ℕ)
    → IsNarrow (map f xs) → map f xs ≡ words → seen ≡ array_words words array → length seen < 2 ^ 32
narrow_seen f xs words array seen narrow is e =
    subst (λ ws. length ws < 2 ^ 32) (sym e) (narrow_at words array (subst IsNarrow is narrow))

-- arrays keep their lengths where one is set to as many words
pub narrow_set : (words : List (List ℕ)) (number : ℕ) (first : List ℕ) → length first ≡ length (array_words words number) → IsNarrow words → IsNarrow (set words number first)
narrow_set words number first same narrow =
    subst (AllByRecursion IsShort) (sym (map-set_same length words number first [] same)) narrow

-- and where a word is written
pub narrow_written : (words : List (List ℕ)) (array index word : ℕ) → IsNarrow words → IsNarrow (with_word (place array index) word words)
narrow_written words array index word narrow =
    narrow_set words array (set (array_words words array) index word) (length-set (array_words words array) index word) narrow

-- one array more is taken over
pub take_over : (xs ys : List (List ℕ)) (n : ℕ) → n < length xs → length xs ≡ length ys → take n xs ≡ take n ys
    → take (suc n) (set xs n (array_words ys n)) ≡ take (suc n) ys
take_over [] ys n there long so_far = absurd (omega arith)
take_over (x ∷ xs) [] n there long so_far = absurd (omega (arith, long))
take_over (x ∷ xs) (y ∷ ys) zero there long so_far = refl
take_over (x ∷ xs) (y ∷ ys) (suc n) there long so_far =
    let head : x ≡ y = cc in
    let rest : take n xs ≡ take n ys = cc in
    let long_rest : length xs ≡ length ys = omega (arith, long) in
    ap (λ z. z ∷ take (suc n) (set xs n (array_words ys n))) head ∙ ap (λ zs. y ∷ zs) (take_over xs ys n (omega (arith, there)) long_rest rest)

-- a step of a loop that takes all over
pub taken_over : (xs ys new : List (List ℕ)) (n : ℕ) (first : List ℕ) → n < length ys → map length xs ≡ map length ys → take n xs ≡ take n ys
    → first ≡ array_words ys n → new ≡ set xs n first → (take (n + 1) new ≡ take (n + 1) ys) × (map length new ≡ map length ys)
taken_over xs ys new n first there shape so_far is set_is =
    let long : length xs ≡ length ys = sym (length-map xs length) ∙ ap length shape ∙ length-map ys length in
    let new_is : new ≡ set xs n (array_words ys n) = set_is ∙ ap (λ w. set xs n w) is in
    let same_length : length (array_words ys n) ≡ length (array_words xs n) = sym (lengths_alike xs ys n shape) in (
      ap (λ k. take k new) (add-one n) ∙ ap (take (suc n)) new_is ∙ take_over xs ys n (omega (arith, there, long)) long so_far ∙ ap (λ k. take k ys) (sym (add-one n)),
      ap (map length) new_is ∙ map-set_same length xs n (array_words ys n) [] same_length ∙ shape,
    )
