-- Words that are put to places: what is true stays, becomes true, and is left alone elsewhere; and what arrays keep.
use Rattle.std.proofs.Common.{◌≡◌, ◌∙◌, ◌≢◌, ℕ, zero, suc, true, false, List, [], ◌∷◌, length, map, get_or, set, refl, sym, ap, subst, arith, length-set}
use Rattle.std.proofs.lemmas.List.{ext_get_or}
use Rattle.std.specs.Prelude.{slice_get, Option, Some, None}
use Rattle.task_ast.specs.declared.tree.Kind.{Kind}
use Rattle.task_ast.specs.declared.tree.Kind.TheVariants.{Nv, Const, Vol}
use Rattle.task_ast.specs.declared.core_form.Array.{Array}
use Rattle.task_ast.specs.declared.core_form.Core.{Core}
use Rattle.task_ast.specs.CoreSites.{room}
use Rattle.region_split.specs.Regions.{is_nonvolatile, keeps_words}
use Rattle.walk_run.specs.declared.place.Place.{Place}
use Rattle.walk_run.specs.Store.{shown_words, first_if_shown, words_of, Store, place, word_at, with_word, put_word, fresh_words, fresh_arrays}
use Rattle.walk_run.specs.Laws.{HasItsConstants, AreAlike}
use Rattle.walk_run.specs.StoreLaws.{words_other, rooms_stay}
use Rattle.run_plan.specs.Cells.{of_home, joined, lost_words, lost, zeros}
use Rattle.plan_restore.specs.Found.{IsHome}

-- ---- one word

stays_in : (v : ℕ → ℕ) (xs : List ℕ) (i j : ℕ) → get_or xs j 0 ≡ v j → get_or (set xs i (v i)) j 0 ≡ v j
stays_in v [] i j h = h
stays_in v (x ∷ xs) zero zero h = refl
stays_in v (x ∷ xs) zero (suc j) h = h
stays_in v (x ∷ xs) (suc i) zero h = h
stays_in v (x ∷ xs) (suc i) (suc j) h = stays_in (λ k. v (suc k)) xs i j h

abbrev put_in : List (List ℕ) → (a i w : ℕ) → List (List ℕ)
put_in xs a i w = set xs a (set (get_or xs a []) i w)

stays_among : (v : ℕ → ℕ → ℕ) (xs : List (List ℕ)) (a i b j : ℕ) → get_or (get_or xs b []) j 0 ≡ v b j → get_or (get_or (put_in xs a i (v a i)) b []) j 0 ≡ v b j
stays_among v [] a i b j h = h
stays_among v (x ∷ xs) zero i zero j h = stays_in (v 0) x i j h
stays_among v (x ∷ xs) zero i (suc b) j h = h
stays_among v (x ∷ xs) (suc a) i zero j h = h
stays_among v (x ∷ xs) (suc a) i (suc b) j h = stays_among (λ k. v (suc k)) xs a i b j h

-- what a place should have stays there, whatever place is given what it should have
pub put_stays : (v : Place → ℕ) (p q : Place) (store : Store) → word_at store q ≡ v q → word_at (put_word p (v p) store) q ≡ v q
put_stays v p q store h = stays_among (λ a i. v (place a i)) store.words p.array p.index q.array q.index h

-- a place in another array is left alone
pub put_apart : (p q : Place) (w : ℕ) (store : Store) → q.array ≢ p.array → word_at (put_word p w store) q ≡ word_at store q
put_apart p q w store apart = ap (λ ws. get_or ws q.index 0) (words_other p w store q.array apart)

-- ---- arrays that are there with their words

pub record Shaped (c : Core) (words : List (List ℕ)) : Type 0 where
  pub count : length words ≡ length c.arrays
  pub rooms : (a : ℕ) → keeps_words (slice_get c.arrays a) ≡ true → length (get_or words a []) ≡ room (slice_get c.arrays a)

abbrev pub as_store : List (List ℕ) → Store
as_store words = record { words = words; pointers = [] }

pub put_shaped : (c : Core) (at : Place) (w : ℕ) (words : List (List ℕ)) → Shaped c words → Shaped c (with_word at w words)
put_shaped c at w words h = record {
  count = length-set words at.array (set (get_or words at.array []) at.index w) ∙ h.count;
  rooms = λ a kept. rooms_stay at w (as_store words) a ∙ h.rooms a kept;
}

-- ---- arrays from two lists

home_of : (k : Kind) (h o : List ℕ) → is_nonvolatile k ≡ true → of_home k h o ≡ h
home_of Nv h o is = refl
home_of Const h o is = absurd (cc is)
home_of Vol h o is = absurd (cc is)

pub joined_kept : (arrays : List Array) (homes others : List (List ℕ)) (a : ℕ) → length homes ≡ length arrays → length others ≡ length arrays → keeps_words (slice_get arrays a) ≡ true
    → get_or (joined arrays homes others) a [] ≡ get_or homes a []
joined_kept [] homes others a one two kept = absurd (cc kept)
joined_kept (x ∷ arrays) [] others a one two kept = absurd (omega (arith, one))
joined_kept (x ∷ arrays) (h ∷ homes) [] a one two kept = absurd (omega (arith, two))
joined_kept (x ∷ arrays) (h ∷ homes) (o ∷ others) zero one two kept = home_of x.kind h o kept
joined_kept (x ∷ arrays) (h ∷ homes) (o ∷ others) (suc a) one two kept = joined_kept arrays homes others a (omega (arith, one)) (omega (arith, two)) kept

pub joined_count : (arrays : List Array) (homes others : List (List ℕ)) → length homes ≡ length arrays → length others ≡ length arrays → length (joined arrays homes others) ≡ length arrays
joined_count [] homes others one two = two
joined_count (x ∷ arrays) [] others one two = absurd (omega (arith, one))
joined_count (x ∷ arrays) (h ∷ homes) [] one two = absurd (omega (arith, two))
joined_count (x ∷ arrays) (h ∷ homes) (o ∷ others) one two = ap suc (joined_count arrays homes others (omega (arith, one)) (omega (arith, two)))

pub joined_shaped : (c : Core) (homes others : List (List ℕ)) → Shaped c homes → length others ≡ length c.arrays → Shaped c (joined c.arrays homes others)
joined_shaped c homes others h two = record {
  count = joined_count c.arrays homes others h.count two;
  rooms = λ a kept. ap length (joined_kept c.arrays homes others a h.count two kept) ∙ h.rooms a kept;
}

-- ---- arrays when a task begins

fresh_home : (k : Kind) (first words : List ℕ) → is_nonvolatile k ≡ true → fresh_words k first words ≡ words
fresh_home Nv first words is = refl
fresh_home Const first words is = absurd (cc is)
fresh_home Vol first words is = absurd (cc is)

pub fresh_kept : (arrays : List Array) (words : List (List ℕ)) (a : ℕ) → keeps_words (slice_get arrays a) ≡ true → get_or (fresh_arrays arrays words) a [] ≡ get_or words a []
fresh_kept [] words a kept = absurd (cc kept)
fresh_kept (x ∷ arrays) [] a kept = refl
fresh_kept (x ∷ arrays) (w ∷ words) zero kept = fresh_home x.kind x.first w kept
fresh_kept (x ∷ arrays) (w ∷ words) (suc a) kept = fresh_kept arrays words a kept

pub fresh_count : (arrays : List Array) (words : List (List ℕ)) → length (fresh_arrays arrays words) ≡ length words
fresh_count [] words = refl
fresh_count (x ∷ arrays) [] = refl
fresh_count (x ∷ arrays) (w ∷ words) = ap suc (fresh_count arrays words)

-- ---- arrays behind a failure

lost_home : (k : Kind) (words : List ℕ) → is_nonvolatile k ≡ true → lost_words k words ≡ words
lost_home Nv words is = refl
lost_home Const words is = refl
lost_home Vol words is = absurd (cc is)

pub lost_kept : (arrays : List Array) (words : List (List ℕ)) (a : ℕ) → keeps_words (slice_get arrays a) ≡ true → get_or (lost arrays words) a [] ≡ get_or words a []
lost_kept [] words a kept = absurd (cc kept)
lost_kept (x ∷ arrays) [] a kept = refl
lost_kept (x ∷ arrays) (w ∷ words) zero kept = lost_home x.kind w kept
lost_kept (x ∷ arrays) (w ∷ words) (suc a) kept = lost_kept arrays words a kept

pub lost_count : (arrays : List Array) (words : List (List ℕ)) → length (lost arrays words) ≡ length words
lost_count [] words = refl
lost_count (x ∷ arrays) [] = refl
lost_count (x ∷ arrays) (w ∷ words) = ap suc (lost_count arrays words)

-- ---- arrays as they are declared, and zeros

map_long : {A B : Type 0} (f : A → B) (xs : List A) → length (map f xs) ≡ length xs
map_long f [] = refl
map_long f (x ∷ xs) = ap suc (map_long f xs)

declared_room : (arrays : List Array) (a : ℕ) → length (get_or (map (λ x. x.first) arrays) a []) ≡ room (slice_get arrays a)
declared_room [] a = refl
declared_room (x ∷ arrays) zero = refl
declared_room (x ∷ arrays) (suc a) = declared_room arrays a

pub declared_shaped : (c : Core) → Shaped c (map (λ x. x.first) c.arrays)
declared_shaped c = record { count = map_long (λ x. x.first) c.arrays; rooms = λ a kept. declared_room c.arrays a }

zero_room : (words : List (List ℕ)) (a : ℕ) → length (get_or (zeros words) a []) ≡ length (get_or words a [])
zero_room [] a = refl
zero_room (w ∷ words) zero = map_long (λ _. 0) w
zero_room (w ∷ words) (suc a) = zero_room words a

pub zeros_shaped : (c : Core) (words : List (List ℕ)) → Shaped c words → Shaped c (zeros words)
zeros_shaped c words h = record { count = map_long (map (λ _. 0)) words ∙ h.count; rooms = λ a kept. zero_room words a ∙ h.rooms a kept }

-- ---- arrays that a run shows

first_shown : (k : Kind) (x y : List ℕ) (xs ys : List (List ℕ)) → (is_nonvolatile k ≡ true → x ≡ y) → xs ≡ ys → first_if_shown k x xs ≡ first_if_shown k y ys
first_shown Nv x y xs ys same rest = λ i. same refl i ∷ rest i
first_shown Const x y xs ys same rest = rest
first_shown Vol x y xs ys same rest = rest

pub shown_same : (arrays : List Array) (xs ys : List (List ℕ)) → length xs ≡ length ys → ((a : ℕ) → keeps_words (slice_get arrays a) ≡ true → get_or xs a [] ≡ get_or ys a []) → shown_words arrays xs ≡ shown_words arrays ys
shown_same [] xs ys long same = refl
shown_same (z ∷ arrays) [] [] long same = refl
shown_same (z ∷ arrays) [] (y ∷ ys) long same = absurd (omega (arith, long))
shown_same (z ∷ arrays) (x ∷ xs) [] long same = absurd (omega (arith, long))
shown_same (z ∷ arrays) (x ∷ xs) (y ∷ ys) long same = first_shown z.kind x y (shown_words arrays xs) (shown_words arrays ys) (same 0) (shown_same arrays xs ys (omega (arith, long)) (λ a kept. same (suc a) kept))

-- ---- arrays by their places

-- two stores have the same words at the places of nonvolatile arrays
abbrev pub HaveSameWords : Core → Store → Store → Type 0
HaveSameWords c s t = (at : Place) → IsHome c at → word_at s at ≡ word_at t at

pub arrays_same : (c : Core) (s u : Store) → Shaped c s.words → Shaped c u.words → HaveSameWords c s u → (a : ℕ) → keeps_words (slice_get c.arrays a) ≡ true → words_of s a ≡ words_of u a
arrays_same c s u one two same a kept =
    ext_get_or 0 (get_or s.words a []) (get_or u.words a []) (one.rooms a kept ∙ sym (two.rooms a kept))
    (λ i less. same (place a i) (record { kept = kept; inside = (let room_is = one.rooms a kept in omega (arith, less, room_is)) }))

-- ---- constants

-- an array isn't constant
abbrev pub NotConst : Core → ℕ → Type 0
NotConst c n = (a : Array) → slice_get c.arrays n ≡ Some a → a.kind ≡ Const → ⊥

-- a nonvolatile one isn't
pub kept_not_const : (c : Core) (n : ℕ) → keeps_words (slice_get c.arrays n) ≡ true → NotConst c n
kept_not_const c n kept a is const = let both : true ≡ false = sym kept ∙ ap keeps_words is ∙ ap is_nonvolatile const in cc both

-- nor is it volatile
pub kept_not_volatile : (c : Core) (n : ℕ) → keeps_words (slice_get c.arrays n) ≡ true → (a : Array) → slice_get c.arrays n ≡ Some a → a.kind ≡ Vol → ⊥
kept_not_volatile c n kept a is vol = let both : true ≡ false = sym kept ∙ ap keeps_words is ∙ ap is_nonvolatile vol in cc both

-- the array that is there
pub kept_there : (o : Option Array) → keeps_words o ≡ true → (a : Array) × (o ≡ Some a)
kept_there None kept = absurd (cc kept)
kept_there (Some a) kept = (a, refl)

pub const_put : (c : Core) (at : Place) (w : ℕ) (s : Store) → NotConst c at.array → HasItsConstants c s → HasItsConstants c (put_word at w s)
const_put c at w s not h n a is const = words_other at w s n (λ same. not a (subst (λ m. slice_get c.arrays m ≡ Some a) same is) const) ∙ h n a is const

of_other : (k : Kind) (h o : List ℕ) → k ≡ Const → of_home k h o ≡ o
of_other Nv h o is = absurd (cc is)
of_other Const h o is = refl
of_other Vol h o is = refl

pub joined_const : (arrays : List Array) (homes others : List (List ℕ)) (n : ℕ) (a : Array) → length homes ≡ length arrays → length others ≡ length arrays → slice_get arrays n ≡ Some a → a.kind ≡ Const
    → get_or (joined arrays homes others) n [] ≡ get_or others n []
joined_const [] homes others n a one two is const = refl
joined_const (x ∷ arrays) [] others n a one two is const = absurd (omega (arith, one))
joined_const (x ∷ arrays) (h ∷ homes) [] n a one two is const = absurd (omega (arith, two))
joined_const (x ∷ arrays) (h ∷ homes) (o ∷ others) zero a one two is const = let same : x ≡ a = cc is in of_other x.kind h o (ap (λ z. z.kind) same ∙ const)
joined_const (x ∷ arrays) (h ∷ homes) (o ∷ others) (suc n) a one two is const = joined_const arrays homes others n a (omega (arith, one)) (omega (arith, two)) is const

fresh_stays : (k : Kind) (first words : List ℕ) → (k ≡ Vol → ⊥) → fresh_words k first words ≡ words
fresh_stays Nv first words not = refl
fresh_stays Const first words not = refl
fresh_stays Vol first words not = absurd (not refl)

pub fresh_alike : (arrays : List Array) (words : List (List ℕ)) (n : ℕ) (a : Array) → slice_get arrays n ≡ Some a → (a.kind ≡ Vol → ⊥) → get_or (fresh_arrays arrays words) n [] ≡ get_or words n []
fresh_alike [] words n a is not = refl
fresh_alike (x ∷ arrays) [] n a is not = refl
fresh_alike (x ∷ arrays) (w ∷ words) zero a is not = let same : x ≡ a = cc is in fresh_stays x.kind x.first w (subst (λ z. z.kind ≡ Vol → ⊥) (sym same) not)
fresh_alike (x ∷ arrays) (w ∷ words) (suc n) a is not = fresh_alike arrays words n a is not

lost_stays : (k : Kind) (words : List ℕ) → (k ≡ Vol → ⊥) → lost_words k words ≡ words
lost_stays Nv words not = refl
lost_stays Const words not = refl
lost_stays Vol words not = absurd (not refl)

pub lost_alike : (arrays : List Array) (words : List (List ℕ)) (n : ℕ) (a : Array) → slice_get arrays n ≡ Some a → (a.kind ≡ Vol → ⊥) → get_or (lost arrays words) n [] ≡ get_or words n []
lost_alike [] words n a is not = refl
lost_alike (x ∷ arrays) [] n a is not = refl
lost_alike (x ∷ arrays) (w ∷ words) zero a is not = let same : x ≡ a = cc is in lost_stays x.kind w (subst (λ z. z.kind ≡ Vol → ⊥) (sym same) not)
lost_alike (x ∷ arrays) (w ∷ words) (suc n) a is not = lost_alike arrays words n a is not

pub declared_const : (arrays : List Array) (n : ℕ) (a : Array) → slice_get arrays n ≡ Some a → get_or (map (λ x. x.first) arrays) n [] ≡ a.first
declared_const [] n a is = cc
declared_const (x ∷ arrays) zero a is = let same : x ≡ a = cc is in ap (λ z. z.first) same
declared_const (x ∷ arrays) (suc n) a is = declared_const arrays n a is

-- ---- stores with which a task begins

begun_word : (k : Kind) (first v w : List ℕ) → ((k ≡ Vol → ⊥) → v ≡ w) → fresh_words k first v ≡ fresh_words k first w
begun_word Nv first v w same = same (λ e. cc e)
begun_word Const first v w same = same (λ e. cc e)
begun_word Vol first v w same = refl

pub begun_same : (arrays : List Array) (x y : List (List ℕ)) → length x ≡ length arrays → length y ≡ length arrays → ((n : ℕ) (a : Array) → slice_get arrays n ≡ Some a → (a.kind ≡ Vol → ⊥) → get_or x n [] ≡ get_or y n [])
    → fresh_arrays arrays x ≡ fresh_arrays arrays y
begun_same [] [] [] one two same = refl
begun_same [] [] (w ∷ y) one two same = absurd (omega (arith, two))
begun_same [] (v ∷ x) y one two same = absurd (omega (arith, one))
begun_same (a ∷ arrays) [] y one two same = absurd (omega (arith, one))
begun_same (a ∷ arrays) (v ∷ x) [] one two same = absurd (omega (arith, two))
begun_same (a ∷ arrays) (v ∷ x) (w ∷ y) one two same =
    λ i. begun_word a.kind a.first v w (same 0 a refl) i ∷ begun_same arrays x y (omega (arith, one)) (omega (arith, two)) (λ n b is not. same (suc n) b is not) i

-- nonvolatile arrays and constants
pub alike_by : (c : Core) (x y : Store) → ((n : ℕ) → keeps_words (slice_get c.arrays n) ≡ true → words_of x n ≡ words_of y n) → HasItsConstants c x → HasItsConstants c y → AreAlike c x y
alike_by c x y homes one two n a is not = by_kind a.kind refl
  where
    by_kind : (k : Kind) → a.kind ≡ k → words_of x n ≡ words_of y n
    by_kind Nv e = homes n (ap keeps_words is ∙ ap is_nonvolatile e)
    by_kind Const e = one n a is e ∙ sym (two n a is e)
    by_kind Vol e = absurd (not e)
