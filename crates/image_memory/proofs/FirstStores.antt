-- The stores before the first boot: which words each array has.
use Rattle.std.specs.Prelude.{◌⊎◌, ◌^◌, slice_index, slice_index_or, map}
use Rattle.std.specs.List.{AllByRecursion}
use Rattle.std.proofs.Common.{◌≡◌, ◌∙◌, ℕ, zero, suc, ◌+◌, ◌<◌, inl, inr, List, [], ◌∷◌, length, refl, sym, ap, subst, arith}
use Rattle.std.proofs.Math.ListN as maps
use Rattle.task_ast.specs.declared.tree.Kind.{Kind}
use Rattle.task_ast.specs.declared.tree.Kind.TheVariants.{Nv, Const, Vol}
use Rattle.task_ast.specs.declared.core_form.Array.{Array}
use Rattle.task_ast.specs.declared.core_form.Core.{Core}
use Rattle.task_ast.specs.Readable.{IsWord}
use Rattle.task_ast.specs.WellFormed.{IsCoreArray, IsWellFormed}
use Rattle.walk_run.specs.Store.{Store, word_at, words_of}
use Rattle.line_code.specs.Areas.{free_at_first}
use Rattle.line_laws.specs.Relation.{base_at, room_at}
use Rattle.layout_laws.specs.Layouts.{layout_of}
use Rattle.layout_laws.proofs.Apart.{base_is, base_of, kind_of, room_is, room_of}
use Rattle.run_plan.specs.Cells.{joined, of_home, zeros}
use Rattle.ram_laws.specs.Ram.{AreWhole, IsPlaceOf}
use Rattle.image_memory.proofs.FirstWords.{first_of}

-- as many words of 0
abbrev pub blank : List ℕ → List ℕ
blank words = map (λ _. 0) words

pub blank_at : (words : List ℕ) (i : ℕ) → slice_index (blank words) i ≡ 0
blank_at words i = maps.get_or-map (λ (w : ℕ). 0) words i 0

blank_long : (words : List ℕ) → length (blank words) ≡ length words
blank_long [] = refl
blank_long (w ∷ words) = ap suc (blank_long words)

pub zeros_at : (arrays : List Array) (n : ℕ) → slice_index_or (zeros (map (λ a. a.first) arrays)) n [] ≡ blank (first_of arrays n)
zeros_at arrays n = maps.get_or-map (map (λ (w : ℕ). 0)) (map (λ a. a.first) arrays) n []

pub joined_at : (arrays : List Array) (homes others : List (List ℕ)) (n : ℕ) → length homes ≡ length arrays → length others ≡ length arrays
    → slice_index_or (joined arrays homes others) n [] ≡ of_home (kind_of arrays n) (slice_index_or homes n []) (slice_index_or others n [])
joined_at [] homes others n one two = refl
joined_at (a ∷ arrays) [] others n one two = absurd (omega (arith, one))
joined_at (a ∷ arrays) (h ∷ homes) [] n one two = absurd (omega (arith, two))
joined_at (a ∷ arrays) (h ∷ homes) (o ∷ others) zero one two = refl
joined_at (a ∷ arrays) (h ∷ homes) (o ∷ others) (suc n) one two = joined_at arrays homes others n (omega (arith, one)) (omega (arith, two))

pub joined_long : (arrays : List Array) (homes others : List (List ℕ)) → length homes ≡ length arrays → length others ≡ length arrays → length (joined arrays homes others) ≡ length arrays
joined_long [] homes others one two = two
joined_long (a ∷ arrays) [] others one two = absurd (omega (arith, one))
joined_long (a ∷ arrays) (h ∷ homes) [] one two = absurd (omega (arith, two))
joined_long (a ∷ arrays) (h ∷ homes) (o ∷ others) one two = ap suc (joined_long arrays homes others (omega (arith, one)) (omega (arith, two)))

pub firsts_long : (arrays : List Array) → length (map (λ a. a.first) arrays) ≡ length arrays
firsts_long [] = refl
firsts_long (a ∷ arrays) = ap suc (firsts_long arrays)

pub zeros_long : (words : List (List ℕ)) → length (zeros words) ≡ length words
zeros_long [] = refl
zeros_long (w ∷ words) = ap suc (zeros_long words)

first_long : (arrays : List Array) (n : ℕ) → length (first_of arrays n) ≡ room_of arrays n
first_long [] n = refl
first_long (a ∷ arrays) zero = refl
first_long (a ∷ arrays) (suc n) = first_long arrays n

-- ---- declared words are words

word_fits : (words : List ℕ) → AllByRecursion IsWord words → (i : ℕ) → slice_index words i < 2 ^ 32
word_fits [] all i = omega arith
word_fits (w ∷ words) all zero = all.0
word_fits (w ∷ words) all (suc i) = word_fits words all.1 i

first_fits : (arrays : List Array) → AllByRecursion IsCoreArray arrays → (n i : ℕ) → slice_index (first_of arrays n) i < 2 ^ 32
first_fits [] all n i = omega arith
first_fits (a ∷ arrays) all zero i = word_fits a.first all.0.2 i
first_fits (a ∷ arrays) all (suc n) i = first_fits arrays all.1 n i

-- ---- a store whose arrays are as declared, or blank

abbrev pub IsFirst : Core → (words : List (List ℕ)) → (array : ℕ) → Type 0
IsFirst c words n = (slice_index_or words n [] ≡ first_of c.arrays n) ⊎ (slice_index_or words n [] ≡ blank (first_of c.arrays n))

pub whole_first : (c : Core) (register : ℕ) (store : Store) → IsWellFormed c → ((n : ℕ) → base_at (layout_of c 0) n ≡ register → IsFirst c store.words n) → AreWhole c register store
whole_first c register store well first = record {
  rooms = λ n counts. rooms n (first n counts);
  fits = λ at place. fits at.array at.index (first at.array place.counts);
}
  where
    rooms : (n : ℕ) → IsFirst c store.words n → length (words_of store n) ≡ room_at (layout_of c 0) n
    rooms n (inl is) = ap length is ∙ first_long c.arrays n ∙ sym (room_is free_at_first c.arrays n)
    rooms n (inr is) = ap length is ∙ blank_long (first_of c.arrays n) ∙ first_long c.arrays n ∙ sym (room_is free_at_first c.arrays n)

    fits : (n i : ℕ) → IsFirst c store.words n → slice_index (words_of store n) i < 2 ^ 32
    fits n i (inl is) = subst (λ (ws : List ℕ). slice_index ws i < 2 ^ 32) (sym is) (first_fits c.arrays well.arrays n i)
    fits n i (inr is) = subst (λ (ws : List ℕ). slice_index ws i < 2 ^ 32) (sym is) (subst (λ w. w < 2 ^ 32) (sym (blank_at (first_of c.arrays n) i)) (omega arith))

-- ---- the kind of an array by its register

pub is_nonvolatile : (arrays : List Array) (n : ℕ) → base_of (kind_of arrays n) ≡ 14 → kind_of arrays n ≡ Nv
is_nonvolatile arrays n = by (kind_of arrays n)
  where
    by : (k : Kind) → base_of k ≡ 14 → k ≡ Nv
    by Nv is = refl
    by Const is = absurd (omega (arith, is))
    by Vol is = absurd (omega (arith, is))

pub is_constant : (arrays : List Array) (n : ℕ) → base_of (kind_of arrays n) ≡ 0 → kind_of arrays n ≡ Const
is_constant arrays n = by (kind_of arrays n)
  where
    by : (k : Kind) → base_of k ≡ 0 → k ≡ Const
    by Nv is = absurd (omega (arith, is))
    by Const is = refl
    by Vol is = absurd (omega (arith, is))

pub home_kind : (c : Core) (n : ℕ) → base_at (layout_of c 0) n ≡ 14 → kind_of c.arrays n ≡ Nv
home_kind c n is = is_nonvolatile c.arrays n (sym (base_is free_at_first c.arrays n) ∙ is)

pub constant_kind : (c : Core) (n : ℕ) → base_at (layout_of c 0) n ≡ 0 → kind_of c.arrays n ≡ Const
constant_kind c n is = is_constant c.arrays n (sym (base_is free_at_first c.arrays n) ∙ is)
