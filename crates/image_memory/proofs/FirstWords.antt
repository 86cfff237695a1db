-- The words of FRAM with which an image begins.
use Rattle.std.specs.Prelude.{replicate, slice_index, slice_index_or, map, flat_map}
use Rattle.std.proofs.Common.{◌≡◌, ◌∙◌, ℕ, zero, suc, ◌+◌, ◌-◌, ◌<◌, ◌≤◌, List, [], ◌∷◌, ◌++◌, length, refl, sym, ap, subst, arith, append_assoc, length-append}
use Rattle.std.proofs.lemmas.List.{get_or_append_left, get_or-append-add, get_or-append_right, get_or_past, get_or-replicate, length-replicate}
use Rattle.task_ast.specs.declared.tree.Kind.{Kind}
use Rattle.task_ast.specs.declared.tree.Kind.TheVariants.{Nv, Const, Vol}
use Rattle.task_ast.specs.declared.core_form.Array.{Array}
use Rattle.word_code.specs.Beginnings.{home_words}
use Rattle.word_code.specs.CodeOf.{constant_words, constants_of, fram_of, fram_with, homes_of}
use Rattle.layout_laws.proofs.Apart.{before, kind_of, room_of, total, where_same}

-- the declared words of an array
abbrev pub first_of : List Array → ℕ → List ℕ
first_of arrays n = slice_index_or (map (λ a. a.first) arrays) n []

-- ---- the words of the arrays of a kind, one after another

module _ (kind : Kind) (pick : Kind → List ℕ → List ℕ) (takes : (words : List ℕ) → pick kind words ≡ words) (count : (k : Kind) (words : List ℕ) → length (pick k words) ≡ where_same k kind (length words)) where
  abbrev pub picked : List Array → List ℕ
  picked [] = []
  picked (a ∷ rest) = pick a.kind a.first ++ picked rest

  pub picked_long : (arrays : List Array) → length (picked arrays) ≡ total arrays kind
  picked_long [] = refl
  picked_long (a ∷ rest) = length-append (pick a.kind a.first) (picked rest) ∙ omega (arith, count a.kind a.first, picked_long rest)

  -- an array's word stands behind those of the arrays before it
  pub picked_at : (arrays : List Array) (n i : ℕ) → kind_of arrays n ≡ kind → i < room_of arrays n → slice_index (picked arrays) (before arrays kind n + i) ≡ slice_index (first_of arrays n) i
  picked_at [] n i is inside = absurd (omega (arith, inside))
  picked_at (a ∷ rest) zero i is inside =
      let none : 0 + i ≡ i = omega arith in
      let own : pick a.kind a.first ≡ a.first = ap (λ k. pick k a.first) is ∙ takes a.first in
      ap (slice_index (pick a.kind a.first ++ picked rest)) none ∙ ap (λ (ws : List ℕ). slice_index (ws ++ picked rest) i) own ∙ get_or_append_left a.first (picked rest) 0 i inside
  picked_at (a ∷ rest) (suc n) i is inside =
      let sum_is : where_same a.kind kind (length a.first) + before rest kind n + i ≡ length (pick a.kind a.first) + (before rest kind n + i) = omega (arith, count a.kind a.first) in
      ap (slice_index (pick a.kind a.first ++ picked rest)) sum_is ∙ get_or-append-add (pick a.kind a.first) (picked rest) (before rest kind n + i) 0 ∙ picked_at rest n i is inside

-- ---- homes and constants

homes_taken : (words : List ℕ) → home_words Nv words ≡ words
homes_taken words = refl

homes_count : (k : Kind) (words : List ℕ) → length (home_words k words) ≡ where_same k Nv (length words)
homes_count Nv words = refl
homes_count Const words = refl
homes_count Vol words = refl

homes_are : (arrays : List Array) → homes_of arrays ≡ picked Nv home_words homes_taken homes_count arrays
homes_are [] = refl
homes_are (a ∷ rest) = ap (λ (ws : List ℕ). home_words a.kind a.first ++ ws) (homes_are rest)

pub homes_long : (arrays : List Array) → length (homes_of arrays) ≡ total arrays Nv
homes_long arrays = ap length (homes_are arrays) ∙ picked_long Nv home_words homes_taken homes_count arrays

pub home_at : (arrays : List Array) (n i : ℕ) → kind_of arrays n ≡ Nv → i < room_of arrays n → slice_index (homes_of arrays) (before arrays Nv n + i) ≡ slice_index (first_of arrays n) i
home_at arrays n i is inside = ap (λ (ws : List ℕ). slice_index ws (before arrays Nv n + i)) (homes_are arrays) ∙ picked_at Nv home_words homes_taken homes_count arrays n i is inside

constants_taken : (words : List ℕ) → constant_words Const words ≡ words
constants_taken words = refl

constants_count : (k : Kind) (words : List ℕ) → length (constant_words k words) ≡ where_same k Const (length words)
constants_count Nv words = refl
constants_count Const words = refl
constants_count Vol words = refl

constants_are : (arrays : List Array) → constants_of arrays ≡ picked Const constant_words constants_taken constants_count arrays
constants_are [] = refl
constants_are (a ∷ rest) = ap (λ (ws : List ℕ). constant_words a.kind a.first ++ ws) (constants_are rest)

pub constants_long : (arrays : List Array) → length (constants_of arrays) ≡ total arrays Const
constants_long arrays = ap length (constants_are arrays) ∙ picked_long Const constant_words constants_taken constants_count arrays

pub constant_at : (arrays : List Array) (n i : ℕ) → kind_of arrays n ≡ Const → i < room_of arrays n → slice_index (constants_of arrays) (before arrays Const n + i) ≡ slice_index (first_of arrays n) i
constant_at arrays n i is inside =
    ap (λ (ws : List ℕ). slice_index ws (before arrays Const n + i)) (constants_are arrays) ∙ picked_at Const constant_words constants_taken constants_count arrays n i is inside

-- ---- the whole of FRAM

-- behind the state word, where there are constants
there : (homes : List ℕ) (w : ℕ) (words : List ℕ) (k : ℕ) → slice_index (fram_with homes (w ∷ words)) (suc k) ≡ slice_index (homes ++ (replicate (4096 - length homes) 0 ++ w ∷ words)) k
there homes w words k = ap (λ (ws : List ℕ). slice_index ws k) (append_assoc homes (replicate (4096 - length homes) 0) (w ∷ words))

pub state_there : (homes constants : List ℕ) → slice_index (fram_with homes constants) 0 ≡ 258
state_there homes [] = refl
state_there homes (w ∷ words) = refl

-- behind the state word
pub home_there : (homes constants : List ℕ) (k : ℕ) → k < length homes → slice_index (fram_with homes constants) (suc k) ≡ slice_index homes k
home_there homes [] k few = refl
home_there homes (w ∷ words) k few = there homes w words k ∙ get_or_append_left homes (replicate (4096 - length homes) 0 ++ w ∷ words) 0 k few

-- behind the homes, up to where the constants begin
pub none_between : (homes constants : List ℕ) (k : ℕ) → length homes ≤ k → k < 4096 → slice_index (fram_with homes constants) (suc k) ≡ 0
none_between homes [] k far near = get_or_past homes k 0 far
none_between homes (w ∷ words) k far near =
    let room : k - length homes < 4096 - length homes = omega (arith, far, near) in
    let long : length {A = ℕ} (replicate (4096 - length homes) 0) ≡ 4096 - length homes = length-replicate (4096 - length homes) 0 in
    there homes w words k ∙ get_or-append_right homes (replicate (4096 - length homes) 0 ++ w ∷ words) (length homes) k 0 refl far
    ∙ get_or_append_left (replicate (4096 - length homes) 0) (w ∷ words) 0 (k - length homes) (omega (arith, room, long)) ∙ get_or-replicate (4096 - length homes) (k - length homes) 0 0 room

-- the constants
pub constant_there : (homes constants : List ℕ) (j : ℕ) → length homes ≤ 4096 → j < length constants → slice_index (fram_with homes constants) (suc (4096 + j)) ≡ slice_index constants j
constant_there homes [] j few inside = absurd (omega (arith, inside))
constant_there homes (w ∷ words) j few inside =
    let zeros : List ℕ = replicate (4096 - length homes) 0 in
    let long : length zeros ≡ 4096 - length homes = length-replicate (4096 - length homes) 0 in
    let far : length homes ≤ 4096 + j = omega (arith, few) in
    let first : 4096 + j - length homes ≡ length zeros + j = omega (arith, long, few) in
    there homes w words (4096 + j) ∙ get_or-append_right homes (zeros ++ w ∷ words) (length homes) (4096 + j) 0 refl far ∙ ap (slice_index (zeros ++ w ∷ words)) first ∙ get_or-append-add zeros (w ∷ words) j 0

-- and nothing behind them
pub none_behind : (homes constants : List ℕ) (k : ℕ) → length homes ≤ 4096 → 4096 + length constants ≤ k → slice_index (fram_with homes constants) (suc k) ≡ 0
none_behind homes [] k few far = get_or_past homes k 0 (omega (arith, few, far))
none_behind homes (w ∷ words) k few far =
    let zeros : List ℕ = replicate (4096 - length homes) 0 in
    let long : length zeros ≡ 4096 - length homes = length-replicate (4096 - length homes) 0 in
    let one : length (homes ++ (zeros ++ w ∷ words)) ≡ length homes + length (zeros ++ w ∷ words) = length-append homes (zeros ++ w ∷ words) in
    let two : length (zeros ++ w ∷ words) ≡ length zeros + length (w ∷ words) = length-append zeros (w ∷ words) in
    there homes w words k ∙ get_or_past (homes ++ (zeros ++ w ∷ words)) k 0 (omega (arith, one, two, long, few, far))
