-- Words that begin, and homes.
use Rattle.std.specs.Prelude.{◌≡◌, ℕ, ◌+◌, ◌<◌, ◌≤◌, List, [], ◌∷◌, ◌++◌, length, drop, get_or}
use Rattle.std.proofs.Common.{length-append, ap, sym, ◌∙◌, arith}
use Rattle.std.proofs.lemmas.List.{drop_more}
use Rattle.std.proofs.lemmas.List.Sums.{sum_by-cons}
use Rattle.task_ast.specs.declared.tree.Kind.{Kind}
use Rattle.task_ast.specs.declared.tree.Kind.TheVariants.{Nv, Const, Vol}
use Rattle.task_ast.specs.declared.core_form.Array.{Array}
use Rattle.line_code.specs.Areas.{total}
use Rattle.word_code.specs.CodeOf.{homes_of}
use Rattle.word_code.specs.Beginnings.{home_words, volatile_words, home_count, volatile_count}

abbrev all_size : Array → ℕ
all_size a = length a.first

abbrev home_size : Array → ℕ
home_size a = length (home_words a.kind a.first)

abbrev volatile_size : Array → ℕ
volatile_size a = length (volatile_words a.kind a.first)

home_part : (k : Kind) (words : List ℕ) → length (home_words k words) ≤ length words
home_part Nv words = omega arith
home_part Const words = omega arith
home_part Vol words = omega arith

pub home_few : (arrays : List Array) → home_count arrays ≤ total arrays
home_few [] = omega arith
home_few (a ∷ rest) = omega (arith, sum_by-cons home_size a rest, sum_by-cons all_size a rest, home_part a.kind a.first, home_few rest)

volatile_part : (k : Kind) (words : List ℕ) → length (volatile_words k words) ≤ length words
volatile_part Nv words = omega arith
volatile_part Const words = omega arith
volatile_part Vol words = omega arith

pub volatile_few : (arrays : List Array) → volatile_count arrays ≤ total arrays
volatile_few [] = omega arith
volatile_few (a ∷ rest) = omega (arith, sum_by-cons volatile_size a rest, sum_by-cons all_size a rest, volatile_part a.kind a.first, volatile_few rest)

-- the count from an array on
pub home_at : (arrays : List Array) (k : ℕ) (a : Array) → k < length arrays → a ≡ get_or arrays k a → home_count (drop k arrays) ≡ length (home_words a.kind a.first) + home_count (drop (k + 1) arrays)
home_at arrays k a within is = ap home_count (drop_more arrays k a within ∙ ap (λ x. x ∷ drop (k + 1) arrays) (sym is)) ∙ sum_by-cons home_size a (drop (k + 1) arrays)

pub volatile_at : (arrays : List Array) (k : ℕ) (a : Array) → k < length arrays → a ≡ get_or arrays k a → volatile_count (drop k arrays) ≡ length (volatile_words a.kind a.first) + volatile_count (drop (k + 1) arrays)
volatile_at arrays k a within is = ap volatile_count (drop_more arrays k a within ∙ ap (λ x. x ∷ drop (k + 1) arrays) (sym is)) ∙ sum_by-cons volatile_size a (drop (k + 1) arrays)

-- the homes and the state word have no more than their area
pub homes_few : (arrays : List Array) → length (homes_of arrays) ≤ total arrays
homes_few [] = omega arith
homes_few (a ∷ rest) = omega (arith, sum_by-cons all_size a rest, length-append (home_words a.kind a.first) (homes_of rest), home_part a.kind a.first, homes_few rest)

pub fram_short : (o m n : List ℕ) (arrays : List Array) → o ≡ [] → m ≡ o ++ 258 ∷ [] → n ≡ m ++ homes_of arrays → total arrays ≤ 4096 → length n ≤ 4097
fram_short o m n arrays none one two few =
    let all : n ≡ 258 ∷ homes_of arrays = two ∙ ap (λ (x : List ℕ). x ++ homes_of arrays) (one ∙ ap (λ (x : List ℕ). x ++ 258 ∷ []) none) in
    omega (arith, ap length all, homes_few arrays, few)
