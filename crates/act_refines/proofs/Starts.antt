-- What a beginning makes of RAM: pointers at nothing, and volatile words as they are declared.
use Rattle.std.specs.Prelude.{◌==◌, cond, filter, slice_index, slice_index_or, sum_by}
use Rattle.std.specs.List.{AllByRecursion}
use Rattle.std.proofs.Common.{◌≡◌, ◌≢◌, ◌∙◌, ℕ, zero, suc, ◌+◌, ◌*◌, ◌^◌, ◌<◌, ◌≤◌, Bool, true, false, List, [], ◌∷◌, ◌++◌, length, length-append, refl, sym, ap, arith, eqb-true, eq-eqb}
use Rattle.std.proofs.lemmas.List.Sums.{sum_by-cons}
use Rattle.fram_ram.specs.Memories.{put}
use Rattle.task_ast.specs.declared.tree.Kind.{Kind}
use Rattle.task_ast.specs.declared.tree.Kind.TheVariants.{Nv, Const, Vol}
use Rattle.task_ast.specs.declared.core_form.Array.{Array}
use Rattle.task_ast.specs.Readable.{IsWord}
use Rattle.task_ast.specs.WellFormed.{IsCoreArray, ram_size}
use Rattle.task_attempts.specs.Costs.{is_volatile}
use Rattle.walk_run.specs.Store.{fresh_arrays, fresh_words}
use Rattle.line_code.specs.declared.areas.Free.{Free}
use Rattle.line_code.specs.Areas.{area_at, area_of, areas_from, free_of, pointer_at}
use Rattle.word_code.specs.Beginnings.{volatile_count, volatile_words}
use Rattle.act_laws.specs.Blocks.{AllGood, Block, array_starts, list_code, list_makes, pointer_cells, pointers, starts, word_starts}
use Rattle.act_laws.specs.CodeLaws.{ram_cell}
use Rattle.act_laws.proofs.BeginActs.{all_good_more, list_code_more}
use Rattle.cell_laws.proofs.Puts.{hit, miss}

makes_more : (b : Block) (is js : List b.Item) (m : ℕ → ℕ) → list_makes b (is ++ js) m ≡ list_makes b js (list_makes b is m)
makes_more b [] js m = refl
makes_more b (i ∷ is) js m = makes_more b is js (b.makes i m)

-- ---- pointers

-- what a pointer's code makes of memory
abbrev unset_at : (from : ℕ) → (ℕ → ℕ) → ℕ → ℕ
unset_at from m = put (put m (1048576 + pointer_at from) 0) (1048576 + (pointer_at from + 1)) 0

unset_other : (from : ℕ) (m : ℕ → ℕ) (a : ℕ) → 1048576 + pointer_at from ≢ a → 1048576 + (pointer_at from + 1) ≢ a → unset_at from m a ≡ m a
unset_other from m a one two = miss (put m (1048576 + pointer_at from) 0) (1048576 + (pointer_at from + 1)) 0 a two ∙ miss m (1048576 + pointer_at from) 0 a one

pub pointers_before : (from n : ℕ) (m : ℕ → ℕ) (a : ℕ) → a < 1048896 + 2 * from → list_makes pointers (pointer_cells from n) m a ≡ m a
pointers_before from zero m a low = refl
pointers_before from (suc n) m a low =
    pointers_before (from + 1) n (unset_at from m) a (omega (arith, low)) ∙ unset_other from m a (λ e. absurd (omega (arith, low, e))) (λ e. absurd (omega (arith, low, e)))

less : (a b : ℕ) → a ≤ b → a ≢ b → a + 1 ≤ b
less a b low other = omega (arith, low, other)

one_more : (a b : ℕ) → (a == b) ≡ false → a ≤ b → a + 1 ≤ b
one_more a b is low = less a b low (λ e. absurd (cc (is, eq-eqb a b e)))

pub pointers_there : (from n q : ℕ) (m : ℕ → ℕ) → from ≤ q → q < from + n → list_makes pointers (pointer_cells from n) m (1048576 + (pointer_at q + 1)) ≡ 0
pointers_there from zero q m low high = absurd (omega (arith, low, high))
pointers_there from (suc n) q m low high = by_test (from == q) refl (λ below. pointers_there (from + 1) n q (unset_at from m) below (omega (arith, high)))
  where
    by_test : (b : Bool) → (from == q) ≡ b → (from + 1 ≤ q → list_makes pointers (pointer_cells (from + 1) n) (unset_at from m) (1048576 + (pointer_at q + 1)) ≡ 0)
        → list_makes pointers (pointer_cells (from + 1) n) (unset_at from m) (1048576 + (pointer_at q + 1)) ≡ 0
    by_test true is later =
        let same : from ≡ q = eqb-true from q is in
        pointers_before (from + 1) n (unset_at from m) (1048576 + (pointer_at q + 1)) (omega (arith, same))
        ∙ ap (λ i. unset_at from m (1048576 + (pointer_at i + 1))) (sym same) ∙ hit (put m (1048576 + pointer_at from) 0) (1048576 + (pointer_at from + 1)) 0
    by_test false is later = later (one_more from q is low)

pub pointers_long : (from n : ℕ) → length (list_code pointers (pointer_cells from n)) ≡ 2 * n
pointers_long from zero = refl
pointers_long from (suc n) = omega (arith, pointers_long (from + 1) n)

-- ---- the words of an array

starts_before : (at : ℕ) (words : List ℕ) (m : ℕ → ℕ) (a : ℕ) → a < 1048576 + at → list_makes starts (word_starts at words) m a ≡ m a
starts_before at [] m a low = refl
starts_before at (w ∷ words) m a low = starts_before (at + 1) words (put m (1048576 + at) w) a (omega (arith, low)) ∙ miss m (1048576 + at) w a (λ e. absurd (omega (arith, low, e)))

starts_there : (at : ℕ) (words : List ℕ) (m : ℕ → ℕ) (i a : ℕ) → i < length words → a ≡ 1048576 + at + i → list_makes starts (word_starts at words) m a ≡ slice_index words i
starts_there at [] m i a low is = absurd (omega (arith, low))
starts_there at (w ∷ words) m zero a low is =
    let here : 1048576 + at ≡ a = omega (arith, is) in
    starts_before (at + 1) words (put m (1048576 + at) w) a (omega (arith, is)) ∙ ap (put m (1048576 + at) w) (sym here) ∙ hit m (1048576 + at) w
starts_there at (w ∷ words) m (suc i) a low is = starts_there (at + 1) words (put m (1048576 + at) w) i a (omega (arith, low)) (omega (arith, is))

starts_long : (at : ℕ) (words : List ℕ) → length (list_code starts (word_starts at words)) ≡ 3 * length words
starts_long at [] = refl
starts_long at (w ∷ words) = omega (arith, starts_long (at + 1) words)

starts_good : (at : ℕ) (words : List ℕ) → at + length words ≤ 4096 → AllByRecursion IsWord words → AllGood starts (word_starts at words)
starts_good at [] few fit = tt
starts_good at (w ∷ words) few fit = (record { cell = ram_cell at (omega (arith, few)); number = let small : w < 2 ^ 32 = fit.0 in omega (arith, small) }, starts_good (at + 1) words (omega (arith, few)) fit.1)

-- ---- those of all arrays

pub arrays_before : (at : ℕ) (arrays : List Array) (m : ℕ → ℕ) (a : ℕ) → a < 1048576 + at → list_makes starts (array_starts at arrays) m a ≡ m a
arrays_before at [] m a low = refl
arrays_before at (x ∷ arrays) m a low =
    let words : List ℕ = volatile_words x.kind x.first in
    ap (λ (n : ℕ → ℕ). n a) (makes_more starts (word_starts at words) (array_starts (at + length words) arrays) m)
    ∙ arrays_before (at + length words) arrays (list_makes starts (word_starts at words) m) a (omega (arith, low)) ∙ starts_before at words m a low

-- an array in front of the others
head_there : (k : Kind) (f : Free) (first old : List ℕ) (arrays : List Array) (m : ℕ → ℕ) (i : ℕ) → (area_of f k (length first)).base ≡ 15 → i < (area_of f k (length first)).room
    → list_makes starts (word_starts f.volatile (volatile_words k first) ++ array_starts (f.volatile + length (volatile_words k first)) arrays) m (1048576 + i + (area_of f k (length first)).offset) ≡ slice_index (fresh_words k first old) i
head_there Nv f first old arrays m i is low = absurd (omega (arith, is))
head_there Const f first old arrays m i is low = absurd (omega (arith, is))
head_there Vol f first old arrays m i is low =
    ap (λ (n : ℕ → ℕ). n (1048576 + i + f.volatile)) (makes_more starts (word_starts f.volatile first) (array_starts (f.volatile + length first) arrays) m)
    ∙ arrays_before (f.volatile + length first) arrays (list_makes starts (word_starts f.volatile first) m) (1048576 + i + f.volatile) (omega (arith, low))
    ∙ starts_there f.volatile first m i (1048576 + i + f.volatile) low (omega arith)

free_is : (k : Kind) (f : Free) (first : List ℕ) → (free_of f k (length first)).volatile ≡ f.volatile + length (volatile_words k first)
free_is Nv f first = omega arith
free_is Const f first = omega arith
free_is Vol f first = refl

-- each volatile word is as declared
pub arrays_there : (f : Free) (arrays : List Array) (old : List (List ℕ)) (n : ℕ) (m : ℕ → ℕ) (i : ℕ) → length old ≡ length arrays → (area_at (areas_from f arrays) n).base ≡ 15 → i < (area_at (areas_from f arrays) n).room
    → list_makes starts (array_starts f.volatile arrays) m (1048576 + i + (area_at (areas_from f arrays) n).offset) ≡ slice_index (slice_index_or (fresh_arrays arrays old) n []) i
arrays_there f [] old zero m i long is low = absurd (omega (arith, is))
arrays_there f [] old (suc n) m i long is low = absurd (omega (arith, is))
arrays_there f (x ∷ arrays) [] n m i long is low = absurd (omega (arith, long))
arrays_there f (x ∷ arrays) (w ∷ old) zero m i long is low = head_there x.kind f x.first w arrays m i is low
arrays_there f (x ∷ arrays) (w ∷ old) (suc n) m i long is low =
    let words : List ℕ = volatile_words x.kind x.first in
    let g : Free = free_of f x.kind (length x.first) in
    let a : ℕ = 1048576 + i + (area_at (areas_from g arrays) n).offset in
    ap (λ (n : ℕ → ℕ). n a) (makes_more starts (word_starts f.volatile words) (array_starts (f.volatile + length words) arrays) m)
    ∙ ap (λ at. list_makes starts (array_starts at arrays) (list_makes starts (word_starts f.volatile words) m) a) (sym (free_is x.kind f x.first))
    ∙ arrays_there g arrays old n (list_makes starts (word_starts f.volatile words) m) i (omega (arith, long)) is low

pub arrays_long : (at : ℕ) (arrays : List Array) → length (list_code starts (array_starts at arrays)) ≡ 3 * volatile_count arrays
arrays_long at [] = refl
arrays_long at (x ∷ arrays) =
    let words : List ℕ = volatile_words x.kind x.first in
    let here : length (list_code starts (word_starts at words)) ≡ 3 * length words = starts_long at words in
    let rest : length (list_code starts (array_starts (at + length words) arrays)) ≡ 3 * volatile_count arrays = arrays_long (at + length words) arrays in
    let both = length-append (list_code starts (word_starts at words)) (list_code starts (array_starts (at + length words) arrays)) in
    ap length (list_code_more starts (word_starts at words) (array_starts (at + length words) arrays)) ∙ both ∙ (omega (arith, here, rest, sum_by-cons (λ a. length (volatile_words a.kind a.first)) x arrays))

words_fit : (k : Kind) (first : List ℕ) → AllByRecursion IsWord first → AllByRecursion IsWord (volatile_words k first)
words_fit Nv first fit = tt
words_fit Const first fit = tt
words_fit Vol first fit = fit

pub arrays_good : (at : ℕ) (arrays : List Array) → at + volatile_count arrays ≤ 4096 → AllByRecursion IsCoreArray arrays → AllGood starts (array_starts at arrays)
arrays_good at [] few fit = tt
arrays_good at (x ∷ arrays) few fit =
    let words : List ℕ = volatile_words x.kind x.first in
    let sum = sum_by-cons (λ a. length (volatile_words a.kind a.first)) x arrays in
    all_good_more starts (word_starts at words) (array_starts (at + length words) arrays) (starts_good at words (omega (arith, few, sum)) (words_fit x.kind x.first fit.0.2)) (arrays_good (at + length words) arrays (omega (arith, few, sum)) fit.1)

size_is : (k : Kind) (first : List ℕ) → length (volatile_words k first) ≡ ram_size k (length first)
size_is Nv first = refl
size_is Const first = refl
size_is Vol first = refl

pub count_is : (arrays : List Array) → volatile_count arrays ≡ sum_by (λ a. ram_size a.kind (length a.first)) arrays
count_is [] = refl
count_is (x ∷ arrays) =
    omega (arith, size_is x.kind x.first, count_is arrays, sum_by-cons (λ a. length (volatile_words a.kind a.first)) x arrays, sum_by-cons (λ a. ram_size a.kind (length a.first)) x arrays)

-- the volatile words as weights count them
abbrev volatile_ones : List Array → List Array
volatile_ones arrays = filter (λ a. is_volatile a.kind) arrays

abbrev words_in : List Array → ℕ
words_in arrays = sum_by (λ a. length a.first) arrays

one_counted : (k : Kind) (x : Array) (rest : List Array) → words_in (cond (is_volatile k) (x ∷ rest) rest) ≡ length (volatile_words k x.first) + words_in rest
one_counted Nv x rest = omega arith
one_counted Const x rest = omega arith
one_counted Vol x rest = sum_by-cons (λ a. length a.first) x rest

pub where_is : (arrays : List Array) → volatile_count arrays ≡ words_in (volatile_ones arrays)
where_is [] = refl
where_is (x ∷ arrays) =
    sum_by-cons (λ a. length (volatile_words a.kind a.first)) x arrays ∙ ap (λ n. length (volatile_words x.kind x.first) + n) (where_is arrays) ∙ sym (one_counted x.kind x (volatile_ones arrays))
