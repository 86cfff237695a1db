-- Within the limits of programs the sizes of plans are within theirs.
use Rattle.std.proofs.Common.{◌≡◌, ℕ, zero, suc, ◌+◌, ◌-◌, ◌*◌, ◌≤◌, Bool, true, false, not, ◌&&◌, ◌||◌, cond, List, [], ◌∷◌, ◌++◌, length, map, Option, slice_get, sum_by, refl, sym, ap, subst, arith}
use Rattle.std.specs.List.{AllByRecursion, range_with_len}
use Rattle.std.proofs.Math.Nat.{max-le}
use Rattle.std.proofs.lemmas.List.{length-append}
use Rattle.std.proofs.lemmas.List.FromFn.{length-range_with_len}
use Rattle.std.proofs.lemmas.List.Sums.{sum_by-cons}
use Rattle.task_ast.specs.declared.tree.Kind.{Kind}
use Rattle.task_ast.specs.declared.tree.Kind.TheVariants.{Nv, Const, Vol}
use Rattle.task_ast.specs.declared.core_form.Array.{Array}
use Rattle.task_ast.specs.declared.core_form.CoreTask.{CoreTask}
use Rattle.task_ast.specs.declared.core_form.Core.{Core}
use Rattle.task_ast.specs.CoreNodes.{task_nodes}
use Rattle.task_ast.specs.CoreSites.{room}
use Rattle.task_ast.specs.Pointing.{pointing}
use Rattle.task_ast.specs.WellFormed.{IsCoreTask, IsWellFormed, fram_size, ram_size}
use Rattle.io_depend.specs.Sets.{has}
use Rattle.io_depend.specs.Depend.{flow, dependents}
use Rattle.region_split.specs.Regions.{all_touches, writes_in, writes_before, is_nonvolatile, keeps_words, is_copy, regions}
use Rattle.word_isa.specs.declared.parts.Scheme.{Scheme}
use Rattle.word_isa.specs.declared.parts.Scheme.TheVariants.{Undo, Bank}
use Rattle.task_attempts.specs.Costs.{is_volatile, words_where, first_words}
use Rattle.run_plan.specs.PlanOf.{most_regions}
use Rattle.run_plan.specs.Sizes.{drops_of, all_first_words, safety_words, task_words, task_marks, kept_in, most, is_constant, AreWithin}
use Rattle.plan_laws.proofs.Sums.{sum_less, sums_less, filter_sum, places_sum, sum_more, filter_few}

-- ---- words of arrays

counted : (counts : Kind → Bool) (size : Kind → ℕ → ℕ) → ((k : Kind) (n : ℕ) → cond (counts k) n 0 ≤ size k n) → (c : Core) → words_where counts c ≤ sum_by (λ a. size a.kind (length a.first)) c.arrays
counted counts size less c =
    subst (λ n. n ≤ sum_by (λ a. size a.kind (length a.first)) c.arrays) (sym (filter_sum (λ a. length a.first) (λ a. counts a.kind) c.arrays))
    (sum_less (λ a. cond (counts a.kind) (length a.first) 0) (λ a. size a.kind (length a.first)) c.arrays (λ a. less a.kind (length a.first)))

vol_size : (k : Kind) (n : ℕ) → cond (is_volatile k) n 0 ≤ ram_size k n
vol_size Nv n = omega arith
vol_size Const n = omega arith
vol_size Vol n = omega arith

both_sizes : (k : Kind) (n : ℕ) → cond (is_nonvolatile k) n 0 + cond (is_constant k) n 0 ≤ fram_size k n
both_sizes Nv n = omega arith
both_sizes Const n = omega arith
both_sizes Vol n = omega arith

volatile_few : (c : Core) → IsWellFormed c → words_where is_volatile c ≤ 2048
volatile_few c w = omega (arith, counted is_volatile ram_size vol_size c, w.ram)

fram_few : (c : Core) → IsWellFormed c → words_where is_nonvolatile c + words_where is_constant c ≤ 2048
fram_few c w =
    let nv = filter_sum (λ a. length a.first) (λ a. is_nonvolatile a.kind) c.arrays in
    let constant = filter_sum (λ a. length a.first) (λ a. is_constant a.kind) c.arrays in
    let both = sums_less (λ a. cond (is_nonvolatile a.kind) (length a.first) 0) (λ a. cond (is_constant a.kind) (length a.first) 0) (λ a. fram_size a.kind (length a.first)) c.arrays (λ a. both_sizes a.kind (length a.first)) in
    omega (arith, nv, constant, both, w.fram)

pointers_few : (c : Core) → IsWellFormed c → length c.pointers ≤ 256
pointers_few c w =
    let one = length-append (map (λ a. a.name) c.arrays) c.pointers in
    let two = length-append (map (λ a. a.name) c.arrays ++ c.pointers) (map (λ p. p.name) c.peripherals) in
    let three = length-append (map (λ a. a.name) c.arrays ++ c.pointers ++ map (λ p. p.name) c.peripherals) (map (λ t. t.name) c.tasks) in
    omega (arith, one, two, three, w.few_names)

-- ---- drops

-- 0 + 1 + .. + (n - 1)
abbrev triangle : ℕ → ℕ
triangle zero = 0
triangle (suc n) = n + triangle n

dependents_few : (t : CoreTask) (k : ℕ) → length (dependents t k) ≤ length t.sites - k
dependents_few t k = omega (arith, filter_few (has (flow t k).sites) (range_with_len (k + 1) (length t.sites - k)), length-range_with_len (k + 1) (length t.sites - k))

last_drops : (t : CoreTask) (m j : ℕ) → m + j ≡ length t.sites + 1 → sum_by (λ k. length (dependents t k)) (range_with_len m j) ≤ triangle j
last_drops t m zero is = omega arith
last_drops t m (suc j) is =
    omega (arith, sum_by-cons (λ k. length (dependents t k)) m (range_with_len (m + 1) j), last_drops t (m + 1) j (omega (arith, is)), dependents_few t m, is)

triangle_rises : (n m : ℕ) → triangle n ≤ triangle (m + n)
triangle_rises n zero = let e : zero + n ≡ n = omega arith in subst (λ k. triangle n ≤ triangle k) (sym e) (omega arith)
triangle_rises n (suc m) = let e : suc m + n ≡ suc (m + n) = omega arith in subst (λ k. triangle n ≤ triangle k) (sym e) (omega (arith, triangle_rises n m))

triangle_128 : triangle 128 ≡ 8128
triangle_128 = refl

drops_few : (t : CoreTask) → length t.sites ≤ 128 → drops_of t ≤ 8128
drops_few t few =
    let e : 128 - length t.sites + length t.sites ≡ 128 = omega (arith, few) in
    omega (arith, last_drops t 1 (length t.sites) (omega arith), triangle_rises (length t.sites) (128 - length t.sites), ap triangle e, triangle_128)

-- ---- words that regions write first

-- a nonvolatile array that is written here first, or before
split_test : (k b i : Bool) (n : ℕ) → cond (k && b) n 0 + cond (k && (i && not b)) n 0 ≤ cond (k && (b || i)) n 0
split_test false b i n = omega arith
split_test true true true n = omega arith
split_test true true false n = omega arith
split_test true false true n = omega arith
split_test true false false n = omega arith

kept_test : (k b : Bool) (n : ℕ) → cond (k && b) n 0 ≤ cond k n 0
kept_test false b n = omega arith
kept_test true true n = omega arith
kept_test true false n = omega arith

module _ (c : Core) (t : CoreTask) where
  abbrev keeps : ℕ → Bool
  keeps a = keeps_words (slice_get c.arrays a)

  abbrev words : ℕ → ℕ
  words a = room (slice_get c.arrays a)

  abbrev before : (region array : ℕ) → Bool
  before r a = writes_before (all_touches (pointing t) t.body) r a

  abbrev within : (region array : ℕ) → Bool
  within r a = writes_in (all_touches (pointing t) t.body) r a

  abbrev places : List ℕ
  places = range_with_len 0 (length c.arrays)

  firsts_before : (r : ℕ) → sum_by (first_words c t) (range_with_len 0 r) ≤ sum_by (λ a. cond (keeps a && before r a) (words a) 0) places
  firsts_before zero = omega arith
  firsts_before (suc r) =
      let next : suc r ≡ r + 1 = omega arith in
      let last : 0 + r ≡ r = omega arith in
      omega (
        arith,
        firsts_before r,
        ap (λ n. sum_by (first_words c t) (range_with_len 0 n)) next,
        sum_more (first_words c t) 0 r,
        ap (first_words c t) last,
        filter_sum words (λ a. keeps a && (within r a && not (before r a))) places,
        sums_less (λ a. cond (keeps a && before r a) (words a) 0) (λ a. cond (keeps a && (within r a && not (before r a))) (words a) 0) (λ a. cond (keeps a && (before r a || within r a)) (words a) 0) places
            (λ a. split_test (keeps a) (before r a) (within r a) (words a)),
      )

  abbrev some_words : Option Array → ℕ
  some_words a = cond (keeps_words a) (room a) 0

  firsts_few : IsWellFormed c → all_first_words c t ≤ 2048
  firsts_few w =
      let all = sum_less (λ a. cond (keeps a && before (regions t) a) (words a) 0) (λ a. cond (keeps a) (words a) 0) places (λ a. kept_test (keeps a) (before (regions t) a) (words a)) in
      let items : sum_by (λ a. cond (keeps a) (words a) 0) places ≡ sum_by (λ (a : Array). cond (is_nonvolatile a.kind) (length a.first) 0) c.arrays = places_sum some_words (λ a. some_words (slice_get c.arrays a)) 0 c.arrays (λ i. let e : 0 + i ≡ i = omega arith in ap (λ i. some_words (slice_get c.arrays i)) e) in
      omega (arith, firsts_before (regions t), all, items, filter_sum (λ a. length a.first) (λ a. is_nonvolatile a.kind) c.arrays, fram_few c w)

regions_few : (t : CoreTask) → length t.sites ≤ 128 → regions t ≤ 129
regions_few t few = omega (arith, filter_few is_copy t.sites, few)

-- ---- tasks

safety_few : (scheme : Scheme) (c : Core) (t : CoreTask) → IsWellFormed c → length t.sites ≤ 128 → safety_words scheme c t ≤ 9869
safety_few Undo c t w few = omega (arith, regions_few t few, firsts_few c t w)
safety_few Bank c t w few = omega (arith, fram_few c w)

one_task : (scheme : Scheme) (c : Core) (t : CoreTask) → IsWellFormed c → length t.sites ≤ 128 → task_words scheme c t ≤ 25 * task_nodes t + 49559
one_task scheme c t w few = omega (arith, few, drops_few t few, pointers_few c w, volatile_few c w, safety_few scheme c t w few)

all_tasks : (scheme : Scheme) (c : Core) → IsWellFormed c → (ts : List CoreTask) → AllByRecursion (IsCoreTask c) ts → sum_by (task_words scheme c) ts ≤ 25 * sum_by task_nodes ts + 49559 * length ts
all_tasks scheme c w [] all = omega arith
all_tasks scheme c w (t ∷ ts) all =
    omega (arith, sum_by-cons (task_words scheme c) t ts, sum_by-cons task_nodes t ts, one_task scheme c t w all.0.sites.few, all_tasks scheme c w ts all.1)

all_marks : (c : Core) (ts : List CoreTask) → AllByRecursion (IsCoreTask c) ts → sum_by task_marks ts ≤ sum_by task_nodes ts + 9153 * length ts
all_marks c [] all = omega arith
all_marks c (t ∷ ts) all = omega (arith, sum_by-cons task_marks t ts, sum_by-cons task_nodes t ts, all.0.sites.few, drops_few t all.0.sites.few, all_marks c ts all.1)

-- ---- the greatest of tasks

most_few : (f : CoreTask → ℕ) (n : ℕ) (ts : List CoreTask) → AllByRecursion (λ t. f t ≤ n) ts → most f ts ≤ n
most_few f n [] all = omega arith
most_few f n (t ∷ ts) all = max-le all.0 (most_few f n ts all.1)

most_regions_few : (ts : List CoreTask) → AllByRecursion (λ t. regions t ≤ 129) ts → most_regions ts ≤ 129
most_regions_few [] all = omega arith
most_regions_few (t ∷ ts) all = max-le all.0 (most_regions_few ts all.1)

each : {P Q : CoreTask → Type 0} (ts : List CoreTask) → ((t : CoreTask) → P t → Q t) → AllByRecursion P ts → AllByRecursion Q ts
each [] step all = tt
each (t ∷ ts) step all = (step t all.0, each ts step all.1)

-- all of it
pub sizes_within : (scheme : Scheme) (c : Core) → IsWellFormed c → AreWithin scheme c
sizes_within scheme c w = record {
  code = omega (arith, all_tasks scheme c w c.tasks w.tasks, w.nodes, w.few_tasks);
  marks = omega (arith, all_marks c c.tasks w.tasks, w.nodes, w.few_tasks);
  fram = omega (
    arith,
    fram_few c w,
    most_regions_few c.tasks (each c.tasks (λ t core. regions_few t core.sites.few) w.tasks),
    most_few (λ t. length t.sites) 128 c.tasks (each c.tasks (λ t core. core.sites.few) w.tasks),
    most_few kept_in 16384 c.tasks (each c.tasks (λ t core. core.sites.kept) w.tasks),
  );
}
