-- The sites of a well-formed task: those that a right table tells to depend on a site do, and no others.
use Rattle.std.proofs.Common.{◌≡◌, ℕ, zero, suc, ◌+◌, ◌-◌, ◌<◌, ◌≤◌, Bool, true, false, cond, List, [], ◌∷◌, length, filter, slice_get, Option, Some, None, refl, sym, ap, ◌∙◌, subst, arith}
use Rattle.std.specs.List.{AllByRecursion, range_with_len}
use Rattle.ease_base.specs.declared.place.Peripheral.{Peripheral}
use Rattle.task_ast.specs.declared.core_form.CoreTask.{CoreTask}
use Rattle.task_ast.specs.declared.core_form.Core.{Core}
use Rattle.task_ast.specs.CoreSites.{all_numbers}
use Rattle.task_ast.specs.WellFormed.{IsCorePeripheral, IsCoreTask, IsWellFormed}
use Rattle.io_depend.specs.Sets.{has}
use Rattle.io_depend.specs.Depend.{flow, dependents, depends}
use Rattle.io_depend.specs.Told.{Told, tells_later, IsSiteOf, Tells}
use Rattle.io_depend.specs.RangeLaws.{has_filter}
use Rattle.io_depend.proofs.Behind.{later}
use Rattle.task_attempts.specs.Calls.{number_or_none}
use Rattle.audit_check.specs.declared.around.Around.{Around}
use Rattle.audit_check.specs.Walked.{DropsRight, SitesRight, number_at}
use Rattle.audit_laws.specs.Right.{IsOfTask}

-- ---- filtered ranges

-- one number more, that passes one test if it passes another, or that doesn't pass
one_more : (t u : Bool) (m : ℕ) (xs ys : List ℕ) → t ≡ u → xs ≡ ys → cond t (m ∷ xs) xs ≡ cond u (m ∷ ys) ys
one_more t u m xs ys test rest = λ i. cond (test i) (m ∷ rest i) (rest i)

fails : (t : Bool) (m : ℕ) (xs : List ℕ) → t ≡ false → cond t (m ∷ xs) xs ≡ xs
fails t m xs is = ap (λ t. cond t (m ∷ xs) xs) is

-- tests that agree in a range
same_within : (f g : ℕ → Bool) (m n : ℕ) → ((j : ℕ) → m ≤ j → j < m + n → f j ≡ g j) → filter f (range_with_len m n) ≡ filter g (range_with_len m n)
same_within f g m zero same = refl
same_within f g m (suc n) same =
    one_more (f m) (g m) m _ _ (same m (omega arith) (omega arith)) (same_within f g (m + 1) n (λ j low high. same j (omega (arith, low)) (omega (arith, high))))

-- the first numbers of a range, none of which passes
none_first : (f : ℕ → Bool) (m a n : ℕ) → ((j : ℕ) → m ≤ j → j < m + a → f j ≡ false) → filter f (range_with_len m (a + n)) ≡ filter f (range_with_len (m + a) n)
none_first f m zero n none =
    let all : 0 + n ≡ n = omega arith in
    let at : m ≡ m + 0 = omega arith in
    λ i. filter f (range_with_len (at i) (all i))
none_first f m (suc a) n none =
    let more : suc a + n ≡ suc (a + n) = omega arith in
    let at : m + 1 + a ≡ m + suc a = omega arith in
    ap (λ k. filter f (range_with_len m k)) more ∙ fails (f m) m (filter f (range_with_len (m + 1) (a + n))) (none m (omega arith) (omega arith))
    ∙ none_first f (m + 1) a n (λ j low high. none j (omega (arith, low)) (omega (arith, high))) ∙ ap (λ k. filter f (range_with_len k n)) at

-- what holds of all numbers of a range
all_within : (P : ℕ → Type 0) (m n : ℕ) → ((j : ℕ) → m ≤ j → j < m + n → P j) → AllByRecursion P (range_with_len m n)
all_within P m zero each = tt
all_within P m (suc n) each = (each m (omega arith) (omega arith), all_within P (m + 1) n (λ j low high. each j (omega (arith, low)) (omega (arith, high))))

-- ---- dependents

not_before : (t : CoreTask) (k j : ℕ) → j ≤ k → (b : Bool) → depends t k j ≡ b → b ≡ false
not_before t k j before true is = absurd (let after : k < j = later t k j is in omega (arith, before, after))
not_before t k j before false is = refl

pub told_dependents : (c : Core) (t : CoreTask) (d : Told) → Tells c t d → (k : ℕ) → IsSiteOf t k → filter (tells_later d k) (range_with_len 1 (length t.sites)) ≡ dependents t k
told_dependents c t d tells k site =
    let n = length t.sites in
    let parts : n ≡ k + (n - k) = omega (arith, site.1) in
    let next : 1 + k ≡ k + 1 = omega arith in
    same_within (tells_later d k) (depends t k) 1 n (λ j low high. tells.later k j site (omega (arith, low), omega (arith, high)))
    ∙ ap (λ m. filter (depends t k) (range_with_len 1 m)) parts
    ∙ none_first (depends t k) 1 k (n - k) (λ j low high. not_before t k j (omega (arith, high)) (depends t k j) refl)
    ∙ ap (λ m. filter (depends t k) (range_with_len m (n - k))) next
    ∙ same_within (depends t k) (has (flow t k).sites) (k + 1) (n - k) (λ j low high. has_filter (has (flow t k).sites) j (k + 1) (n - k) low high)

-- ---- all sites of a task

pub sites_right : (c : Core) (t : CoreTask) (a : Around) → IsCoreTask c t → IsOfTask c t a → SitesRight a (all_numbers a.task.now.body)
sites_right c t a well is =
    let n = length t.sites in
    let few : n ≤ 128 = well.sites.few in
    let right : (k : ℕ) → 1 ≤ k → k < 1 + n → filter (tells_later a.depends.now k) (range_with_len 1 n) ≡ dependents t k =
    λ k low high. told_dependents c t a.depends.now is.told k (omega (arith, low), omega (arith, high)) in
    let here : (k : ℕ) → 1 ≤ k → k < 1 + n → (k < 129) × DropsRight a k =
    λ k low high. (omega (arith, high, few), subst (λ (t : CoreTask). filter (tells_later a.depends.now k) (range_with_len 1 (length t.sites)) ≡ dependents t k) (sym is.task) (right k low high)) in
    subst (SitesRight a) (sym (ap (λ (t : CoreTask). all_numbers t.body) is.task ∙ well.sites.numbers)) (all_within (λ k. (k < 129) × DropsRight a k) 1 n here)

-- ---- the numbers of peripherals

number_few : (ps : List Peripheral) → AllByRecursion IsCorePeripheral ps → (p : ℕ) → number_or_none (slice_get ps p) < 256
number_few [] all p = omega arith
number_few (x ∷ xs) all zero = let few : x.number ≤ 255 = all.0.1 in omega (arith, few)
number_few (x ∷ xs) all (suc p) = number_few xs all.1 p

pub numbers_few : (c : Core) (t : CoreTask) (a : Around) → IsWellFormed c → IsOfTask c t a → (p : ℕ) → number_at a p < 256
numbers_few c t a well is p = subst (λ (c : Core). number_or_none (slice_get c.peripherals p) < 256) (sym is.core) (number_few c.peripherals well.peripherals p)

-- ---- the tasks of a program

-- a task that isn't there
inside : CoreTask → Option CoreTask → CoreTask
inside d None = d
inside d (Some t) = t

some_task : (x t : CoreTask) → Some x ≡ Some t → x ≡ t
unfolding inside
some_task x t is = ap (inside x) is

none_some : (t : CoreTask) → None ≡ Some t → ⊥
none_some t is = grind arith

-- a task that is there is a well-formed one
pub task_there : (c : Core) (ts : List CoreTask) → AllByRecursion (IsCoreTask c) ts → (n : ℕ) (t : CoreTask) → slice_get ts n ≡ Some t → IsCoreTask c t
task_there c [] all n t is = absurd (none_some t is)
task_there c (x ∷ xs) all zero t is = subst (IsCoreTask c) (some_task x t is) all.0
task_there c (x ∷ xs) all (suc n) t is = task_there c xs all.1 n t is
