-- A table more, a task more; and what the walk goes by in all tasks is what it goes by in each.
use Rattle.std.proofs.Common.{◌≡◌, ℕ, zero, suc, ◌+◌, ◌<◌, ◌≤◌, Some, None, List, [], ◌∷◌, ◌++◌, length, take, drop, get_or, slice_get, refl, sym, ap, subst, ◌∙◌, arith, not-suc-le-zero, le_of_suc-le-suc}
use Rattle.std.proofs.lemmas.List.{at_drop_more}
use Rattle.task_ast.specs.declared.core_form.CoreTask.{CoreTask}
use Rattle.task_ast.specs.declared.core_form.Core.{Core}
use Rattle.io_depend.specs.Told.{Told, Tells}
use Rattle.audit_check.specs.declared.around.Around.{Around}
use Rattle.audit_laws.specs.Right.{IsOfTask, IsAround, AreAround}
use Rattle.audit_gather.specs.Tasks.{AreTables, AreOfTasks}

table_more : (c : Core) (ts : List CoreTask) (i : ℕ) (t : CoreTask) (ds : List Told) (d : Told) → i < length ts → t ≡ get_or ts i t → AreTables c (take i ts) ds → Tells c t d
    → AreTables c (take (suc i) ts) (ds ++ d ∷ [])
table_more c [] i t ds d within is so_far told = absurd (not-suc-le-zero within)
table_more c (x ∷ ts) zero t [] d within is so_far told = (subst (λ y. Tells c y d) is told, tt)
table_more c (x ∷ ts) zero t (e ∷ ds) d within is so_far told = absurd so_far
table_more c (x ∷ ts) (suc i) t [] d within is so_far told = absurd so_far
table_more c (x ∷ ts) (suc i) t (e ∷ ds) d within is so_far told = (so_far.0, table_more c ts i t ds d (le_of_suc-le-suc within) is so_far.1 told)

pub table_next : (c : Core) (ts : List CoreTask) (i : ℕ) (t : CoreTask) (ds more : List Told) (d : Told) → i < length ts → t ≡ get_or ts i t → AreTables c (take i ts) ds → Tells c t d → more ≡ ds ++ d ∷ []
    → AreTables c (take (i + 1) ts) more
table_next c ts i t ds more d within is so_far told pushed =
    let next : i + 1 ≡ suc i = omega arith in
    subst (λ n. AreTables c (take n ts) more) (sym next) (subst (λ xs. AreTables c (take (suc i) ts) xs) (sym pushed) (table_more c ts i t ds d within is so_far told))

pub around_each : (c : Core) (ts : List CoreTask) (tasks : List Around) → AreOfTasks c ts tasks → (n : ℕ) → IsAround c (slice_get ts n) (slice_get tasks n)
around_each c [] [] are n = tt
around_each c [] (a ∷ tasks) are n = absurd are
around_each c (t ∷ ts) [] are n = absurd are
around_each c (t ∷ ts) (a ∷ tasks) are zero = are.0
around_each c (t ∷ ts) (a ∷ tasks) are (suc n) = around_each c ts tasks are.1 n

around_more : (c : Core) (ts : List CoreTask) (i : ℕ) (t : CoreTask) (tasks : List Around) (a : Around) → i < length ts → t ≡ get_or ts i t → AreOfTasks c (take i ts) tasks → IsOfTask c t a
    → AreOfTasks c (take (suc i) ts) (tasks ++ a ∷ [])
around_more c [] i t tasks a within is so_far told = absurd (not-suc-le-zero within)
around_more c (x ∷ ts) zero t [] a within is so_far told = (subst (λ y. IsOfTask c y a) is told, tt)
around_more c (x ∷ ts) zero t (e ∷ tasks) a within is so_far told = absurd so_far
around_more c (x ∷ ts) (suc i) t [] a within is so_far told = absurd so_far
around_more c (x ∷ ts) (suc i) t (e ∷ tasks) a within is so_far told = (so_far.0, around_more c ts i t tasks a (le_of_suc-le-suc within) is so_far.1 told)

pub around_next : (c : Core) (ts : List CoreTask) (i : ℕ) (t : CoreTask) (tasks more : List Around) (a : Around) → i < length ts → t ≡ get_or ts i t → AreOfTasks c (take i ts) tasks → IsOfTask c t a → more ≡ tasks ++ a ∷ []
    → AreOfTasks c (take (i + 1) ts) more
around_next c ts i t tasks more a within is so_far told pushed =
    let next : i + 1 ≡ suc i = omega arith in
    subst (λ n. AreOfTasks c (take n ts) more) (sym next) (subst (λ xs. AreOfTasks c (take (suc i) ts) xs) (sym pushed) (around_more c ts i t tasks a within is so_far told))

-- the first table of those that are left is of the next task
pub table_here : (c : Core) (ts : List CoreTask) (i : ℕ) (t : CoreTask) (left rest : List Told) (d : Told) → i < length ts → t ≡ get_or ts i t → AreTables c (drop i ts) left → left ≡ d ∷ rest
    → Tells c t d × AreTables c (drop (i + 1) ts) rest
table_here c ts i t left rest d within is so_far parts =
    let shown : AreTables c (drop i ts) (d ∷ rest) = subst (AreTables c (drop i ts)) parts so_far in
    let first : drop i ts ≡ t ∷ drop (i + 1) ts = at_drop_more (λ (xs : List CoreTask). xs) ts i t within ∙ ap (λ y. y ∷ drop (i + 1) ts) (sym is) in
    subst (λ xs. AreTables c xs (d ∷ rest)) first shown

-- so many that none is left
pub all_tasks : (ts : List CoreTask) (n : ℕ) → length ts ≤ n → take n ts ≡ ts
all_tasks [] zero enough = refl
all_tasks [] (suc n) enough = refl
all_tasks (t ∷ ts) zero enough = absurd (not-suc-le-zero enough)
all_tasks (t ∷ ts) (suc n) enough = ap (λ (rest : List CoreTask). t ∷ rest) (all_tasks ts n (le_of_suc-le-suc enough))
