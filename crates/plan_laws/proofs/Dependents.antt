-- The sites that depend on a site are sites of its task.
use Rattle.std.proofs.Common.{ℕ, ◌+◌, ◌-◌, Bool, true, false, cond, List, [], ◌∷◌, length, filter, arith}
use Rattle.std.specs.List.{AllByRecursion}
use Rattle.task_ast.specs.declared.core_form.CoreTask.{CoreTask}
use Rattle.io_depend.specs.Sets.{has}
use Rattle.io_depend.specs.Depend.{flow, dependents}
use Rattle.io_depend.specs.Told.{IsSiteOf}
use Rattle.plan_laws.proofs.Lists.{all_in_range}

all_filtered : (P : ℕ → Type 0) (f : ℕ → Bool) (xs : List ℕ) → AllByRecursion P xs → AllByRecursion P (filter f xs)
all_filtered P f [] all = tt
all_filtered P f (x ∷ xs) all = by_test (f x) (all_filtered P f xs all.1)
  where
    by_test : (b : Bool) → AllByRecursion P (filter f xs) → AllByRecursion P (cond b (x ∷ filter f xs) (filter f xs))
    by_test true rest = (all.0, rest)
    by_test false rest = rest

pub dependents_placed : (t : CoreTask) (k : ℕ) → AllByRecursion (IsSiteOf t) (dependents t k)
dependents_placed t k = all_filtered (IsSiteOf t) (has (flow t k).sites) _ (all_in_range (IsSiteOf t) (k + 1) (length t.sites - k) (λ j low high. (omega arith, omega arith)))
