-- Claims on acts with lists of their own, by these lists.
use Rattle.std.specs.Prelude.{◌≡◌, ◌⊎◌, ℕ, List}
use Rattle.std.specs.List.{AllByRecursion}
use Rattle.std.proofs.Common.{refl, ap, ◌∙◌}
use Rattle.task_ast.specs.declared.core_form.CoreExpr.{CoreExpr}
use Rattle.task_ast.specs.declared.core_form.CoreTask.{CoreTask}
use Rattle.task_ast.specs.declared.core_form.Core.{Core}
use Rattle.task_ast.specs.WellFormed.{IsCoreExpr, scope_of}
use Rattle.run_plan.specs.declared.act.Act.{Act, Row_of-Act, end_of-Act, more_of-Act, items-the_row-Act}
use Rattle.run_plan.specs.declared.act.Act.TheVariants as act
use Rattle.run_plan.specs.Rows.{act_row_of, act_row_shows}
use Rattle.run_plan.specs.Kinds.{IsCall, IsBlock, IsCopy, IsOfTask, AreOfTask}
use Rattle.run_plan.specs.Order.{IsNoSeal, AreNoSeals, NoSealBehind, IsFollowed, IsOrdered, AreOrdered, AllOrdered}

-- acts of a task
of_rows : (c : Core) (t : CoreTask) (n : _) (row : Row_of-Act n) → AreOfTask c t row ≡ AllByRecursion (IsOfTask c t) (items-the_row-Act n row)
of_rows c t n end_of-Act = refl
of_rows c t n (more_of-Act a rest) = ap (λ (T : Type 0). IsOfTask c t a × T) (of_rows c t _ rest)

pub of_list : (c : Core) (t : CoreTask) (acts : List Act) → AreOfTask c t (act_row_of acts).1 ≡ AllByRecursion (IsOfTask c t) acts
of_list c t acts = of_rows c t (act_row_of acts).0 (act_row_of acts).1 ∙ ap (AllByRecursion (IsOfTask c t)) (act_row_shows acts)

pub test_of_task : (c : Core) (t : CoreTask) (e : CoreExpr) (ys ns : List Act)
    → IsOfTask c t (act.Test e ys ns) ≡ (IsCoreExpr (scope_of c t) e × AllByRecursion (IsOfTask c t) ys × AllByRecursion (IsOfTask c t) ns)
test_of_task c t e ys ns = λ i. IsCoreExpr (scope_of c t) e × of_list c t ys i × of_list c t ns i

pub choose_of_task : (c : Core) (t : CoreTask) (k : ℕ) (xs ys : List Act)
    → IsOfTask c t (act.Choose k xs ys) ≡ ((IsCall t k ⊎ IsCopy t k) × AllByRecursion (IsOfTask c t) xs × AllByRecursion (IsOfTask c t) ys)
choose_of_task c t k xs ys = λ i. (IsCall t k ⊎ IsCopy t k) × of_list c t xs i × of_list c t ys i

pub leave_of_task : (c : Core) (t : CoreTask) (k : ℕ) (acts : List Act) → IsOfTask c t (act.Leave k acts) ≡ (IsBlock t k × AllByRecursion (IsOfTask c t) acts)
leave_of_task c t k acts = λ i. IsBlock t k × of_list c t acts i

pub by_class_of_task : (c : Core) (t : CoreTask) (k : ℕ) (xs ys zs : List Act)
    → IsOfTask c t (act.ByClass k xs ys zs) ≡ (IsCopy t k × AllByRecursion (IsOfTask c t) xs × AllByRecursion (IsOfTask c t) ys × AllByRecursion (IsOfTask c t) zs)
by_class_of_task c t k xs ys zs = λ i. IsCopy t k × of_list c t xs i × of_list c t ys i × of_list c t zs i

-- acts that seal no such site
no_seal_rows : (k : ℕ) (n : _) (row : Row_of-Act n) → AreNoSeals k row ≡ AllByRecursion (IsNoSeal k) (items-the_row-Act n row)
no_seal_rows k n end_of-Act = refl
no_seal_rows k n (more_of-Act a rest) = ap (λ (T : Type 0). IsNoSeal k a × T) (no_seal_rows k _ rest)

pub no_seal_list : (k : ℕ) (acts : List Act) → AreNoSeals k (act_row_of acts).1 ≡ AllByRecursion (IsNoSeal k) acts
no_seal_list k acts = no_seal_rows k (act_row_of acts).0 (act_row_of acts).1 ∙ ap (AllByRecursion (IsNoSeal k)) (act_row_shows acts)

pub test_no_seal : (k : ℕ) (e : CoreExpr) (ys ns : List Act) → IsNoSeal k (act.Test e ys ns) ≡ (AllByRecursion (IsNoSeal k) ys × AllByRecursion (IsNoSeal k) ns)
test_no_seal k e ys ns = λ i. no_seal_list k ys i × no_seal_list k ns i

pub choose_no_seal : (k j : ℕ) (xs ys : List Act) → IsNoSeal k (act.Choose j xs ys) ≡ (AllByRecursion (IsNoSeal k) xs × AllByRecursion (IsNoSeal k) ys)
choose_no_seal k j xs ys = λ i. no_seal_list k xs i × no_seal_list k ys i

pub leave_no_seal : (k j : ℕ) (acts : List Act) → IsNoSeal k (act.Leave j acts) ≡ AllByRecursion (IsNoSeal k) acts
leave_no_seal k j acts = no_seal_list k acts

pub by_class_no_seal : (k j : ℕ) (xs ys zs : List Act)
    → IsNoSeal k (act.ByClass j xs ys zs) ≡ (AllByRecursion (IsNoSeal k) xs × AllByRecursion (IsNoSeal k) ys × AllByRecursion (IsNoSeal k) zs)
by_class_no_seal k j xs ys zs = λ i. no_seal_list k xs i × no_seal_list k ys i × no_seal_list k zs i

-- acts in order
ordered_rows : (behind : ℕ → Type 0) (n : _) (row : Row_of-Act n) → AreOrdered behind row ≡ AllOrdered behind (items-the_row-Act n row)
ordered_rows behind n end_of-Act = refl
ordered_rows behind n (more_of-Act a rest) =
    ap (λ (T : Type 0). IsOrdered (NoSealBehind (items-the_row-Act _ rest) behind) a × IsFollowed behind a (items-the_row-Act _ rest) × T) (ordered_rows behind _ rest)

pub ordered_list : (behind : ℕ → Type 0) (acts : List Act) → AreOrdered behind (act_row_of acts).1 ≡ AllOrdered behind acts
ordered_list behind acts = ordered_rows behind (act_row_of acts).0 (act_row_of acts).1 ∙ ap (AllOrdered behind) (act_row_shows acts)

pub test_ordered : (behind : ℕ → Type 0) (e : CoreExpr) (ys ns : List Act) → IsOrdered behind (act.Test e ys ns) ≡ (AllOrdered behind ys × AllOrdered behind ns)
test_ordered behind e ys ns = λ i. ordered_list behind ys i × ordered_list behind ns i

pub choose_ordered : (behind : ℕ → Type 0) (k : ℕ) (xs ys : List Act) → IsOrdered behind (act.Choose k xs ys) ≡ (AllOrdered behind xs × AllOrdered behind ys)
choose_ordered behind k xs ys = λ i. ordered_list behind xs i × ordered_list behind ys i

pub leave_ordered : (behind : ℕ → Type 0) (k : ℕ) (acts : List Act) → IsOrdered behind (act.Leave k acts) ≡ AllOrdered behind acts
leave_ordered behind k acts = ordered_list behind acts

pub by_class_ordered : (behind : ℕ → Type 0) (k : ℕ) (xs ys zs : List Act)
    → IsOrdered behind (act.ByClass k xs ys zs) ≡ (AllOrdered behind xs × AllOrdered behind ys × AllOrdered behind zs)
by_class_ordered behind k xs ys zs = λ i. ordered_list behind xs i × ordered_list behind ys i × ordered_list behind zs i
