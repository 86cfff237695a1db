-- The plan of a program, task by task.
use Rattle.std.proofs.Common.{◌≡◌, ℕ, zero, suc, ◌+◌, ◌<◌, min, max, List, [], ◌∷◌, ◌++◌, map, length, take, drop, Contains, get_or, refl, ap, sym, subst, ◌∙◌, arith}
use Rattle.std.specs.List.{AllByRecursion, range_with_len}
use Rattle.std.proofs.lemmas.List.{append_assoc, map-append, at_drop_more}
use Rattle.std.proofs.lemmas.List.Elements.{Contains-get_or}
use Rattle.task_ast.specs.declared.core_form.CoreStmt.{CoreStmt}
use Rattle.task_ast.specs.declared.core_form.CoreTask.{CoreTask}
use Rattle.task_ast.specs.declared.core_form.Site.{Site}
use Rattle.task_ast.specs.declared.core_form.Core.{Core}
use Rattle.task_ast.specs.WellFormed.{IsCoreTask, IsWellFormed}
use Rattle.io_depend.specs.Told.{Told, Tells}
use Rattle.io_depend.specs.RangeLaws.{range_more}
use Rattle.region_split.specs.Regions.{copies, regions}
use Rattle.region_split.specs.Owners.{all_first}
use Rattle.word_isa.specs.declared.parts.Scheme.{Scheme}
use Rattle.run_plan.specs.declared.act.Act.{Act}
use Rattle.run_plan.specs.declared.act.Act.TheVariants as act
use Rattle.run_plan.specs.PlanOf.{save_acts, body_acts, exit_act, task_acts, tasks_acts, most_regions}
use Rattle.run_plan.specs.Told.{later_told}
use Rattle.run_plan.proofs.ToldLemmas.{task_told}

-- one region more
pub restore_more : (n : ℕ) (before acts after : List Act) → acts ≡ before ++ map act.Restore (range_with_len 0 n) → after ≡ acts ++ act.Restore n ∷ [] → after ≡ before ++ map act.Restore (range_with_len 0 (n + 1))
restore_more n before acts after so_far made =
    let at : n ≡ 0 + n = omega arith in
    made ∙ (λ i. so_far i ++ act.Restore (at i) ∷ []) ∙ append_assoc before (map act.Restore (range_with_len 0 n)) (act.Restore (0 + n) ∷ [])
    ∙ ap (λ (acts : List Act). before ++ acts) (sym (ap (map act.Restore) (range_more 0 n) ∙ map-append act.Restore (range_with_len 0 n) ((0 + n) ∷ [])))

-- a task of a program is there
pub is_there : (c : Core) (t : CoreTask) (i : ℕ) → i < length c.tasks → t ≡ get_or c.tasks i t → Contains c.tasks t
is_there c t i within is = subst (Contains c.tasks) (sym is) (Contains-get_or c.tasks i t within)

-- what is left, by its first
pub next_left : {X Y : Type 0} (F : List X → Y) (xs : List X) (i : ℕ) (x : X) → i < length xs → x ≡ get_or xs i x → F (drop i xs) ≡ F (x ∷ drop (i + 1) xs)
next_left F xs i x within is = at_drop_more F xs i x within ∙ ap (λ y. F (y ∷ drop (i + 1) xs)) (sym is)

-- one task more
pub tasks_next : (scheme : Scheme) (ts : List CoreTask) (i : ℕ) (t : CoreTask) (done new : List (List Act)) (acts : List Act) (whole : List (List Act)) → i < length ts → t ≡ get_or ts i t
    → done ++ tasks_acts scheme (i + 1) (drop i ts) ≡ whole → acts ≡ task_acts scheme (i + 1) t → new ≡ done ++ acts ∷ [] → new ++ tasks_acts scheme (i + 1 + 1) (drop (i + 1) ts) ≡ whole
tasks_next scheme ts i t done new acts whole within is before at_acts made =
    (λ j. made j ++ tasks_acts scheme (i + 1 + 1) (drop (i + 1) ts)) ∙ append_assoc done (acts ∷ []) (tasks_acts scheme (i + 1 + 1) (drop (i + 1) ts))
    ∙ ap (λ (a : List Act). done ++ a ∷ tasks_acts scheme (i + 1 + 1) (drop (i + 1) ts)) at_acts
    ∙ ap (λ (more : List (List Act)). done ++ more) (sym (next_left (tasks_acts scheme (i + 1)) ts i t within is)) ∙ before

pub firsts_next : (c : Core) (ts : List CoreTask) (i : ℕ) (t : CoreTask) (done new : List (List (List ℕ))) (first : List (List ℕ)) (whole : List (List (List ℕ))) → i < length ts → t ≡ get_or ts i t
    → done ++ map (all_first c) (drop i ts) ≡ whole → first ≡ all_first c t → new ≡ done ++ first ∷ [] → new ++ map (all_first c) (drop (i + 1) ts) ≡ whole
firsts_next c ts i t done new first whole within is before at_first made =
    (λ j. made j ++ map (all_first c) (drop (i + 1) ts)) ∙ append_assoc done (first ∷ []) (map (all_first c) (drop (i + 1) ts))
    ∙ ap (λ (f : List (List ℕ)). done ++ f ∷ map (all_first c) (drop (i + 1) ts)) at_first
    ∙ ap (λ (more : List (List (List ℕ))). done ++ more) (sym (next_left (map (all_first c)) ts i t within is)) ∙ before

max_joined : (a b c : ℕ) → max (max a b) c ≡ max a (max b c)
max_joined a b c = omega arith

pub most_next : (ts : List CoreTask) (i : ℕ) (t : CoreTask) (most new count whole : ℕ) → i < length ts → t ≡ get_or ts i t
    → max most (most_regions (drop i ts)) ≡ whole → count ≡ regions t → new ≡ max most count → max new (most_regions (drop (i + 1) ts)) ≡ whole
most_next ts i t most new count whole within is before at_count made =
    ap (λ m. max m (most_regions (drop (i + 1) ts))) (made ∙ ap (max most) at_count) ∙ max_joined most (regions t) (most_regions (drop (i + 1) ts))
    ∙ ap (max most) (sym (next_left most_regions ts i t within is)) ∙ before

-- a task of a program is one by its rules
task_at : {X : Type 0} (P : X → Type 0) (xs : List X) (k : ℕ) (x : X) → k < length xs → AllByRecursion P xs → P (get_or xs k x)
task_at P [] k x l all = absurd (omega arith)
task_at P (y ∷ xs) zero x l all = all.0
task_at P (y ∷ xs) (suc k) x l all = task_at P xs k x (omega arith) all.1

pub core_task : (c : Core) (t : CoreTask) → IsWellFormed c → Contains c.tasks t → IsCoreTask c t
core_task c t w there = subst (IsCoreTask c) there.2 (task_at (IsCoreTask c) c.tasks there.0 t there.1 w.tasks)

-- the acts of a task, as they are put one behind another
pub task_made : (c : Core) (t : CoreTask) → IsCoreTask c t → (d : Told) → Tells c t d → (scheme : Scheme) (number : ℕ) (sites : List Site) (many : ℕ) (body : List CoreStmt) (acts one two three : List Act) (exit : Act) (four : List Act)
    → sites ≡ t.sites → many ≡ length t.sites → body ≡ t.body → acts ≡ [] → one ≡ acts ++ act.Begin number ∷ [] → two ≡ one ++ save_acts scheme 0
    → three ≡ two ++ body_acts (record { scheme = scheme; dependents = later_told d many; region = λ k. min (copies (take k sites)) 4294967295 }) body → exit ≡ exit_act t.exit → four ≡ three ++ exit ∷ [] → four ≡ task_acts scheme number t
task_made c t core d tells scheme number sites many body acts one two three exit four at_sites at_many at_body at_acts at_one at_two at_three at_exit at_four =
    let told = (λ i. body_acts (record { scheme = scheme; dependents = later_told d (at_many i); region = λ k. min (copies (take k (at_sites i))) 4294967295 }) (at_body i)) ∙ task_told c t d core tells _ scheme refl in
    at_four ∙ (λ i. (at_three ∙ (λ j. (at_two ∙ ap (λ (acts : List Act). acts ++ save_acts scheme 0) (at_one ∙ ap (λ (acts : List Act). acts ++ act.Begin number ∷ []) at_acts)) j ++ told j)) i ++ at_exit i ∷ [])
