-- The plan of a well-formed program fits the operands and marks of its code.
use Rattle.std.specs.Prelude.{◌≡◌, ℕ, zero, suc, ◌+◌, ◌-◌, ◌<◌, ◌≤◌, Bool, true, false, cond, List, [], ◌∷◌, ◌++◌, length, map, filter, take, sum_by, slice_index_or, refl}
use Rattle.std.specs.List.{AllByRecursion, range_with_len}
use Rattle.std.proofs.Common.{ap, sym, ◌∙◌, arith, subst, length-append}
use Rattle.std.proofs.lemmas.List.{length-take, length-map}
use Rattle.std.proofs.lemmas.List.Sums.{sum_by-cons}
use Rattle.ease_base.specs.declared.place.Peripheral.{Peripheral}
use Rattle.task_ast.specs.declared.tree.Kind.{Kind}
use Rattle.task_ast.specs.declared.tree.Kind.TheVariants.{Nv, Const, Vol}
use Rattle.task_ast.specs.declared.core_form.Array.{Array}
use Rattle.task_ast.specs.declared.core_form.Site.{Site}
use Rattle.task_ast.specs.declared.core_form.CoreExit.{CoreExit, end_of-CoreExit, more_of-CoreExit}
use Rattle.task_ast.specs.declared.core_form.CoreExit.TheVariants as exit
use Rattle.task_ast.specs.declared.core_form.CoreStmt.{CoreStmt, Row_of-CoreStmt, end_of-CoreStmt, more_of-CoreStmt}
use Rattle.task_ast.specs.declared.core_form.CoreStmt.TheVariants as stmt
use Rattle.task_ast.specs.declared.core_form.CoreTask.{CoreTask}
use Rattle.task_ast.specs.declared.core_form.Core.{Core}
use Rattle.task_ast.specs.CoreSites.{site_numbers, row_numbers, all_numbers}
use Rattle.task_ast.specs.WellFormed.{Scope, scope_of, IsCoreStmt, AreCoreStmts, IsCoreExit, IsCoreTask, IsWellFormed, core_names, fram_size, ram_size}
use Rattle.region_split.specs.Regions.{is_copy, copies, regions}
use Rattle.word_isa.specs.declared.parts.Scheme.{Scheme}
use Rattle.word_isa.specs.declared.parts.Scheme.TheVariants.{Undo, Bank}
use Rattle.line_code.specs.Areas.{total}
use Rattle.line_code.specs.Fitting.{IsShortStmt}
use Rattle.run_plan.specs.declared.act.Act.{Act}
use Rattle.run_plan.specs.declared.act.Act.TheVariants as act
use Rattle.run_plan.specs.declared.act.Leg.TheVariants.{Across, ToKept, FromKept}
use Rattle.run_plan.specs.declared.parts.Plan.{Plan}
use Rattle.run_plan.specs.PlanOf.{Around, around, save_acts, issue_acts, call_acts, block_end_acts, block_acts, anew_acts, again_acts, copy_acts, unless_plain, statement_acts, row_acts, body_acts, exit_act, task_acts, tasks_acts, most_regions, restore_acts, plan_of}
use Rattle.word_code.specs.ActLaws.{fit_test, fit_choose, fit_leave, fit_class}
use Rattle.word_code.specs.CodeOf.{frame_at, jobs_from}
use Rattle.word_code.specs.Finding.{found, statement_at}
use Rattle.word_code.specs.FitPlan.{IsFitJob, KeepsFew, IsFitPlan}
use Rattle.word_code.specs.Fitting.{IsSiteNumber, IsShortSite, IsFit, AreFit}
use Rattle.word_code.specs.Frames.{Frame}
use Rattle.word_code.proofs.ShortLaws.{expr_short, stmt_short, body_found_short}

cast : {A B : Type 0} → A ≡ B → A → B
cast same x = subst (λ t. t) same x

-- acts of two lists
fit_both : (f : Frame) (a b : List Act) → AreFit f a → AreFit f b → AreFit f (a ++ b)
fit_both f [] b h g = g
fit_both f (x ∷ rest) b h g = (h.0, fit_both f rest b h.1 g)

-- what a task's acts go by is within its limits
pub record IsFitAround (f : Frame) (a : Around) : Type 0 where
  pub sites : (k : ℕ) → IsShortSite (statement_at f k)
  pub dependents : (k : ℕ) → IsSiteNumber k → AllByRecursion IsSiteNumber (a.dependents k)
  pub region : (k : ℕ) → a.region k ≤ 128

save_fit : (f : Frame) (scheme : Scheme) (r : ℕ) → r ≤ 128 → AreFit f (save_acts scheme r)
save_fit f Undo r few = (few, (few, tt))
save_fit f Bank r few = tt

drops_fit : (f : Frame) (ks : List ℕ) → AllByRecursion IsSiteNumber ks → AreFit f (map act.Drop ks)
drops_fit f [] h = tt
drops_fit f (k ∷ ks) h = (h.0, drops_fit f ks h.1)

issue_fit : (f : Frame) (a : Around) (k : ℕ) → IsFitAround f a → IsSiteNumber k → AreFit f (issue_acts a k)
issue_fit f a k h site = (site, fit_both f (map act.Drop (a.dependents k)) (act.Issue k ∷ act.Seal k ∷ []) (drops_fit f (a.dependents k) (h.dependents k site)) ((site, h.sites k), (site, tt)))

call_fit : (f : Frame) (a : Around) (k : ℕ) → IsFitAround f a → IsSiteNumber k → AreFit f (call_acts a k)
call_fit f a k h site =
    ((site, h.sites k), (site, (cast (sym (fit_choose f k (issue_acts a k) (act.Take k ∷ []))) (site, issue_fit f a k h site, (site, tt)), ((site, h.sites k), tt))))

block_fit : (f : Frame) (k : ℕ) (body : List Act) → IsSiteNumber k → AreFit f body → AreFit f (block_acts k body)
block_fit f k body site h =
    (site, (site, fit_both f body (act.Leave k (block_end_acts k) ∷ []) h (cast (sym (fit_leave f k (block_end_acts k))) (site, (site, (site, tt))), tt)))

anew_fit : (f : Frame) (k : ℕ) → IsSiteNumber k → AreFit f (anew_acts k)
anew_fit f k site = (
  cast (sym (fit_class f k (act.Transfer k Across ∷ act.KeepWords k ∷ act.Seal k ∷ []) (act.Transfer k ToKept ∷ act.Seal k ∷ act.Transfer k FromKept ∷ []) (act.Transfer k Across ∷ [])))
      (site, (site, (site, (site, tt))), (site, (site, (site, tt))), (site, tt)),
  tt,
)

again_fit : (f : Frame) (k : ℕ) → IsSiteNumber k → AreFit f (again_acts k)
again_fit f k site = (cast (sym (fit_class f k (act.PutWords k ∷ []) (act.Transfer k FromKept ∷ []) [])) (site, (site, tt), (site, tt), tt), tt)

copy_fit : (f : Frame) (a : Around) (k : ℕ) → IsFitAround f a → IsSiteNumber k → AreFit f (copy_acts a k)
copy_fit f a k h site = (
  (site, h.sites k),
  fit_both f (save_acts a.scheme (a.region k)) (act.Choose k (anew_acts k) (again_acts k) ∷ []) (save_fit f a.scheme (a.region k) (h.region k))
      (cast (sym (fit_choose f k (anew_acts k) (again_acts k))) (site, anew_fit f k site, again_fit f k site), tt),
)

unless_fit : (f : Frame) (sites : List ℕ) (s : CoreStmt) (test : Act) → IsShortStmt s → IsFit f test → IsFit f (unless_plain sites s test)
unless_fit f [] s test h g = h
unless_fit f (k ∷ ks) s test h g = g

-- all of two lists
all_first : (P : ℕ → Type 0) (a b : List ℕ) → AllByRecursion P (a ++ b) → AllByRecursion P a
all_first P [] b h = tt
all_first P (x ∷ rest) b h = (h.0, all_first P rest b h.1)

all_second : (P : ℕ → Type 0) (a b : List ℕ) → AllByRecursion P (a ++ b) → AllByRecursion P b
all_second P [] b h = h
all_second P (x ∷ rest) b h = all_second P rest b h.1

mutual
  -- the acts of a statement
  statement_fit : (f : Frame) (a : Around) (s : Scope) → s.pointers ≤ 256 → (level : ℕ) (branched : Bool) (turning : List ℕ) (x : CoreStmt) → IsFitAround f a
      → IsCoreStmt s level branched turning x → AllByRecursion IsSiteNumber (site_numbers x) → AreFit f (statement_acts a x)
  statement_fit f a s few level branched turning (stmt.Assign x e) h good sites = (stmt_short s few level branched turning (stmt.Assign x e) good, tt)
  statement_fit f a s few level branched turning (stmt.Point p array i) h good sites = (stmt_short s few level branched turning (stmt.Point p array i) good, tt)
  statement_fit f a s few level branched turning (stmt.If' c m yes_row n no_row) h good sites = (
    unless_fit f (row_numbers yes_row ++ row_numbers no_row) (stmt.If' c m yes_row n no_row) (act.Test c (row_acts a yes_row) (row_acts a no_row))
        (stmt_short s few level branched turning (stmt.If' c m yes_row n no_row) good)
        (cast (sym (fit_test f c (row_acts a yes_row) (row_acts a no_row))) (
          expr_short s few 0 c (omega arith) good.1,
          row_fit f a s few (1 + level) true turning yes_row h good.2 (all_first IsSiteNumber (row_numbers yes_row) (row_numbers no_row) sites),
          row_fit f a s few (1 + level) true turning no_row h good.3 (all_second IsSiteNumber (row_numbers yes_row) (row_numbers no_row) sites),
        )),
    tt,
  )
  statement_fit f a s few level branched turning (stmt.Loop' i turns m row) h good sites = (stmt_short s few level branched turning (stmt.Loop' i turns m row) good, tt)
  statement_fit f a s few level branched turning (stmt.Io k x p args) h good sites = call_fit f a k h sites.0
  statement_fit f a s few level branched turning (stmt.Block' k m row) h good sites = block_fit f k (row_acts a row) sites.0 (row_fit f a s few (1 + level) branched turning row h good.1 sites.1)
  statement_fit f a s few level branched turning (stmt.Copy k to from n) h good sites = copy_fit f a k h sites.0

  row_fit : (f : Frame) (a : Around) (s : Scope) → s.pointers ≤ 256 → (level : ℕ) (branched : Bool) (turning : List ℕ) → {n : _} (row : Row_of-CoreStmt n) → IsFitAround f a
      → AreCoreStmts s level branched turning row → AllByRecursion IsSiteNumber (row_numbers row) → AreFit f (row_acts a row)
  row_fit f a s few level branched turning end_of-CoreStmt h good sites = tt
  row_fit f a s few level branched turning (more_of-CoreStmt x rest) h good sites =
      fit_both f (statement_acts a x) (row_acts a rest) (statement_fit f a s few level branched turning x h good.0 (all_first IsSiteNumber (site_numbers x) (row_numbers rest) sites))
      (row_fit f a s few level branched turning rest h good.1 (all_second IsSiteNumber (site_numbers x) (row_numbers rest) sites))

body_fit : (f : Frame) (a : Around) (s : Scope) → s.pointers ≤ 256 → (level : ℕ) (branched : Bool) (turning : List ℕ) (body : List CoreStmt) → IsFitAround f a
    → AllByRecursion (IsCoreStmt s level branched turning) body → AllByRecursion IsSiteNumber (all_numbers body) → AreFit f (body_acts a body)
body_fit f a s few level branched turning [] h good sites = tt
body_fit f a s few level branched turning (x ∷ rest) h good sites =
    fit_both f (statement_acts a x) (body_acts a rest) (statement_fit f a s few level branched turning x h good.0 (all_first IsSiteNumber (site_numbers x) (all_numbers rest) sites))
    (body_fit f a s few level branched turning rest h good.1 (all_second IsSiteNumber (site_numbers x) (all_numbers rest) sites))

exit_fit : (f : Frame) (s : Scope) → s.pointers ≤ 256 → (tasks level : ℕ) → tasks ≤ 64 → (x : CoreExit) → IsCoreExit s tasks level x → IsFit f (exit_act x)
exit_fit f s few tasks level low (exit.Next t) h = omega (arith, h.1, low)
exit_fit f s few tasks level low exit.Stop h = omega arith
exit_fit f s few tasks level low (exit.Choose' c u (more_of-CoreExit a end_of-CoreExit) v (more_of-CoreExit b end_of-CoreExit)) h =
    cast (sym (fit_test f c (exit_act a ∷ []) (exit_act b ∷ []))) (expr_short s few 0 c (omega arith) h.1, (exit_fit f s few tasks (1 + level) low a h.2, tt), (exit_fit f s few tasks (1 + level) low b h.3, tt))

-- numbers of a range, and of a part of it
range_sites : (m n : ℕ) → 0 < m → m + n ≤ 129 → AllByRecursion IsSiteNumber (range_with_len m n)
range_sites m zero some few = tt
range_sites m (suc n) some few = (record { some = some; few = omega (arith, few) }, range_sites (m + 1) n (omega arith) (omega (arith, few)))

all_if : (P : ℕ → Type 0) (t : Bool) (x : ℕ) (xs : List ℕ) → P x → AllByRecursion P xs → AllByRecursion P (cond t (x ∷ xs) xs)
all_if P true x xs here rest = (here, rest)
all_if P false x xs here rest = rest

filtered_sites : (p : ℕ → Bool) (xs : List ℕ) → AllByRecursion IsSiteNumber xs → AllByRecursion IsSiteNumber (filter p xs)
filtered_sites p [] h = tt
filtered_sites p (x ∷ xs) h = all_if IsSiteNumber (p x) x (filter p xs) h.0 (filtered_sites p xs h.1)

-- few copies
count_if : (t : Bool) (x : Site) (xs : List Site) (n : ℕ) → length xs ≤ n → length (cond t (x ∷ xs) xs) ≤ n + 1
count_if true x xs n few = omega (arith, few)
count_if false x xs n few = omega (arith, few)

copies_few : (sites : List Site) → copies sites ≤ length sites
copies_few [] = omega arith
copies_few (x ∷ sites) = omega (arith, count_if (is_copy x) x (filter is_copy sites) (length sites) (copies_few sites))

pub regions_few : (t : CoreTask) → length t.sites ≤ 128 → regions t ≤ 129
regions_few t few = omega (arith, copies_few t.sites, few)

-- what the acts of a well-formed task go by
around_fit : (c : Core) (scheme : Scheme) (f : Frame) (t : CoreTask) → f.task ≡ t → length c.pointers ≤ 256 → IsCoreTask c t → IsFitAround f (around scheme t)
around_fit c scheme f t is few h =
    let sites : length t.sites ≤ 128 = h.sites.few in
    record {
      sites = λ k. subst (λ (x : CoreTask). IsShortSite (found k x.body)) (sym is) (body_found_short (scope_of c t) few 1 false [] k t.body h.body);
      dependents = λ k site. filtered_sites _ (range_with_len (k + 1) (length t.sites - k)) (range_sites (k + 1) (length t.sites - k) (omega arith) (omega (arith, sites, site.few)));
      region = λ k. omega (arith, copies_few (take k t.sites), length-take k t.sites, sites);
    }

-- the acts of a well-formed task
task_fit : (c : Core) (scheme : Scheme) (f : Frame) (number : ℕ) (t : CoreTask) → number ≡ f.number → f.task ≡ t → length c.pointers ≤ 256 → length c.tasks ≤ 64 → number ≤ 64 → IsCoreTask c t → AreFit f (task_acts scheme number t)
task_fit c scheme f number t own is few tasks low h =
    let sites : length t.sites ≤ 128 = h.sites.few in
    let numbered : AllByRecursion IsSiteNumber (all_numbers t.body) = subst (AllByRecursion IsSiteNumber) (sym h.sites.numbers) (range_sites 1 (length t.sites) (omega arith) (omega (arith, sites))) in
    let good = around_fit c scheme f t is few h in (
      (low, own),
      fit_both f (save_acts scheme 0 ++ body_acts (around scheme t) t.body) (exit_act t.exit ∷ [])
          (fit_both f (save_acts scheme 0) (body_acts (around scheme t) t.body) (save_fit f scheme 0 (omega arith)) (body_fit f (around scheme t) (scope_of c t) few 1 false [] t.body good h.body numbered))
          (exit_fit f (scope_of c t) few (length c.tasks) 1 tasks t.exit h.exit, tt),
    )

-- what a boot restores
restores_fit : (f : Frame) (m n : ℕ) → m + n ≤ 129 → AreFit f (map act.Restore (range_with_len m n))
restores_fit f m zero few = tt
restores_fit f m (suc n) few = (omega (arith, few), restores_fit f (m + 1) n (omega (arith, few)))

boot_fit : (f : Frame) (scheme : Scheme) (count : ℕ) → count ≤ 129 → AreFit f (restore_acts scheme count)
boot_fit f Undo count few = restores_fit f 0 count (omega (arith, few))
boot_fit f Bank count few = tt

pub most_few : (c : Core) (tasks : List CoreTask) → AllByRecursion (IsCoreTask c) tasks → most_regions tasks ≤ 129
most_few c [] h = omega arith
most_few c (t ∷ rest) h =
    let sites : length t.sites ≤ 128 = h.0.sites.few in
    omega (arith, regions_few t sites, most_few c rest h.1)

-- the acts of each task from a number on
jobs_fit : (p : Plan) (c : Core) (scheme : Scheme) (count number : ℕ) (left : List CoreTask) → p.boot ≡ restore_acts scheme count → count ≤ 129
    → ((i : ℕ) → slice_index_or p.tasks (number + i) [] ≡ slice_index_or (tasks_acts scheme (number + 1) left) i []) → AllByRecursion (IsCoreTask c) left
    → length c.pointers ≤ 256 → length c.tasks ≤ 64 → number + length left ≤ 64 → AllByRecursion (IsFitJob p) (jobs_from p c number left)
jobs_fit p c scheme count number [] boot few acts good pointers tasks low = tt
jobs_fit p c scheme count number (t ∷ rest) boot few acts good pointers tasks low =
    let f = frame_at p c number t in
    let here : number + 0 ≡ number = omega arith in
    let own : slice_index_or p.tasks number [] ≡ task_acts scheme (number + 1) t = ap (λ (n : ℕ). slice_index_or p.tasks n []) (sym here) ∙ acts 0 in
    let in_range : number + 1 ≤ 64 = omega (arith, low) in
    let later : (i : ℕ) → slice_index_or p.tasks (number + 1 + i) [] ≡ slice_index_or (tasks_acts scheme (number + 1 + 1) rest) i [] = λ i. next i in (
      (subst (AreFit f) (sym boot) (boot_fit f scheme count few), subst (AreFit f) (sym own) (task_fit c scheme f (number + 1) t refl refl pointers tasks in_range good.0)),
      jobs_fit p c scheme count (number + 1) rest boot few later good.1 pointers tasks (omega (arith, low)),
    )
  where
    next : (i : ℕ) → slice_index_or p.tasks (number + 1 + i) [] ≡ slice_index_or (tasks_acts scheme (number + 1 + 1) rest) i []
    next i =
        let same : number + 1 + i ≡ number + suc i = omega arith in
        ap (λ (n : ℕ). slice_index_or p.tasks n []) same ∙ acts (suc i)

-- all words, by what holds them
kinds : (k : Kind) (n : ℕ) → fram_size k n + ram_size k n ≡ n
kinds Nv n = omega arith
kinds Const n = omega arith
kinds Vol n = omega arith

words_by_kind : (arrays : List Array) → total arrays ≡ sum_by (λ (a : Array). fram_size a.kind (length a.first)) arrays + sum_by (λ (a : Array). ram_size a.kind (length a.first)) arrays
words_by_kind [] = refl
words_by_kind (a ∷ rest) =
    let all = sum_by-cons (λ (x : Array). length x.first) a rest in
    let fram = sum_by-cons (λ (x : Array). fram_size x.kind (length x.first)) a rest in
    let ram = sum_by-cons (λ (x : Array). ram_size x.kind (length x.first)) a rest in
    omega (arith, all, fram, ram, kinds a.kind (length a.first), words_by_kind rest)

all_keep : (c : Core) (tasks : List CoreTask) → AllByRecursion (IsCoreTask c) tasks → AllByRecursion KeepsFew tasks
all_keep c [] h = tt
all_keep c (t ∷ rest) h = (h.0.sites.kept, all_keep c rest h.1)

-- the plan of a well-formed program
pub plan_fits : (c : Core) (scheme : Scheme) → IsWellFormed c → IsFitPlan (plan_of c scheme) c
plan_fits c scheme h =
    let fram : sum_by (λ (a : Array). fram_size a.kind (length a.first)) c.arrays ≤ 2048 = h.fram in
    let ram : sum_by (λ (a : Array). ram_size a.kind (length a.first)) c.arrays ≤ 2048 = h.ram in
    let tasks : length c.tasks ≤ 64 = h.few_tasks in
    let named : length (core_names c) ≤ 256 = h.few_names in
    let names : length (core_names c) ≡ length c.arrays + length c.pointers + length c.peripherals + length c.tasks = names_counted c in
    let pointers : length c.pointers ≤ 256 = omega (arith, named, names) in
    record {
      words = omega (arith, words_by_kind c.arrays, fram, ram);
      arrays = omega (arith, named, names);
      pointers = pointers;
      tasks = tasks;
      kept = all_keep c c.tasks h.tasks;
      jobs = jobs_fit (plan_of c scheme) c scheme (most_regions c.tasks) 0 c.tasks refl (most_few c c.tasks h.tasks) (λ i. from_first i) h.tasks pointers tasks (omega (arith, tasks));
    }
  where
    names_counted : (c : Core) → length (core_names c) ≡ length c.arrays + length c.pointers + length c.peripherals + length c.tasks
    names_counted c =
        let a : List (List ℕ) = map (λ (x : Array). x.name) c.arrays in
        let q : List (List ℕ) = map (λ (x : Peripheral). x.name) c.peripherals in
        let t : List (List ℕ) = map (λ (x : CoreTask). x.name) c.tasks in
        omega (
          arith,
          length-append (a ++ c.pointers ++ q) t,
          length-append (a ++ c.pointers) q,
          length-append a c.pointers,
          length-map c.arrays (λ (x : Array). x.name),
          length-map c.peripherals (λ (x : Peripheral). x.name),
          length-map c.tasks (λ (x : CoreTask). x.name),
        )

    from_first : (i : ℕ) → slice_index_or (tasks_acts scheme 1 c.tasks) (0 + i) [] ≡ slice_index_or (tasks_acts scheme (0 + 1) c.tasks) i []
    from_first i =
        let same : 0 + i ≡ i = omega arith in
        ap (λ (n : ℕ). slice_index_or (tasks_acts scheme 1 c.tasks) n []) same
