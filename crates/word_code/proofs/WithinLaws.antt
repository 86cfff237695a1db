-- The acts of every plan need no more than its program's formulas say.
use Rattle.std.specs.Prelude.{◌≡◌, ℕ, suc, ◌+◌, ◌*◌, ◌≤◌, Bool, true, false, cond, List, [], ◌∷◌, ◌++◌, length, map, sum_by, slice_index_or, refl}
use Rattle.std.specs.List.{AllByRecursion, range_with_len}
use Rattle.std.proofs.Common.{ap, ◌∙◌, arith, length-append}
use Rattle.std.proofs.Math.Nat.{max-le}
use Rattle.std.proofs.lemmas.List.FromFn.{length-range_with_len}
use Rattle.std.proofs.lemmas.List.Sums.{sum_by-cons}
use Rattle.task_ast.specs.declared.tree.Kind.{Kind}
use Rattle.task_ast.specs.declared.tree.Kind.TheVariants.{Nv, Const, Vol}
use Rattle.task_ast.specs.declared.core_form.Array.{Array}
use Rattle.task_ast.specs.declared.core_form.CoreTask.{CoreTask}
use Rattle.task_ast.specs.declared.core_form.Core.{Core}
use Rattle.task_ast.specs.WellFormed.{IsCoreTask, IsWellFormed, fram_size}
use Rattle.region_split.specs.Owners.{all_first}
use Rattle.region_split.specs.Regions.{is_nonvolatile, region_of}
use Rattle.word_isa.specs.declared.parts.Scheme.{Scheme}
use Rattle.word_isa.specs.declared.parts.Scheme.TheVariants.{Undo, Bank}
use Rattle.line_code.specs.Areas.{areas_from, free_at_first}
use Rattle.task_attempts.specs.Calls.{site_at}
use Rattle.task_attempts.specs.Costs.{is_volatile}
use Rattle.run_plan.specs.declared.act.Act.TheVariants as act
use Rattle.run_plan.specs.declared.parts.Plan.{Plan}
use Rattle.run_plan.specs.Kinds.{IsOfTask, AreOfTasks, IsOfProgram}
use Rattle.run_plan.specs.PlanOf.{around, save_acts, body_acts, exit_act, task_acts, tasks_acts, most_regions, restore_acts, plan_of}
use Rattle.run_plan.specs.Sizes.{safety_words, task_words, task_marks}
use Rattle.word_code.specs.ActMarks.{acts_marks, job_marks, jobs_marks}
use Rattle.word_code.specs.Beginnings.{volatile_words, volatile_count, home_words, home_count, level_count}
use Rattle.word_code.specs.CodeOf.{frame_at, job, jobs_from, job_size, jobs_size, most_kept, constant_words, constants_of}
use Rattle.word_code.specs.Finding.{statement_at}
use Rattle.word_code.specs.Frames.{Frame}
use Rattle.word_code.specs.Sizes.{acts_size}
use Rattle.word_code.specs.Within.{HasPlaces, IsWithin}
use Rattle.word_code.proofs.BoundLaws.{copy_at, save_lines, saved, drops_at, cost, signs, size_joined, marks_joined, size_save, marks_save, body_few, body_signs, exit_few, exit_signs}
use Rattle.word_code.proofs.FitLaws.{most_few}
use Rattle.word_code.proofs.RegionBounds.{IsTaskFrame, undo_few, boot_signs}
use Rattle.word_code.proofs.SiteLaws.{IsFound, body_finds}
use Rattle.word_code.proofs.Sums.{sum_and, sum_of_three, filter_sum}

-- ---- what makes nonvolatile words safe

-- what a boot restores for a task and what the task saves, under its scheme
abbrev safety_lines : Frame → CoreTask → Scheme → (count : ℕ) → ℕ
safety_lines f t scheme count =
    acts_size f (restore_acts scheme count) + save_lines f scheme 0 + sum_by (λ k. cond (copy_at (site_at t.sites k)) (save_lines f scheme (region_of t k)) 0) (range_with_len 1 (length t.sites))

nothing : (b : Bool) → cond {A = ℕ} b 0 0 ≡ 0
nothing true = refl
nothing false = refl

none_saved : (b : ℕ → Bool) (xs : List ℕ) → sum_by (λ k. cond (b k) 0 0) xs ≡ 0
none_saved b [] = refl
none_saved b (x ∷ xs) = omega (arith, sum_by-cons (λ k. cond (b k) 0 0) x xs, none_saved b xs, nothing (b x))

home_part : (k : Kind) (words : List ℕ) → length (home_words k words) ≡ cond (is_nonvolatile k) (length words) 0
home_part Nv words = refl
home_part Const words = refl
home_part Vol words = refl

volatile_part : (k : Kind) (words : List ℕ) → length (volatile_words k words) ≡ cond (is_volatile k) (length words) 0
volatile_part Nv words = refl
volatile_part Const words = refl
volatile_part Vol words = refl

homes_counted : (arrays : List Array) → home_count arrays ≡ sum_by (λ (a : Array). cond (is_nonvolatile a.kind) (length a.first) 0) arrays
homes_counted [] = refl
homes_counted (a ∷ rest) =
    omega (
      arith,
      sum_by-cons (λ (x : Array). length (home_words x.kind x.first)) a rest,
      sum_by-cons (λ (x : Array). cond (is_nonvolatile x.kind) (length x.first) 0) a rest,
      home_part a.kind a.first,
      homes_counted rest,
    )

volatile_counted : (arrays : List Array) → volatile_count arrays ≡ sum_by (λ (a : Array). cond (is_volatile a.kind) (length a.first) 0) arrays
volatile_counted [] = refl
volatile_counted (a ∷ rest) =
    omega (
      arith,
      sum_by-cons (λ (x : Array). length (volatile_words x.kind x.first)) a rest,
      sum_by-cons (λ (x : Array). cond (is_volatile x.kind) (length x.first) 0) a rest,
      volatile_part a.kind a.first,
      volatile_counted rest,
    )

-- and what a beginning brings level
safety_few : (scheme : Scheme) (c : Core) (t : CoreTask) (f : Frame) (count : ℕ) → IsTaskFrame c t f → safety_lines f t scheme count + 2 * level_count scheme c.arrays ≤ safety_words scheme c t
safety_few Undo c t f count is = omega (arith, undo_few c t f count is)
safety_few Bank c t f count is =
    omega (
      arith,
      none_saved (λ k. copy_at (site_at t.sites k)) (range_with_len 1 (length t.sites)),
      homes_counted c.arrays,
      filter_sum (λ (a : Array). length a.first) (λ (a : Array). is_nonvolatile a.kind) c.arrays,
    )

-- ---- a task

abbrev own_frame : Core → Scheme → CoreTask → (number : ℕ) → Frame
own_frame c scheme t number = record { core = c; areas = areas_from free_at_first c.arrays; task = t; number = number; scheme = scheme; firsts = all_first c t }

own_shaped : (c : Core) (scheme : Scheme) (t : CoreTask) (number : ℕ) → IsTaskFrame c t (own_frame c scheme t number)
own_shaped c scheme t number = record { task = refl; core = refl; areas = refl; firsts = refl }

module _ (c : Core) (scheme : Scheme) (t : CoreTask) (number : ℕ) where
  abbrev f : Frame
  f = own_frame c scheme t number

  task_few : (count : ℕ) → IsCoreTask c t → AllByRecursion (IsOfTask c t) (body_acts (around scheme t) t.body)
      → 7 + (acts_size f (restore_acts scheme count) + acts_size f (task_acts scheme number t)) ≤ task_words scheme c t
  task_few count w all =
      let found : AllByRecursion (IsFound (statement_at f)) t.body = body_finds t.body 1 (length t.sites) w.sites.numbers in
      omega (
        arith,
        size_joined f (act.Begin number ∷ save_acts scheme 0 ++ body_acts (around scheme t) t.body) (exit_act t.exit ∷ []),
        size_joined f (act.Begin number ∷ save_acts scheme 0) (body_acts (around scheme t) t.body),
        size_save f scheme 0,
        body_few c f t.body found all,
        exit_few f t.exit,
        ap (sum_by (cost f)) w.sites.numbers,
        sum_of_three 131 (drops_at f) (saved f) (range_with_len 1 (length t.sites)),
        length-range_with_len 1 (length t.sites),
        safety_few scheme c t f count (own_shaped c scheme t number),
        volatile_counted c.arrays,
        filter_sum (λ (a : Array). length a.first) (λ (a : Array). is_volatile a.kind) c.arrays,
      )

  task_signs : (count : ℕ) → IsCoreTask c t → acts_marks (restore_acts scheme count) + acts_marks (task_acts scheme number t) ≤ task_marks t
  task_signs count w =
      omega (
        arith,
        boot_signs scheme count,
        marks_joined (act.Begin number ∷ save_acts scheme 0 ++ body_acts (around scheme t) t.body) (exit_act t.exit ∷ []),
        marks_joined (act.Begin number ∷ save_acts scheme 0) (body_acts (around scheme t) t.body),
        marks_save scheme 0,
        body_signs c f t.body,
        exit_signs t.exit,
        ap (sum_by (signs f)) w.sites.numbers,
        sum_and (drops_at f) 8 (range_with_len 1 (length t.sites)),
        length-range_with_len 1 (length t.sites),
      )

-- ---- all tasks

-- the acts of the body, among those of the task
all_front : {A : Type 0} (P : A → Type 0) (xs ys : List A) → AllByRecursion P (xs ++ ys) → AllByRecursion P xs
all_front P [] ys h = tt
all_front P (x ∷ xs) ys h = (h.0, all_front P xs ys h.1)

all_back : {A : Type 0} (P : A → Type 0) (xs ys : List A) → AllByRecursion P (xs ++ ys) → AllByRecursion P ys
all_back P [] ys h = h
all_back P (x ∷ xs) ys h = all_back P xs ys h.1

body_of : (c : Core) (scheme : Scheme) (t : CoreTask) (number : ℕ) → AllByRecursion (IsOfTask c t) (task_acts scheme number t) → AllByRecursion (IsOfTask c t) (body_acts (around scheme t) t.body)
body_of c scheme t number all =
    all_back (IsOfTask c t) (act.Begin number ∷ save_acts scheme 0) (body_acts (around scheme t) t.body)
    (all_front (IsOfTask c t) (act.Begin number ∷ save_acts scheme 0 ++ body_acts (around scheme t) t.body) (exit_act t.exit ∷ []) all)

-- a list from a place on
abbrev StandsFrom : {A : Type 0} → List (List A) → (number : ℕ) → List (List A) → Type 0
StandsFrom whole number left = (i : ℕ) → slice_index_or whole (number + i) [] ≡ slice_index_or left i []

one_further : {A : Type 0} (whole left : List (List A)) (number : ℕ) (x : List A) → StandsFrom whole number (x ∷ left) → StandsFrom whole (number + 1) left
one_further whole left number x from i =
    let same : number + 1 + i ≡ number + suc i = omega arith in
    ap (λ (n : ℕ). slice_index_or whole n []) same ∙ from (suc i)

stands_here : {A : Type 0} (whole left : List (List A)) (number : ℕ) (x : List A) → StandsFrom whole number (x ∷ left) → slice_index_or whole number [] ≡ x
stands_here whole left number x from =
    let same : number ≡ number + 0 = omega arith in
    ap (λ (n : ℕ). slice_index_or whole n []) same ∙ from 0

module _ (p : Plan) (c : Core) (count : ℕ) (boot : p.boot ≡ restore_acts p.scheme count) where
  job_is : (t : CoreTask) (rest : List CoreTask) (number : ℕ) → StandsFrom p.firsts number (map (all_first c) (t ∷ rest)) → frame_at p c number t ≡ own_frame c p.scheme t (number + 1)
  job_is t rest number from =
      λ i. record { core = c; areas = areas_from free_at_first c.arrays; task = t; number = number + 1; scheme = p.scheme; firsts = stands_here p.firsts (map (all_first c) rest) number (all_first c t) from i }

  jobs_few : (left : List CoreTask) (number : ℕ) → AllByRecursion (IsCoreTask c) left → StandsFrom p.firsts number (map (all_first c) left)
      → StandsFrom p.tasks number (tasks_acts p.scheme (number + 1) left) → AreOfTasks c left (tasks_acts p.scheme (number + 1) left)
      → 7 * length left + jobs_size p (jobs_from p c number left) ≤ sum_by (task_words p.scheme c) left
  jobs_few [] number good firsts acts of = omega arith
  jobs_few (t ∷ rest) number good firsts acts of =
      let frame = job_is t rest number firsts in
      let own = stands_here p.tasks (tasks_acts p.scheme (number + 1 + 1) rest) number (task_acts p.scheme (number + 1) t) acts in
      let here : job_size p (job p c number t) ≡ acts_size (own_frame c p.scheme t (number + 1)) (restore_acts p.scheme count) + acts_size (own_frame c p.scheme t (number + 1)) (task_acts p.scheme (number + 1) t) =
      λ i. acts_size (frame i) (boot i) + acts_size (frame i) (own i) in
      omega (
        arith,
        here,
        sum_by-cons (task_words p.scheme c) t rest,
        task_few c p.scheme t (number + 1) count good.0 (body_of c p.scheme t (number + 1) of.0),
        jobs_few rest (number + 1) good.1 (one_further p.firsts (map (all_first c) rest) number (all_first c t) firsts)
            (one_further p.tasks (tasks_acts p.scheme (number + 1 + 1) rest) number (task_acts p.scheme (number + 1) t) acts) of.1,
      )

  jobs_signs : (left : List CoreTask) (number : ℕ) → AllByRecursion (IsCoreTask c) left → StandsFrom p.tasks number (tasks_acts p.scheme (number + 1) left)
      → jobs_marks p (jobs_from p c number left) ≤ sum_by task_marks left
  jobs_signs [] number good acts = omega arith
  jobs_signs (t ∷ rest) number good acts =
      let own = stands_here p.tasks (tasks_acts p.scheme (number + 1 + 1) rest) number (task_acts p.scheme (number + 1) t) acts in
      let here : job_marks p (job p c number t) ≡ acts_marks (restore_acts p.scheme count) + acts_marks (task_acts p.scheme (number + 1) t) = λ i. acts_marks (boot i) + acts_marks (own i) in
      omega (
        arith,
        here,
        sum_by-cons task_marks t rest,
        task_signs c p.scheme t (number + 1) count good.0,
        jobs_signs rest (number + 1) good.1 (one_further p.tasks (tasks_acts p.scheme (number + 1 + 1) rest) number (task_acts p.scheme (number + 1) t) acts),
      )

pub kept_few : (c : Core) (tasks : List CoreTask) → AllByRecursion (IsCoreTask c) tasks → most_kept tasks ≤ 16384
kept_few c [] good = omega arith
kept_few c (t ∷ rest) good = max-le good.0.sites.kept (kept_few c rest good.1)

-- the places in FRAM
fram_part : (k : Kind) (words : List ℕ) → length (home_words k words) + length (constant_words k words) ≤ fram_size k (length words)
fram_part Nv words = omega arith
fram_part Const words = omega arith
fram_part Vol words = omega arith

fram_few : (arrays : List Array) → home_count arrays + length (constants_of arrays) ≤ sum_by (λ (a : Array). fram_size a.kind (length a.first)) arrays
fram_few [] = omega arith
fram_few (a ∷ rest) =
    omega (
      arith,
      sum_by-cons (λ (x : Array). length (home_words x.kind x.first)) a rest,
      sum_by-cons (λ (x : Array). fram_size x.kind (length x.first)) a rest,
      length-append (constant_words a.kind a.first) (constants_of rest),
      fram_part a.kind a.first,
      fram_few rest,
    )

sites_few : (c : Core) (tasks : List CoreTask) → AllByRecursion (IsCoreTask c) tasks → AllByRecursion (λ (t : CoreTask). length t.sites ≤ 128) tasks
sites_few c [] good = tt
sites_few c (t ∷ rest) good = (good.0.sites.few, sites_few c rest good.1)

places : (c : Core) → IsWellFormed c → HasPlaces c
places c w =
    let words : sum_by (λ (a : Array). fram_size a.kind (length a.first)) c.arrays ≤ 2048 = w.fram in
    record {
      homes = omega (arith, fram_few c.arrays, words);
      constants = omega (arith, fram_few c.arrays, words);
      locks = most_few c c.tasks w.tasks;
      records = sites_few c c.tasks w.tasks;
      kept = omega (arith, kept_few c c.tasks w.tasks);
    }

-- the whole plan
pub plan_within : (c : Core) (scheme : Scheme) → IsWellFormed c → IsOfProgram c (plan_of c scheme) → IsWithin (plan_of c scheme) c
plan_within c scheme w of = record {
  code = omega (arith, jobs_few (plan_of c scheme) c (most_regions c.tasks) refl c.tasks 0 w.tasks from_first acts_first of.tasks);
  marks = jobs_signs (plan_of c scheme) c (most_regions c.tasks) refl c.tasks 0 w.tasks acts_first;
  fram = places c w;
}
  where
    from_first : StandsFrom (map (all_first c) c.tasks) 0 (map (all_first c) c.tasks)
    from_first i =
        let same : 0 + i ≡ i = omega arith in
        ap (λ (n : ℕ). slice_index_or (map (all_first c) c.tasks) n []) same

    acts_first : StandsFrom (tasks_acts scheme 1 c.tasks) 0 (tasks_acts scheme (0 + 1) c.tasks)
    acts_first i =
        let same : 0 + i ≡ i = omega arith in
        ap (λ (n : ℕ). slice_index_or (tasks_acts scheme 1 c.tasks) n []) same
