-- The whole code of a plan is narrow, as long as its parts, and followed to the halt.
use Rattle.std.specs.Prelude.{◌≡◌, ℕ, zero, suc, ◌+◌, ◌-◌, ◌*◌, ◌/◌, ◌<◌, ◌≤◌, Bool, true, false, nat_lt, cond, List, [], ◌∷◌, length, slice_get, IsTrue, refl}
use Rattle.std.specs.List.{AllByRecursion}
use Rattle.std.proofs.Common.{arith, rules}
use Rattle.std.proofs.lemmas.Bool.Decides.{nat_tests}
use Rattle.ease_base.specs.declared.place.Peripheral.{Peripheral}
use Rattle.task_ast.specs.WellFormed.{IsCorePeripheral, IsCoreTask, IsSite, IsWellFormed}
use Rattle.task_ast.specs.declared.core_form.CoreTask.{CoreTask}
use Rattle.task_ast.specs.declared.core_form.Core.{Core}
use Rattle.task_ast.specs.declared.core_form.Site.{Site}
use Rattle.word_isa.specs.declared.instr.Instr.TheVariants.{Halt, Ldi, Rem, Shr, Ltu, Ld, Jmp, Jz}
use Rattle.line_code.specs.declared.areas.Placed.{Placed}
use Rattle.line_code.specs.declared.line.Line.{Line}
use Rattle.line_code.specs.Areas.{area_at, areas_from, free_at_first}
use Rattle.line_code.specs.Lines.{bares}
use Rattle.run_plan.specs.declared.parts.Plan.{Plan}
use Rattle.word_code.specs.Beginnings.{AreLow}
use Rattle.word_code.specs.CodeOf.{Job, job, frame_at, jobs_from, jobs_of, boot_size, job_size, jobs_size, job_code, jobs_code, boot_stubs, task_stubs, first_at, code_of}
use Rattle.word_code.specs.FitPlan.{IsFitJob, IsFitPlan}
use Rattle.word_code.specs.Frames.{number_of, stride}
use Rattle.word_code.specs.Heads.{boot_at, leaf_code, tree_code, head_code}
use Rattle.word_code.specs.Within.{HasPlaces}
use Rattle.word_code.proofs.JobLemmas.{arrays_low}
use Rattle.code_places.proofs.Good.{Good, small, join, good_as, nothing}
use Rattle.code_places.proofs.LineGoods.{LiesLow}
use Rattle.code_places.proofs.ActGoods.{IsTimed, IsSmall, way_of, stride_low, fix_good, jump_good}
use Rattle.code_places.proofs.FrameGoods.{acts_good}

-- ---- the head

module _ (way : List Line) where
  leaf_good : (tasks task : ℕ) → Good way 1 (leaf_code tasks task)
  leaf_good tasks task = jump_good way (boot_at tasks task)

  node_good : (word to : ℕ) → word ≤ 65 → Good way 4 (bares (Ldi 2 word ∷ Ltu 2 1 ∷ Jz 2 1 ∷ Jmp to ∷ []))
  node_good word to few =
      let low : IsTrue (nat_lt word 65536) = small word (omega (arith, few)) in
      record { long = refl; narrow = (low, (tt, (refl, (tt, tt)))); followed = search rules }

  by_count : (n count : ℕ) (b : Bool) (split leaf : List Line) → nat_lt 1 count ≡ b → (1 < count → Good way n split) → (count ≤ 1 → Good way n leaf) → Good way n (cond b split leaf)
  by_count n count true split leaf is one two = one (grind (arith, nat_tests))
  by_count n count false split leaf is one two = two (grind (arith, nat_tests))

  -- a tree has a leaf for each number, and a node between two
  tree_good : (tasks deep first count at n : ℕ) → 0 < count → count ≤ deep → first + count ≤ 65 → n + 4 ≡ 5 * count → Good way n (tree_code tasks deep first count at)
  tree_good tasks zero first count at n some enough range size = absurd (omega (arith, some, enough))
  tree_good tasks (suc deep) first count at n some enough range size =
      by_count n count (nat_lt 1 count) _ _ refl
      (λ more.
      good_as n
      (join (node_good (first + count / 2 - 1) (at + 5 * (count / 2)) (omega (arith, range, more)))
      (join (tree_good tasks deep first (count / 2) (at + 4) (5 * (count / 2) - 4) (omega (arith, more)) (omega (arith, enough, more)) (omega (arith, range, more)) (omega (arith, more)))
      (tree_good tasks deep (first + count / 2) (count - count / 2) (at + 5 * (count / 2)) (5 * (count - count / 2) - 4) (omega (arith, more)) (omega (arith, enough, more)) (omega (arith, range, more)) (omega (arith, more)))))
      (omega (arith, size, more)))
      (λ few. good_as n (leaf_good tasks first) (omega (arith, few, some, size)))

  pub head_good : (far tasks : ℕ) → far ≤ 2048 → tasks ≤ 64 → Good way (20 + 5 * tasks) (head_code far tasks)
  head_good far tasks low few =
      let task : Good way 5 (bares (Ld 1 0 0 ∷ Ldi 2 256 ∷ Rem 1 2 ∷ Ldi 2 1 ∷ Shr 1 2 ∷ [])) = record { long = refl; narrow = search rules; followed = search rules } in
      good_as (20 + 5 * tasks)
      (join (fix_good way far low) (join task (tree_good tasks (tasks + 1) 0 (tasks + 1) 19 (1 + 5 * tasks) (omega arith) (omega arith) (omega (arith, few)) (omega arith))))
      (omega arith)

  pub halt_good : Good way 1 (bares (Halt ∷ []))
  halt_good = record { long = refl; narrow = search rules; followed = search rules }

  -- ---- the stubs

  pub boot_stubs_good : (p : Plan) (jobs : List Job) (at : ℕ) → Good way (length jobs) (boot_stubs p jobs at)
  boot_stubs_good p [] at = nothing
  boot_stubs_good p (j ∷ rest) at = good_as (length (j ∷ rest)) (join (jump_good way at) (boot_stubs_good p rest (at + job_size p j))) (omega arith)

  pub task_stubs_good : (p : Plan) (jobs : List Job) (at : ℕ) → Good way (length jobs) (task_stubs p jobs at)
  task_stubs_good p [] at = nothing
  task_stubs_good p (j ∷ rest) at = good_as (length (j ∷ rest)) (join (jump_good way (at + boot_size p j)) (task_stubs_good p rest (at + job_size p j))) (omega arith)

-- ---- frames of tasks

low_at : (areas : List Placed) → AreLow areas → (a : ℕ) → LiesLow (area_at areas a)
low_at [] all zero = omega arith
low_at [] all (suc a) = omega arith
low_at (x ∷ xs) all zero = all.0
low_at (x ∷ xs) all (suc a) = low_at xs all.1 a

peripheral_few : (xs : List Peripheral) (p : ℕ) → AllByRecursion IsCorePeripheral xs → number_of (slice_get xs p) ≤ 255
peripheral_few [] zero good = omega arith
peripheral_few [] (suc p) good = omega arith
peripheral_few (x ∷ xs) zero good = good.0.1
peripheral_few (x ∷ xs) (suc p) good = peripheral_few xs p good.1

timed_at : (sites : List Site) (k : ℕ) → AllByRecursion IsSite sites → IsTimed (slice_get sites k)
timed_at [] zero all = tt
timed_at [] (suc k) all = tt
timed_at (x ∷ xs) zero all = all.0
timed_at (x ∷ xs) (suc k) all = timed_at xs k all.1

pub frame_small : (p : Plan) (c : Core) (number : ℕ) (t : CoreTask) → IsWellFormed c → IsFitPlan p c → HasPlaces c → IsCoreTask c t → IsSmall (frame_at p c number t)
frame_small p c number t w fit places task = record {
  low = low_at (areas_from free_at_first c.arrays) (arrays_low c.arrays fit.words);
  arrays = w.arrays;
  words = fit.words;
  homes = places.homes;
  pointers = fit.pointers;
  kept = task.sites.kept;
  times = λ k. timed_at t.sites (k - 1) task.sites.times;
  peripherals = λ q. peripheral_few c.peripherals q w.peripherals;
}

-- ---- the tasks, and all of it

module _ (p : Plan) (c : Core) (w : IsWellFormed c) (fit : IsFitPlan p c) (places : HasPlaces c) where
  abbrev pub halts : List Line
  halts = way_of p.scheme (length c.tasks)

  pub job_good : (number at : ℕ) (t : CoreTask) → IsCoreTask c t → IsFitJob p (job p c number t) → Good halts (job_size p (job p c number t)) (job_code p (job p c number t) at)
  job_good number at t task own =
      let f = frame_at p c number t in
      let low = frame_small p c number t w fit places task in
      join (acts_good f low false p.boot at (at + boot_size p (job p c number t)) own.0) (acts_good f low false (job p c number t).acts (at + boot_size p (job p c number t)) 0 own.1)

  pub jobs_good : (left : List CoreTask) (number at : ℕ) → AllByRecursion (IsCoreTask c) left → AllByRecursion (IsFitJob p) (jobs_from p c number left)
      → Good halts (jobs_size p (jobs_from p c number left)) (jobs_code p (jobs_from p c number left) at)
  jobs_good [] number at tasks own = nothing
  jobs_good (t ∷ rest) number at tasks own = join (job_good number at t tasks.0 own.0) (jobs_good rest (number + 1) (at + job_size p (job p c number t)) tasks.1 own.1)

  pub code_good : Good halts (20 + 5 * length c.tasks + (1 + (length (jobs_of p c) + (length (jobs_of p c) + jobs_size p (jobs_of p c))))) (code_of p c)
  code_good =
      join (head_good halts (stride p.scheme) (length c.tasks) (stride_low p.scheme) fit.tasks)
      (join (halt_good halts)
      (join (boot_stubs_good halts p (jobs_of p c) (first_at c))
      (join (task_stubs_good halts p (jobs_of p c) (first_at c)) (jobs_good c.tasks 0 (first_at c) w.tasks fit.jobs))))
