-- The whole code of a plan that fits passes, and has the marks of its acts.
use Rattle.std.specs.Prelude.{ℕ, zero, suc, ◌+◌, ◌-◌, ◌*◌, ◌/◌, ◌<◌, ◌≤◌, Bool, true, false, nat_lt, cond, List, [], ◌∷◌, length, slice_get, refl}
use Rattle.std.specs.List.{AllByRecursion}
use Rattle.std.proofs.Common.{arith, rules}
use Rattle.ease_base.specs.declared.place.Peripheral.{Peripheral}
use Rattle.task_ast.specs.declared.tree.Kind.{Kind}
use Rattle.task_ast.specs.declared.tree.Kind.TheVariants.{Nv, Const, Vol}
use Rattle.task_ast.specs.declared.core_form.Array.{Array}
use Rattle.task_ast.specs.declared.core_form.CoreTask.{CoreTask}
use Rattle.task_ast.specs.declared.core_form.Core.{Core}
use Rattle.task_ast.specs.WellFormed.{IsCorePeripheral, IsWellFormed}
use Rattle.word_isa.specs.declared.instr.Instr.TheVariants.{Halt, Ldi, Rem, Shr, Ltu, Ld, Jmp, Jz}
use Rattle.line_code.specs.declared.areas.Free.{Free}
use Rattle.line_code.specs.declared.line.Line.{Line}
use Rattle.line_code.specs.Areas.{area_of, area_at, free_of, areas_from, free_at_first}
use Rattle.line_code.specs.Lines.{bares}
use Rattle.run_plan.specs.declared.parts.Plan.{Plan}
use Rattle.word_code.specs.ActMarks.{job_marks, jobs_marks}
use Rattle.word_code.specs.CodeOf.{Job, jobs_from, jobs_of, boot_size, job_size, jobs_size, job_code, jobs_code, boot_stubs, task_stubs, first_at, code_of}
use Rattle.word_code.specs.FitPlan.{IsFitJob, IsFitPlan}
use Rattle.word_code.specs.Frames.{number_of, stride}
use Rattle.word_code.specs.Heads.{boot_at, leaf_code, tree_code, head_code}
use Rattle.word_code.proofs.ActPasses.{IsLow, jump_fine, fix_fine, acts_fine}
use Rattle.word_code.proofs.Fine.{Fine, fine_join, fine_front}
use Rattle.word_code.proofs.LinePasses.{IsBased}

-- ---- the head

leaf_fine : (tasks task : ℕ) → tasks ≤ 64 → task ≤ 65 → Fine 0 (leaf_code tasks task)
leaf_fine tasks task few low = jump_fine (boot_at tasks task) (omega (arith, few, low))

by_count : (b : Bool) (split leaf : List Line) → Fine 0 split → Fine 0 leaf → Fine 0 (cond b split leaf)
by_count true split leaf one two = one
by_count false split leaf one two = two

node_fine : (word to : ℕ) → to ≤ 4194304 → Fine 0 (bares (Ldi 2 word ∷ Ltu 2 1 ∷ Jz 2 1 ∷ Jmp to ∷ []))
node_fine word to low =
    let there : to < 16777216 = omega (arith, low) in
    record { pass = search rules; signs = refl }

tree_fine : (tasks deep first count at : ℕ) → tasks ≤ 64 → first + count ≤ 65 → at + 5 * count + 4 * deep ≤ 4194304 → Fine 0 (tree_code tasks deep first count at)
tree_fine tasks zero first count at few range low = leaf_fine tasks first few (omega (arith, range))
tree_fine tasks (suc deep) first count at few range low =
    let half : count / 2 ≤ count = omega arith in
    by_count (nat_lt 1 count) _ _
    (fine_front (node_fine (first + count / 2 - 1) (at + 5 * (count / 2)) (omega (arith, low, half)))
    (fine_front (tree_fine tasks deep first (count / 2) (at + 4) few (omega (arith, range, half)) (omega (arith, low, half)))
    (tree_fine tasks deep (first + count / 2) (count - count / 2) (at + 5 * (count / 2)) few (omega (arith, range, half)) (omega (arith, low, half)))))
    (leaf_fine tasks first few (omega (arith, range)))

head_fine : (far tasks : ℕ) → tasks ≤ 64 → Fine 0 (head_code far tasks)
head_fine far tasks few =
    let task : Fine 0 (bares (Ld 1 0 0 ∷ Ldi 2 256 ∷ Rem 1 2 ∷ Ldi 2 1 ∷ Shr 1 2 ∷ [])) = record { pass = search rules; signs = refl } in
    fine_front (fix_fine far) (fine_front task (tree_fine tasks (tasks + 1) 0 (tasks + 1) 19 few (omega (arith, few)) (omega (arith, few))))

-- ---- the stubs

boot_stubs_fine : (p : Plan) (jobs : List Job) (at : ℕ) → at + jobs_size p jobs ≤ 4194304 → Fine 0 (boot_stubs p jobs at)
boot_stubs_fine p [] at low = record { pass = tt; signs = refl }
boot_stubs_fine p (j ∷ rest) at low = fine_front (jump_fine at (omega (arith, low))) (boot_stubs_fine p rest (at + job_size p j) (omega (arith, low)))

task_stubs_fine : (p : Plan) (jobs : List Job) (at : ℕ) → at + jobs_size p jobs ≤ 4194304 → Fine 0 (task_stubs p jobs at)
task_stubs_fine p [] at low = record { pass = tt; signs = refl }
task_stubs_fine p (j ∷ rest) at low = fine_front (jump_fine (at + boot_size p j) (omega (arith, low))) (task_stubs_fine p rest (at + job_size p j) (omega (arith, low)))

-- ---- the tasks

abbrev IsLowJob : Job → Type 0
IsLowJob j = IsLow j.frame

job_fine : (p : Plan) (j : Job) (at : ℕ) → IsFitJob p j → IsLowJob j → at + job_size p j ≤ 4194304 → Fine (job_marks p j) (job_code p j at)
job_fine p j at fit good low =
    fine_join (acts_fine j.frame good false p.boot at (at + boot_size p j) fit.0 (omega (arith, low)) (omega (arith, low)))
    (acts_fine j.frame good false j.acts (at + boot_size p j) 0 fit.1 (omega (arith, low)) (omega arith))

jobs_fine : (p : Plan) (jobs : List Job) (at : ℕ) → AllByRecursion (IsFitJob p) jobs → AllByRecursion IsLowJob jobs → at + jobs_size p jobs ≤ 4194304 → Fine (jobs_marks p jobs) (jobs_code p jobs at)
jobs_fine p [] at fit good low = record { pass = tt; signs = refl }
jobs_fine p (j ∷ rest) at fit good low = fine_join (job_fine p j at fit.0 good.0 (omega (arith, low))) (jobs_fine p rest (at + job_size p j) fit.1 good.1 (omega (arith, low)))

-- ---- frames of tasks

area_based : (free : Free) (k : Kind) (n : ℕ) → IsBased (area_of free k n)
area_based free Nv n = refl
area_based free Const n = refl
area_based free Vol n = refl

areas_based : (free : Free) (arrays : List Array) (a : ℕ) → IsBased (area_at (areas_from free arrays) a)
areas_based free [] zero = refl
areas_based free [] (suc a) = refl
areas_based free (x ∷ xs) zero = area_based free x.kind (length x.first)
areas_based free (x ∷ xs) (suc a) = areas_based (free_of free x.kind (length x.first)) xs a

peripheral_few : (xs : List Peripheral) (p : ℕ) → AllByRecursion IsCorePeripheral xs → number_of (slice_get xs p) ≤ 255
peripheral_few [] zero good = omega arith
peripheral_few [] (suc p) good = omega arith
peripheral_few (x ∷ xs) zero good = good.0.1
peripheral_few (x ∷ xs) (suc p) good = peripheral_few xs p good.1

jobs_low : (p : Plan) (c : Core) (left : List CoreTask) (number : ℕ) → IsWellFormed c → number + length left ≤ 64 → AllByRecursion IsLowJob (jobs_from p c number left)
jobs_low p c [] number w few = tt
jobs_low p c (t ∷ rest) number w few = (
  record {
    based = λ a. areas_based free_at_first c.arrays a;
    some = omega arith;
    few = omega (arith, few);
    tasks = w.few_tasks;
    peripherals = λ q. peripheral_few c.peripherals q w.peripherals;
  },
  jobs_low p c rest (number + 1) w (omega (arith, few)),
)

-- ---- all of it

pub code_fine : (p : Plan) (c : Core) → IsWellFormed c → IsFitPlan p c → first_at c + jobs_size p (jobs_of p c) ≤ 4194304 → Fine (jobs_marks p (jobs_of p c)) (code_of p c)
code_fine p c w fit low =
    let tasks : length c.tasks ≤ 64 = w.few_tasks in
    let halt : Fine 0 (bares (Halt ∷ [])) = record { pass = ((tt, tt), tt); signs = refl } in
    fine_front (head_fine (stride p.scheme) (length c.tasks) tasks)
    (fine_front halt
    (fine_front (boot_stubs_fine p (jobs_of p c) (first_at c) low)
    (fine_front (task_stubs_fine p (jobs_of p c) (first_at c) low)
    (jobs_fine p (jobs_of p c) (first_at c) fit.jobs (jobs_low p c c.tasks 0 w (omega (arith, tasks))) low))))
