-- Each line of a plan's code leads to where the machine may be, so the marks of its runs are at their tasks.
use Rattle.std.specs.Prelude.{◌≡◌, ℕ, zero, suc, ◌+◌, ◌-◌, ◌*◌, ◌/◌, ◌<◌, ◌≤◌, Bool, true, false, nat_lt, cond, List, [], ◌∷◌, ◌++◌, length, slice_index_or, Option, Some, None, refl}
use Rattle.std.specs.List.{AllByRecursion}
use Rattle.std.proofs.Common.{ap, sym, ◌∙◌, arith, subst}
use Rattle.std.proofs.lemmas.Bool.Decides.{nat_tests}
use Rattle.devices.specs.declared.world.PowerRow.{PowerRow}
use Rattle.task_ast.specs.WellFormed.{IsCoreTask, IsWellFormed}
use Rattle.task_ast.specs.declared.core_form.CoreTask.{CoreTask}
use Rattle.task_ast.specs.declared.core_form.Core.{Core}
use Rattle.word_isa.specs.Marks.{mark_at}
use Rattle.word_isa.specs.declared.instr.Instr.{Instr}
use Rattle.word_isa.specs.declared.instr.Instr.TheVariants.{Halt, Ldi, Rem, Shr, Ltu, Ld, Jmp, Jz}
use Rattle.word_isa.specs.declared.parts.Scheme.{Scheme}
use Rattle.word_machine.specs.State.{Program, start}
use Rattle.line_code.specs.declared.line.Line.{Line}
use Rattle.line_code.specs.Lines.{bares}
use Rattle.run_plan.specs.Kinds.{IsOfProgram, IsOfSome, IsOfTask, AreOfTasks}
use Rattle.run_plan.specs.PlanOf.{around, body_acts, exit_act, plan_of, save_acts, task_acts, tasks_acts}
use Rattle.run_plan.specs.Sizes.{AreWithin}
use Rattle.run_plan.specs.declared.act.Act.{Act}
use Rattle.run_plan.specs.declared.parts.Plan.{Plan}
use Rattle.word_code.specs.ActMarks.{jobs_marks}
use Rattle.word_code.specs.CodeOf.{Job, job, frame_at, jobs_from, jobs_of, jobs_size, jobs_code, boot_stubs, task_stubs, first_at, code_of, marks_of}
use Rattle.word_code.specs.FitPlan.{IsFitJob, IsFitPlan}
use Rattle.word_code.specs.Frames.{Frame, stride}
use Rattle.word_code.specs.Heads.{boot_at, tree_code, head_code}
use Rattle.word_code.specs.Passing.{AllFit}
use Rattle.word_code.specs.Within.{HasPlaces, IsWithin}
use Rattle.word_code.proofs.CodePasses.{code_fine}
use Rattle.word_code.proofs.Fine.{Fine}
use Rattle.word_code.proofs.FitLaws.{plan_fits}
use Rattle.code_places.specs.Placed.{program_by}
use Rattle.code_places.proofs.ActGoods.{IsSmall, stride_low}
use Rattle.code_places.proofs.CodeGoods.{boot_stubs_good, code_good, frame_small, head_good, task_stubs_good}
use Rattle.code_places.proofs.FrameGoods.{acts_good}
use Rattle.code_places.proofs.Standing.{all_fit}
use Rattle.task_marks.specs.Told.{AtTheirTasks, marks_on}
use Rattle.task_marks.proofs.ActFlows.{fix_flows}
use Rattle.task_marks.proofs.Among.{IsAmong, IsBare, IsFree, IsGoodJob, among_low, bare_plain, boot_stubs_flow, free_fare, jobs_fare, task_stubs_flow}
use Rattle.task_marks.proofs.Flows.{Flows, join, straight}
use Rattle.task_marks.proofs.LineFlows.{jump_flows}
use Rattle.task_marks.proofs.Reading.{AllFare, fare_joined, fares_at, marks_read, words_read}
use Rattle.task_marks.proofs.Steps.{Fares, run_tells}

-- ---- the head

by_count : (P : List Line → Type 0) (count : ℕ) (b : Bool) (split leaf : List Line) → nat_lt 1 count ≡ b → (1 < count → P split) → P leaf → P (cond b split leaf)
by_count P count true split leaf is one two = one (grind (arith, nat_tests))
by_count P count false split leaf is one two = two

module _ (May : ℕ → Type 0) where
  -- a tree leads on in itself or to a stub
  tree_flows : (tasks deep first count at : ℕ) → ((t : ℕ) → t ≤ 21 + 7 * tasks → May t) → 0 < count → first + count ≤ tasks + 1 → at + 5 * count ≤ 24 + 5 * tasks → Flows IsBare May (tree_code tasks deep first count at)
  tree_flows tasks zero first count at may some range high = jump_flows IsBare May bare_plain (boot_at tasks first) (may (boot_at tasks first) (omega (arith, some, range)))
  tree_flows tasks (suc deep) first count at may some range high =
      let half : ℕ = count / 2 in
      let test : Flows IsBare May (bares (Ldi 2 (first + count / 2 - 1) ∷ Ltu 2 1 ∷ Jz 2 1 ∷ Jmp (at + 5 * (count / 2)) ∷ [])) =
      record { flow = (tt, tt, (tt, tt, (tt, refl, (tt, may (at + 5 * (count / 2)) (omega (arith, high)), tt)))) } in
      by_count (Flows IsBare May) count (nat_lt 1 count) _ _ refl
      (λ more.
      join test
      (join (tree_flows tasks deep first (count / 2) (at + 4) may (omega (arith, more)) (omega (arith, range, more)) (omega (arith, high, more)))
      (tree_flows tasks deep (first + count / 2) (count - count / 2) (at + 5 * (count / 2)) may (omega (arith, more)) (omega (arith, range, more)) (omega (arith, high, more)))))
      (jump_flows IsBare May bare_plain (boot_at tasks first) (may (boot_at tasks first) (omega (arith, some, range))))

  head_flows : (far tasks : ℕ) → ((t : ℕ) → t ≤ 21 + 7 * tasks → May t) → Flows IsBare May (head_code far tasks)
  head_flows far tasks may =
      let task : Flows IsBare May (bares (Ld 1 0 0 ∷ Ldi 2 256 ∷ Rem 1 2 ∷ Ldi 2 1 ∷ Shr 1 2 ∷ [])) = straight bare_plain refl in
      join (fix_flows IsBare May bare_plain far) (join task (tree_flows tasks (tasks + 1) 0 (tasks + 1) 19 may (omega arith) (omega arith) (omega arith)))

-- ---- the code

counted : (p : Plan) (c : Core) (number : ℕ) (left : List CoreTask) → length (jobs_from p c number left) ≡ length left
counted p c number [] = refl
counted p c number (t ∷ rest) = ap suc (counted p c (number + 1) rest)

module _ (p : Plan) (c : Core) where
  -- the places of the machine in the code of a plan
  abbrev May : Option ℕ → ℕ → Type 0
  May = IsAmong p (jobs_of p c) (first_at c)

  low_free : (a : ℕ) → a ≤ 21 + 7 * length c.tasks → IsFree May a
  low_free a low b = among_low p (jobs_of p c) (first_at c) b a low

  code_fares : IsFitPlan p c → AllByRecursion (IsGoodJob c p) (jobs_of p c) → AllFare May 0 (code_of p c)
  code_fares fit good =
      let count : ℕ = length c.tasks in
      let jobs : List Job = jobs_of p c in
      let head : List Line = head_code (stride p.scheme) count in
      let halt : List Line = bares (Halt ∷ []) in
      let boots : List Line = boot_stubs p jobs (first_at c) in
      let stubs : List Line = task_stubs p jobs (first_at c) in
      let codes : List Line = jobs_code p jobs (first_at c) in
      let counts : length jobs ≡ count = counted p c 0 c.tasks in
      let head_long : length head ≡ 20 + 5 * count = (head_good [] (stride p.scheme) count (stride_low p.scheme) fit.tasks).long in
      let boots_long : length boots ≡ count = (boot_stubs_good [] p jobs (first_at c)).long ∙ counts in
      let stubs_long : length stubs ≡ count = (task_stubs_good [] p jobs (first_at c)).long ∙ counts in
      let halts : Flows IsBare (IsFree May) halt = straight bare_plain refl in
      fare_joined May 0 (20 + 5 * count) head (halt ++ (boots ++ (stubs ++ codes))) (omega (arith, head_long))
      (free_fare May 0 head (head_flows (IsFree May) (stride p.scheme) count low_free).flow (λ a low high. low_free a (omega (arith, high, head_long))))
      (fare_joined May (20 + 5 * count) (21 + 5 * count) halt (boots ++ (stubs ++ codes)) (omega arith)
      (free_fare May (20 + 5 * count) halt halts.flow (λ a low high. low_free a (omega (arith, high))))
      (fare_joined May (21 + 5 * count) (21 + 6 * count) boots (stubs ++ codes) (omega (arith, boots_long))
      (free_fare May (21 + 5 * count) boots (boot_stubs_flow p May jobs (first_at c) (λ b a low h. h)).flow (λ a low high. low_free a (omega (arith, high, boots_long))))
      (fare_joined May (21 + 6 * count) (first_at c) stubs codes (omega (arith, stubs_long))
      (free_fare May (21 + 6 * count) stubs (task_stubs_flow p May jobs (first_at c) (λ b a low h. h)).flow (λ a low high. low_free a (omega (arith, high, stubs_long))))
      (jobs_fare c p May low_free jobs (first_at c) good (λ b a low h. h) (λ b a low h. h)))))

-- ---- the jobs of a plan

module _ (p : Plan) (c : Core) (scheme : Scheme) (w : IsWellFormed c) (fit : IsFitPlan p c) (places : HasPlaces c) (boot : AllByRecursion (IsOfSome c) p.boot) where
  good_job : (number : ℕ) (t : CoreTask) → IsCoreTask c t → IsFitJob p (job p c number t) → slice_index_or p.tasks number [] ≡ task_acts scheme (number + 1) t
      → AllByRecursion (IsOfTask c t) (task_acts scheme (number + 1) t) → IsGoodJob c p (job p c number t)
  good_job number t task own is of =
      let f : Frame = frame_at p c number t in
      let low : IsSmall f = frame_small p c number t w fit places task in
      record {
        rest = (save_acts scheme 0 ++ body_acts (around scheme t) t.body) ++ exit_act t.exit ∷ [];
        acts = is;
        fit = own.1;
        of = subst (λ (acts : List Act). AllByRecursion (IsOfTask c t) acts) (sym is) of;
        boot = boot;
        count = refl;
        boot_long = λ at next. (acts_good f low false p.boot at next own.0).long;
        long = λ at next. (acts_good f low false (slice_index_or p.tasks number []) at next own.1).long;
      }

  good_jobs : (left : List CoreTask) (number : ℕ) → AllByRecursion (IsCoreTask c) left → AllByRecursion (IsFitJob p) (jobs_from p c number left)
      → ((i : ℕ) → slice_index_or p.tasks (number + i) [] ≡ slice_index_or (tasks_acts scheme (number + 1) left) i []) → AreOfTasks c left (tasks_acts scheme (number + 1) left)
      → AllByRecursion (IsGoodJob c p) (jobs_from p c number left)
  good_jobs [] number tasks own acts of = tt
  good_jobs (t ∷ rest) number tasks own acts of =
      let here : number + 0 ≡ number = omega arith in
      let first : slice_index_or p.tasks number [] ≡ task_acts scheme (number + 1) t = ap (λ (n : ℕ). slice_index_or p.tasks n []) (sym here) ∙ acts 0 in
      let behind : (i : ℕ) → number + 1 + i ≡ number + suc i = λ i. omega arith in
      let later : (i : ℕ) → slice_index_or p.tasks (number + 1 + i) [] ≡ slice_index_or (tasks_acts scheme (number + 1 + 1) rest) i [] = λ i. ap (λ (n : ℕ). slice_index_or p.tasks n []) (behind i) ∙ acts (suc i) in
      (good_job number t tasks.0 own.0 first of.0, good_jobs rest (number + 1) tasks.1 own.1 later of.1)

-- ---- every run

pub marks_named : (c : Core) (scheme : Scheme) → IsWellFormed c → IsWithin (plan_of c scheme) c → AreWithin scheme c → IsOfProgram c (plan_of c scheme)
    → (values : ℕ → List ℕ) (rows : List PowerRow) (fram : List ℕ) → AtTheirTasks None (marks_on (marks_of 0 (code_of (plan_of c scheme) c)) (program_by (plan_of c scheme) c values) rows (start fram))
marks_named c scheme w within limits of values rows fram =
    let p : Plan = plan_of c scheme in
    let lines : List Line = code_of p c in
    let short : first_at c + jobs_size p (jobs_of p c) ≤ 4194304 = omega (arith, within.code, limits.code) in
    let fit : IsFitPlan p c = plan_fits c scheme w in
    let fine : Fine (jobs_marks p (jobs_of p c)) lines = code_fine p c w fit short in
    let fits : AllFit lines = all_fit lines fine.pass (code_good p c w fit within.fram).narrow in
    let from_first : (i : ℕ) → slice_index_or p.tasks (0 + i) [] ≡ slice_index_or (tasks_acts scheme (0 + 1) c.tasks) i [] = λ i. (let same : 0 + i ≡ i = omega arith in ap (λ (n : ℕ). slice_index_or p.tasks n []) same) in
    let fares : AllFare (May p c) 0 lines = code_fares p c fit (good_jobs p c scheme w fit within.fram of.boot c.tasks 0 w.tasks fit.jobs from_first of.tasks) in
    let program : Program = program_by p c values in
    let closed : (b : Option ℕ) (at : ℕ) (i : Instr) → May p c b at → program.instr at ≡ Some i → Fares (May p c) b at i (mark_at (marks_of 0 lines) at) =
    λ b at i may there.
    subst (Fares (May p c) b at i) (sym (marks_read lines 0 at at (omega arith)))
    (fares_at (May p c) lines 0 at at b i (omega arith) fares (sym (words_read lines fits at) ∙ there) may) in
    run_tells (marks_of 0 lines) program (May p c) (λ at. refl) closed (λ b. low_free p c 0 (omega arith) b) rows fram
