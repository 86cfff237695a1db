-- Where the code of a plan lies: the parts of lines that stand in a program.
use Rattle.std.specs.Prelude.{◌≡◌, ℕ, zero, suc, ◌+◌, ◌*◌, ◌==◌, Bool, true, false, cond, List, [], ◌∷◌, ◌++◌, length, slice_get, slice_index_or, Some, refl}
use Rattle.std.specs.List.{AllByRecursion}
use Rattle.std.proofs.Common.{ap, arith, subst}
use Rattle.std.proofs.lemmas.Bool.Decides.{nat_tests}
use Rattle.task_ast.specs.WellFormed.{IsCoreTask, IsWellFormed}
use Rattle.task_ast.specs.declared.core_form.CoreTask.{CoreTask}
use Rattle.task_ast.specs.declared.core_form.Core.{Core}
use Rattle.word_isa.specs.declared.instr.Instr.TheVariants.{Halt}
use Rattle.word_machine.specs.State.{Program}
use Rattle.line_code.specs.declared.line.Line.{Line}
use Rattle.line_code.specs.Expressions.{expr_code}
use Rattle.line_code.specs.Lines.{bares}
use Rattle.line_code.specs.Sizes.{expr_size}
use Rattle.line_laws.specs.Standing.{Lie, lie_front, lie_behind}
use Rattle.run_plan.specs.declared.act.Act.{Act, Row_of-Act, end_of-Act, more_of-Act}
use Rattle.run_plan.specs.declared.act.Act.TheVariants as act
use Rattle.run_plan.specs.declared.parts.Plan.{Plan}
use Rattle.word_code.specs.ActCode.{entry, acts_entry, test_code, act_code, row_code, acts_code}
use Rattle.word_code.specs.Acts.{jump}
use Rattle.word_code.specs.CodeOf.{Job, job, frame_at, jobs_from, jobs_of, boot_size, job_size, job_code, jobs_code, boot_stubs, task_stubs, first_at, code_of}
use Rattle.word_code.specs.FitPlan.{IsFitJob, IsFitPlan}
use Rattle.word_code.specs.Fitting.{IsFit, AreFitRow, AreFit}
use Rattle.word_code.specs.Frames.{Frame, halt_at, site_at, stride, stub_at}
use Rattle.word_code.specs.Heads.{boot_at, head_code}
use Rattle.word_code.specs.Sizes.{act_size, row_size, acts_size}
use Rattle.word_code.specs.Tables.{leave_code, keeps_code, keeps_size, branch, class_test}
use Rattle.word_code.specs.Within.{HasPlaces}
use Rattle.code_places.specs.Placed.{ActLies, RowLies, ActsLie, TaskLies, IsPlaced}
use Rattle.code_places.proofs.LineGoods.{expr_good}
use Rattle.code_places.proofs.ActGoods.{IsSmall, stride_low, keeps_good, class_good}
use Rattle.code_places.proofs.FrameGoods.{act_good, row_good, acts_good}
use Rattle.code_places.proofs.CodeGoods.{frame_small, job_good, head_good, boot_stubs_good, task_stubs_good}

-- ---- acts

module _ (p : Program) (f : Frame) (good : IsSmall f) where
  mutual
    act_lies : (keeps : Bool) (a : Act) (at next : ℕ) → IsFit f a → Lie p at (act_code f keeps a at next) → ActLies p f keeps a at next
    act_lies keeps (act.Test' c m yes_row n no_row) at next fit h =
        let yes_at : ℕ = at + expr_size c + 4 in
        let no_at : ℕ = yes_at + row_size f yes_row in
        let condition : List Line = expr_code f.areas c 0 at in
        let test : List Line = test_code (entry yes_row yes_at next) (entry no_row no_at next) in
        let yes_part : List Line = row_code f keeps yes_row yes_at next in
        let no_part : List Line = row_code f keeps no_row no_at next in
        let tested : Lie p (at + expr_size c) (test ++ (yes_part ++ no_part)) = lie_behind p at condition (test ++ (yes_part ++ no_part)) (at + expr_size c) h (omega (arith, (expr_good [] f.areas good.low c 0 at fit.0).long)) in
        let parts : Lie p yes_at (yes_part ++ no_part) = lie_behind p (at + expr_size c) test (yes_part ++ no_part) yes_at tested (omega arith) in (
          h,
          row_lies keeps yes_row yes_at next fit.1 (lie_front p yes_at yes_part no_part parts),
          row_lies keeps no_row no_at next fit.2 (lie_behind p yes_at yes_part no_part no_at parts (omega (arith, (row_good f good keeps yes_row yes_at next fit.1).long))),
        )
    act_lies keeps (act.Choose' k m issue_row n keep_row) at next fit h =
        let test_at : ℕ = at + keeps_size (site_at f k) in
        let issue_at : ℕ = at + keeps_size (site_at f k) + 3 in
        let keep_at : ℕ = issue_at + row_size f issue_row in
        let condition : List Line = keeps_code (site_at f k) k in
        let test : List Line = branch (entry keep_row keep_at next) (entry issue_row issue_at next) in
        let issue_part : List Line = row_code f false issue_row issue_at next in
        let keep_part : List Line = row_code f true keep_row keep_at next in
        let tested : Lie p test_at (test ++ (issue_part ++ keep_part)) = lie_behind p at condition (test ++ (issue_part ++ keep_part)) test_at h (omega (arith, (keeps_good [] (site_at f k) k (good.times k) fit.0).long)) in
        let parts : Lie p issue_at (issue_part ++ keep_part) = lie_behind p test_at test (issue_part ++ keep_part) issue_at tested (omega arith) in (
          h,
          row_lies false issue_row issue_at next fit.1 (lie_front p issue_at issue_part keep_part parts),
          row_lies true keep_row keep_at next fit.2 (lie_behind p issue_at issue_part keep_part keep_at parts (omega (arith, (row_good f good false issue_row issue_at next fit.1).long))),
        )
    act_lies keeps (act.Leave' k m row) at next fit h =
        let part : List Line = row_code f keeps row (at + 8) next in
        let test : List Line = branch next (entry row (at + 8) next) in
        let tested : Lie p (at + 5) (test ++ part) = lie_behind p at (leave_code k) (test ++ part) (at + 5) h (omega arith) in
        (h, row_lies keeps row (at + 8) next fit.1 (lie_behind p (at + 5) test part (at + 8) tested (omega arith)))
    act_lies keeps (act.ByClass' k l single_row m private_row n rest_row) at next fit h =
        let single_at : ℕ = at + 12 in
        let private_at : ℕ = single_at + row_size f single_row in
        let rest_at : ℕ = private_at + row_size f private_row in
        let single_part : List Line = row_code f keeps single_row single_at next in
        let private_part : List Line = row_code f keeps private_row private_at next in
        let rest_part : List Line = row_code f keeps rest_row rest_at next in
        let one : List Line = class_test keeps k 1 (entry single_row single_at next) (at + 6) in
        let two : List Line = class_test keeps k 2 (entry private_row private_at next) (entry rest_row rest_at next) in
        let all : List Line = single_part ++ (private_part ++ rest_part) in
        let second : Lie p (at + 6) (two ++ all) = lie_behind p at one (two ++ all) (at + 6) h (omega (arith, (class_good [] keeps k 1 (entry single_row single_at next) (at + 6) (omega arith) fit.0).long)) in
        let parts : Lie p single_at all = lie_behind p (at + 6) two all single_at second (omega (arith, (class_good [] keeps k 2 (entry private_row private_at next) (entry rest_row rest_at next) (omega arith) fit.0).long)) in
        let others : Lie p private_at (private_part ++ rest_part) = lie_behind p single_at single_part (private_part ++ rest_part) private_at parts (omega (arith, (row_good f good keeps single_row single_at next fit.1).long)) in (
          h,
          row_lies keeps single_row single_at next fit.1 (lie_front p single_at single_part (private_part ++ rest_part) parts),
          row_lies keeps private_row private_at next fit.2 (lie_front p private_at private_part rest_part others),
          row_lies keeps rest_row rest_at next fit.3 (lie_behind p private_at private_part rest_part rest_at others (omega (arith, (row_good f good keeps private_row private_at next fit.2).long))),
        )
    act_lies keeps a at next fit h = h

    row_lies : (keeps : Bool) {n : _} (row : Row_of-Act n) (at next : ℕ) → AreFitRow f row → Lie p at (row_code f keeps row at next) → RowLies p f keeps row at next
    row_lies keeps end_of-Act at next fit h = tt
    row_lies keeps (more_of-Act a rest) at next fit h =
        let behind_at : ℕ = at + act_size f a in
        let here : List Line = act_code f keeps a at (entry rest behind_at next) in
        let later : List Line = row_code f keeps rest behind_at next in (
          act_lies keeps a at (entry rest behind_at next) fit.0 (lie_front p at here later h),
          row_lies keeps rest behind_at next fit.1 (lie_behind p at here later behind_at h (omega (arith, (act_good f good keeps a at (entry rest behind_at next) fit.0).long))),
        )

  acts_lie : (keeps : Bool) (acts : List Act) (at next : ℕ) → AreFit f acts → Lie p at (acts_code f keeps acts at next) → ActsLie p f keeps acts at next
  acts_lie keeps [] at next fit h = tt
  acts_lie keeps (a ∷ rest) at next fit h =
      let behind_at : ℕ = at + act_size f a in
      let here : List Line = act_code f keeps a at (acts_entry rest behind_at next) in
      let later : List Line = acts_code f keeps rest behind_at next in (
        act_lies keeps a at (acts_entry rest behind_at next) fit.0 (lie_front p at here later h),
        acts_lie keeps rest behind_at next fit.1 (lie_behind p at here later behind_at h (omega (arith, (act_good f good keeps a at (acts_entry rest behind_at next) fit.0).long))),
      )

-- ---- tasks

-- a task's parts, by where its stubs are
record HasTask (p : Program) (plan : Plan) (c : Core) (boot_place stub_place number : ℕ) (t : CoreTask) : Type 0 where
  pub top : ℕ
  pub boot_stub : Lie p boot_place (jump top)
  pub boot : ActsLie p (frame_at plan c number t) false plan.boot top (top + acts_size (frame_at plan c number t) plan.boot)
  pub stub : Lie p stub_place (jump (top + acts_size (frame_at plan c number t) plan.boot))
  pub acts : ActsLie p (frame_at plan c number t) false (slice_index_or plan.tasks number []) (top + acts_size (frame_at plan c number t) plan.boot) 0

task_as : (p : Program) (plan : Plan) (c : Core) (x y m n j k : ℕ) (s t : CoreTask) → x ≡ y → m ≡ n → j ≡ k → s ≡ t → HasTask p plan c x m j s → HasTask p plan c y n k t
task_as p plan c x y m n j k s t one two three four h = subst (λ (T : Type 0). T) (λ i. HasTask p plan c (one i) (two i) (three i) (four i)) h

is_some_of : (s t : CoreTask) → Some s ≡ Some t → s ≡ t
is_some_of s t e = cc

module _ (p : Program) (plan : Plan) (c : Core) (w : IsWellFormed c) (fit : IsFitPlan plan c) (places : HasPlaces c) where
  first_task : (number at boot_place stub_place : ℕ) (t : CoreTask) (boots stubs codes : List Line) → IsCoreTask c t → IsFitJob plan (job plan c number t)
      → Lie p boot_place (jump at ++ boots) → Lie p stub_place (jump (at + boot_size plan (job plan c number t)) ++ stubs) → Lie p at (job_code plan (job plan c number t) at ++ codes)
      → HasTask p plan c boot_place stub_place number t
  first_task number at boot_place stub_place t boots stubs codes task own boot_lies stub_lies code_lies =
      let f : Frame = frame_at plan c number t in
      let low : IsSmall f = frame_small plan c number t w fit places task in
      let behind : ℕ = at + acts_size f plan.boot in
      let boot_part : List Line = acts_code f false plan.boot at behind in
      let acts_part : List Line = acts_code f false (slice_index_or plan.tasks number []) behind 0 in
      let whole : Lie p at (boot_part ++ acts_part) = lie_front p at (boot_part ++ acts_part) codes code_lies in
      record {
        top = at;
        boot_stub = (boot_lies.0, tt);
        boot = acts_lie p f low false plan.boot at behind own.0 (lie_front p at boot_part acts_part whole);
        stub = (stub_lies.0, tt);
        acts = acts_lie p f low false (slice_index_or plan.tasks number []) behind 0 own.1 (lie_behind p at boot_part acts_part behind whole (omega (arith, (acts_good f low false plan.boot at behind own.0).long)));
      }

  tasks_lie : (left : List CoreTask) (number at boot_place stub_place : ℕ) → AllByRecursion (IsCoreTask c) left → AllByRecursion (IsFitJob plan) (jobs_from plan c number left)
      → Lie p boot_place (boot_stubs plan (jobs_from plan c number left) at) → Lie p stub_place (task_stubs plan (jobs_from plan c number left) at) → Lie p at (jobs_code plan (jobs_from plan c number left) at)
      → (n : ℕ) (t : CoreTask) → slice_get left n ≡ Some t → HasTask p plan c (boot_place + n) (stub_place + n) (number + n) t
  tasks_lie [] number at boot_place stub_place tasks own boots stubs codes zero t is = cc
  tasks_lie [] number at boot_place stub_place tasks own boots stubs codes (suc n) t is = cc
  tasks_lie (x ∷ rest) number at boot_place stub_place tasks own boots stubs codes zero t is =
      let j : Job = job plan c number x in
      let later : List Job = jobs_from plan c (number + 1) rest in
      let here : HasTask p plan c boot_place stub_place number x =
      first_task number at boot_place stub_place x (boot_stubs plan later (at + job_size plan j)) (task_stubs plan later (at + job_size plan j)) (jobs_code plan later (at + job_size plan j)) tasks.0 own.0 boots stubs codes in
      task_as p plan c boot_place (boot_place + 0) stub_place (stub_place + 0) number (number + 0) x t (omega arith) (omega arith) (omega arith) (is_some_of x t is) here
  tasks_lie (x ∷ rest) number at boot_place stub_place tasks own boots stubs codes (suc n) t is =
      let j : Job = job plan c number x in
      let later : List Job = jobs_from plan c (number + 1) rest in
      let behind : ℕ = at + job_size plan j in
      let code_lies : Lie p behind (jobs_code plan later behind) =
      lie_behind p at (job_code plan j at) (jobs_code plan later behind) behind codes (omega (arith, (job_good plan c w fit places number at x tasks.0 own.0).long)) in
      task_as p plan c (boot_place + 1 + n) (boot_place + suc n) (stub_place + 1 + n) (stub_place + suc n) (number + 1 + n) (number + suc n) t t (omega arith) (omega arith) (omega arith) refl
      (tasks_lie rest (number + 1) behind (boot_place + 1) (stub_place + 1) tasks.1 own.1 boots.1 stubs.1 code_lies n t is)

  -- ---- all of it

  stub_is : (b : Bool) (tasks n : ℕ) → (n + 1 == 0) ≡ b → 21 + 6 * tasks + n ≡ cond b (halt_at tasks) (20 + 6 * tasks + (n + 1))
  stub_is true tasks n e = absurd (grind (arith, nat_tests))
  stub_is false tasks n e = omega arith

  jobs_counted : (left : List CoreTask) (number : ℕ) → length (jobs_from plan c number left) ≡ length left
  jobs_counted [] number = refl
  jobs_counted (t ∷ rest) number = ap suc (jobs_counted rest (number + 1))

  pub plan_placed : Lie p 0 (code_of plan c) → IsPlaced p plan c
  plan_placed h =
      let jobs : List Job = jobs_of plan c in
      let count : ℕ = length c.tasks in
      let head : List Line = head_code (stride plan.scheme) count in
      let boots : List Line = boot_stubs plan jobs (first_at c) in
      let stubs : List Line = task_stubs plan jobs (first_at c) in
      let codes : List Line = jobs_code plan jobs (first_at c) in
      let counted : length jobs ≡ count = jobs_counted c.tasks 0 in
      let halted : Lie p (20 + 5 * count) (bares (Halt ∷ []) ++ (boots ++ (stubs ++ codes))) =
      lie_behind p 0 head (bares (Halt ∷ []) ++ (boots ++ (stubs ++ codes))) (20 + 5 * count) h (omega (arith, (head_good [] (stride plan.scheme) count (stride_low plan.scheme) fit.tasks).long)) in
      let boot_lies : Lie p (20 + 5 * count + 1) (boots ++ (stubs ++ codes)) = halted.1 in
      let stub_lies : Lie p (21 + 6 * count) (stubs ++ codes) =
      lie_behind p (20 + 5 * count + 1) boots (stubs ++ codes) (21 + 6 * count) boot_lies (omega (arith, counted, (boot_stubs_good [] plan jobs (first_at c)).long)) in
      let code_lies : Lie p (first_at c) codes = lie_behind p (21 + 6 * count) stubs codes (first_at c) stub_lies (omega (arith, counted, (task_stubs_good [] plan jobs (first_at c)).long)) in
      let each_task = tasks_lie c.tasks 0 (first_at c) (20 + 5 * count + 1) (21 + 6 * count) w.tasks fit.jobs (lie_front p (20 + 5 * count + 1) boots (stubs ++ codes) boot_lies) (lie_front p (21 + 6 * count) stubs codes stub_lies) code_lies in
      record { head = lie_front p 0 head (bares (Halt ∷ []) ++ (boots ++ (stubs ++ codes))) h; halt = halted.0; tasks = λ n t is. task_at n t (each_task n t is) }
    where
      task_at : (n : ℕ) (t : CoreTask) → HasTask p plan c (20 + 5 * length c.tasks + 1 + n) (21 + 6 * length c.tasks + n) (0 + n) t → TaskLies p plan c n t
      task_at n t has =
          let there : HasTask p plan c (boot_at (length c.tasks) (n + 1)) (stub_at (length c.tasks) (n + 1)) n t =
          task_as p plan c (20 + 5 * length c.tasks + 1 + n) (boot_at (length c.tasks) (n + 1)) (21 + 6 * length c.tasks + n) (stub_at (length c.tasks) (n + 1)) (0 + n) n t t (omega arith) (stub_is (n + 1 == 0) (length c.tasks) n refl) (omega arith) refl has in
          record { top = there.top; boot_stub = there.boot_stub; boot = there.boot; stub = there.stub; acts = there.acts }
