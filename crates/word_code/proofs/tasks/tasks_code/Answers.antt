-- One task more for each turn.
use Rattle.std.specs.Prelude.{◌≡◌, ◌<◌, ◌≤◌, List, length, get_or}
use Rattle.std.proofs.Common.{arith, ap, subst, refl, ◌∙◌}
use Rattle.task_ast.specs.declared.core_form.CoreTask.{CoreTask}
use Rattle.word_code.specs.CodeOf.{jobs_code, job_code}
use Rattle.word_code.specs.FitPlan.{Built, IsFitPlan}
use Rattle.word_code.proofs.JobLemmas.{jobs_begin, job_next, job_more, jobs_end, jobs_counted}
use Rattle.word_code.proofs.tasks.tasks_code.Goals as goal

pub tasks-init : goal.tasks-init
tasks-init c = jobs_begin c.args.b.now.plan c.args.b.now.core (jobs_code c.args.b.now.plan) c.args.code.now (length c.args.code.now) (subst (λ (v : Built). IsFitPlan v.plan v.core) c.b.view_is c.b.invariant.fit)

pub task_code-requires-clause-number : goal.task_code-requires-clause-number
task_code-requires-clause-number c =
    let same : c.as_slice-task-items.result.now ≡ c.args.b.now.core.tasks = c.as_slice-task-items.ensures ∙ ap (λ (v : Built). v.core.tasks) c.b.view_is in
    let few : length c.args.b.now.core.tasks ≤ 64 = (subst (λ (v : Built). IsFitPlan v.plan v.core) c.b.view_is c.b.invariant.fit).tasks in
    omega (arith, ap length same, few, c.tasks-test.true)

pub task_code-requires-clause-kept : goal.task_code-requires-clause-kept
task_code-requires-clause-kept c =
    let t = c.task-item.result in
    let same : c.as_slice-task-items.result.now ≡ c.args.b.now.core.tasks = c.as_slice-task-items.ensures ∙ ap (λ (v : Built). v.core.tasks) c.b.view_is in
    let within : c.tasks.number < length c.args.b.now.core.tasks = subst (λ (ts : List CoreTask). c.tasks.number < length ts) same c.tasks-test.true in
    let is : t ≡ get_or c.args.b.now.core.tasks c.tasks.number t = subst (λ (ts : List CoreTask). t ≡ get_or ts c.tasks.number t) same c.task-item.is in
    (job_next c.args.b.now.plan c.args.b.now.core (jobs_code c.args.b.now.plan) c.args.code.now (length c.args.code.now) c.tasks.code (length c.tasks.code) c.tasks.number t within is c.tasks.invariant).kept.0

pub task_code-requires-clause-fit : goal.task_code-requires-clause-fit
task_code-requires-clause-fit c =
    let t = c.task-item.result in
    let same : c.as_slice-task-items.result.now ≡ c.args.b.now.core.tasks = c.as_slice-task-items.ensures ∙ ap (λ (v : Built). v.core.tasks) c.b.view_is in
    let within : c.tasks.number < length c.args.b.now.core.tasks = subst (λ (ts : List CoreTask). c.tasks.number < length ts) same c.tasks-test.true in
    let is : t ≡ get_or c.args.b.now.core.tasks c.tasks.number t = subst (λ (ts : List CoreTask). t ≡ get_or ts c.tasks.number t) same c.task-item.is in
    (job_next c.args.b.now.plan c.args.b.now.core (jobs_code c.args.b.now.plan) c.args.code.now (length c.args.code.now) c.tasks.code (length c.tasks.code) c.tasks.number t within is c.tasks.invariant).fit.0

pub task_code-requires-clause-room : goal.task_code-requires-clause-room
task_code-requires-clause-room c =
    let t = c.task-item.result in
    let same : c.as_slice-task-items.result.now ≡ c.args.b.now.core.tasks = c.as_slice-task-items.ensures ∙ ap (λ (v : Built). v.core.tasks) c.b.view_is in
    let within : c.tasks.number < length c.args.b.now.core.tasks = subst (λ (ts : List CoreTask). c.tasks.number < length ts) same c.tasks-test.true in
    let is : t ≡ get_or c.args.b.now.core.tasks c.tasks.number t = subst (λ (ts : List CoreTask). t ≡ get_or ts c.tasks.number t) same c.task-item.is in
    omega (arith, c.requires.room, (job_next c.args.b.now.plan c.args.b.now.core (jobs_code c.args.b.now.plan) c.args.code.now (length c.args.code.now) c.tasks.code (length c.tasks.code) c.tasks.number t within is c.tasks.invariant).sum)

pub tasks-preserved : goal.tasks-preserved
tasks-preserved c =
    let t = c.task-item.result in
    let same : c.as_slice-task-items.result.now ≡ c.args.b.now.core.tasks = c.as_slice-task-items.ensures ∙ ap (λ (v : Built). v.core.tasks) c.b.view_is in
    let within : c.tasks.number < length c.args.b.now.core.tasks = subst (λ (ts : List CoreTask). c.tasks.number < length ts) same c.tasks-test.true in
    let is : t ≡ get_or c.args.b.now.core.tasks c.tasks.number t = subst (λ (ts : List CoreTask). t ≡ get_or ts c.tasks.number t) same c.task-item.is in
    let way = job_next c.args.b.now.plan c.args.b.now.core (jobs_code c.args.b.now.plan) c.args.code.now (length c.args.code.now) c.tasks.code (length c.tasks.code) c.tasks.number t within is c.tasks.invariant in
    job_more c.args.b.now.plan c.args.b.now.core (jobs_code c.args.b.now.plan) (job_code c.args.b.now.plan) c.args.code.now (length c.args.code.now) c.tasks.code c.task_code.new.code (length c.tasks.code) (length c.task_code.new.code) c.tasks.number t _ (λ j rest x. refl) way
    c.in_ok-task_code.ensures.lines c.in_ok-task_code.ensures.count

pub returns : goal.returns
returns c =
    let same : c.as_slice-task-items.result.now ≡ c.args.b.now.core.tasks = c.as_slice-task-items.ensures ∙ ap (λ (v : Built). v.core.tasks) c.b.view_is in
    let past : length c.args.b.now.core.tasks ≤ c.tasks.number = subst (λ (ts : List CoreTask). length ts ≤ c.tasks.number) same c.tasks-test.false in
    record { lines = jobs_end c.args.b.now.plan c.args.b.now.core (jobs_code c.args.b.now.plan) c.args.code.now (length c.args.code.now) c.tasks.code (length c.tasks.code) c.tasks.number past (λ x. refl) c.tasks.invariant; count = jobs_counted c.args.b.now.plan c.args.b.now.core (jobs_code c.args.b.now.plan) c.args.code.now (length c.args.code.now) c.tasks.code (length c.tasks.code) c.tasks.number past c.tasks.invariant }
