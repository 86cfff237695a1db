-- One task more for each turn.
use Rattle.std.specs.Prelude.{◌≡◌, ◌+◌, ◌<◌, ◌≤◌, List, length, get_or}
use Rattle.std.proofs.Common.{arith, ap, subst, refl, ◌∙◌}
use Rattle.task_ast.specs.declared.core_form.CoreTask.{CoreTask}
use Rattle.word_code.specs.Acts.{jump}
use Rattle.word_code.specs.CodeOf.{boot_stubs, job, job_size}
use Rattle.word_code.specs.FitPlan.{Built, IsFitPlan}
use Rattle.word_code.proofs.JobLemmas.{jobs_begin, job_next, job_more, job_counted, jobs_end}
use Rattle.word_code.proofs.tasks.boot_stubs.Goals as goal

pub tasks-init : goal.tasks-init
tasks-init c = (omega arith, jobs_begin c.args.b.now.plan c.args.b.now.core (boot_stubs c.args.b.now.plan) c.args.code.now c.args.first (subst (λ (v : Built). IsFitPlan v.plan v.core) c.b.view_is c.b.invariant.fit))

pub tasks-preserved : goal.tasks-preserved
tasks-preserved c =
    let t = c.task-item.result in
    let same : c.as_slice-task-items.result.now ≡ c.args.b.now.core.tasks = c.as_slice-task-items.ensures ∙ ap (λ (v : Built). v.core.tasks) c.b.view_is in
    let within : c.tasks.number < length c.args.b.now.core.tasks = subst (λ (ts : List CoreTask). c.tasks.number < length ts) same c.tasks-test.true in
    let is : t ≡ get_or c.args.b.now.core.tasks c.tasks.number t = subst (λ (ts : List CoreTask). t ≡ get_or ts c.tasks.number t) same c.task-item.is in
    let way = job_next c.args.b.now.plan c.args.b.now.core (boot_stubs c.args.b.now.plan) c.args.code.now c.args.first c.tasks.code c.tasks.at c.tasks.number t within is c.tasks.invariant.1 in
    let few : job_size c.args.b.now.plan (job c.args.b.now.plan c.args.b.now.core c.tasks.number t) ≤ 4194304 = omega (arith, way.sum, c.requires.room) in
    let counted = job_counted c.args.b.now.plan c.args.b.now.core c.tasks.number t c.frame-f.result c.acts.result.now c.boot_size.result c.acts_size.result c.frame-f.ensures c.acts.ensures c.boot_size.ensures c.acts_size.ensures few in (
      omega (arith, c.tasks.invariant.0, c.in_ok-jump.ensures.count),
      job_more c.args.b.now.plan c.args.b.now.core (boot_stubs c.args.b.now.plan) (λ j x. jump x) c.args.code.now c.args.first c.tasks.code c.jump.new.code c.tasks.at (c.tasks.at + c.boot_size.result + c.acts_size.result) c.tasks.number t _ (λ j rest x. refl) way
          c.in_ok-jump.ensures.lines (omega (arith, counted.all)),
    )

pub returns : goal.returns
returns c =
    let same : c.as_slice-task-items.result.now ≡ c.args.b.now.core.tasks = c.as_slice-task-items.ensures ∙ ap (λ (v : Built). v.core.tasks) c.b.view_is in
    let past : length c.args.b.now.core.tasks ≤ c.tasks.number = subst (λ (ts : List CoreTask). length ts ≤ c.tasks.number) same c.tasks-test.false in
    record { lines = jobs_end c.args.b.now.plan c.args.b.now.core (boot_stubs c.args.b.now.plan) c.args.code.now c.args.first c.tasks.code c.tasks.at c.tasks.number past (λ x. refl) c.tasks.invariant.1; count = omega (arith, c.tasks.invariant.0, past, c.tasks.auto.number-end, ap length same) }
