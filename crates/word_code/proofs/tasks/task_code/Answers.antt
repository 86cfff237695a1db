-- What a boot restores, and the acts.
use Rattle.std.specs.Prelude.{◌≡◌, ◌+◌, length}
use Rattle.std.proofs.Common.{arith, ap, ◌∙◌}
use Rattle.line_code.specs.PartLaws.{on_ok}
use Rattle.word_code.specs.CodeOf.{job, boot_size, boot_lines}
use Rattle.word_code.specs.FitPlan.{Built}
use Rattle.word_code.specs.Sizes.{acts_size}
use Rattle.word_code.proofs.JobLemmas.{job_put}
use Rattle.word_code.proofs.tasks.task_code.Goals as goal

pub returns-clause-lines : goal.returns-clause-lines
returns-clause-lines c =
    let boot = c.as_slice.ensures ∙ ap (λ (v : Built). v.plan.boot) c.b.view_is in
    let lines = ap (boot_lines c.args.b.now.plan) c.frame-f.ensures in
    let next : c.at.result + c.boot_size.result ≡ length c.args.code.now + boot_size c.args.b.now.plan (job c.args.b.now.plan c.args.b.now.core c.args.number c.args.task.now) = omega (arith, c.at.ensures, c.boot_size.ensures, lines, c.requires.room) in
    let at : length c.acts.new.code ≡ length c.args.code.now + boot_size c.args.b.now.plan (job c.args.b.now.plan c.args.b.now.core c.args.number c.args.task.now) = omega (arith, c.in_ok-acts.ensures.count, ap (acts_size c.frame-f.result) boot, lines) in
    on_ok c.acts-3.result (job_put c.args.b.now.plan c.args.b.now.core c.args.number c.args.task.now c.frame-f.result c.as_slice.result.now c.acts-2.result.now c.args.code.now c.acts.new.code c.acts-3.new.code (c.at.result + c.boot_size.result)
    c.frame-f.ensures boot c.acts-2.ensures next at c.in_ok-acts.ensures.lines) c.acts-3.ensures.lines
