-- No other answer is one, since these lines alone are those of the bytes.
use Rattle.std.proofs.Common.{ap, ◌∙◌, sym}
use Rattle.audit_verdict.proofs.AuditLaws.{read_only}
use Rattle.audit_verdict.proofs.answer.audit.Goals as goal

pub returns-in_ok-verdict_on-in-Ok-clause-only : goal.returns-in_ok-verdict_on-in-Ok-clause-only
returns-in_ok-verdict_on-in-Ok-clause-only c =
    read_only c.args.c.now c.args.world.now c.args.report.now _ c.in_ok-verdict_on-in-Ok.field-0 c.in_ok-verdict_on-in-Ok.ensures
    (λ lines is. c.as_slice.ensures ∙ c.in-Ok.ensures.only lines is) (λ before refused. c.in-Ok.ensures.told before refused)
