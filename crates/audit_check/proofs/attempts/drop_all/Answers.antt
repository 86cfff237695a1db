-- One record more is gone.
use Rattle.std.proofs.Common.{◌∙◌, None, ap, set, arith}
use Rattle.audit_check.proofs.AttemptCode.{one_dropped}
use Rattle.audit_check.proofs.attempts.drop_all.Goals as goal

pub records-preserved : goal.records-preserved
records-preserved c = ap (λ rs. set rs c.records.site None) c.records.invariant ∙ one_dropped c.args.records.now.items c.records.site (omega (arith, c.records-test.true, c.len-site-end.ensures, c.args.records.now.ok))
