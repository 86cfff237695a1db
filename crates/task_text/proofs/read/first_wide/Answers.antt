use Rattle.std.proofs.Common.{sym, ◌∙◌}
use Rattle.task_text.proofs.ReadLaws.{wide-found}
use Rattle.task_text.proofs.read.first_wide.Goals as goal

pub returns-then-is_too_wide : goal.returns-then-is_too_wide
returns-then-is_too_wide c =
    wide-found _ _ _ c.loop-token-test.true c.token-item.is c.loop-token.invariant (sym c.is_too_wide.ensures ∙ c.if-is_too_wide.true)
