-- By the law on definitions.
use Rattle.audit_check.proofs.LeafLaws.{sealed_tracks}
use Rattle.audit_check.proofs.laws.a_seal_goes_along.Goals as goal

pub returns : goal.returns
returns c = λ k r. sealed_tracks c.args.feeds.now k r
