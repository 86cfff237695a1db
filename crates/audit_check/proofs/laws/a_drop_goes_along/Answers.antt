-- By the law on definitions.
use Rattle.audit_check.proofs.LeafLaws.{dropped_tracks}
use Rattle.audit_check.proofs.laws.a_drop_goes_along.Goals as goal

pub returns : goal.returns
returns c = λ k. dropped_tracks c.args.feeds.now k
