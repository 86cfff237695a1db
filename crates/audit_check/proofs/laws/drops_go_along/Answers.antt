-- By the law on definitions.
use Rattle.audit_check.proofs.LeafLaws.{dropped_from_tracks}
use Rattle.audit_check.proofs.laws.drops_go_along.Goals as goal

pub returns : goal.returns
returns c = λ wanted k left. dropped_from_tracks c.args.feeds.now wanted k left
