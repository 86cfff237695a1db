-- By the law on definitions.
use Rattle.audit_check.proofs.LeafLaws.{issued_tracks}
use Rattle.audit_check.proofs.laws.an_issue_goes_along.Goals as goal

pub returns : goal.returns
returns c = λ setting k p args few world. issued_tracks c.args.feeds.now setting k p args few world
