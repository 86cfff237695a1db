-- By the law on definitions.
use Rattle.audit_check.proofs.AttemptWalks.{commit_tracks}
use Rattle.audit_check.proofs.laws.a_commit_goes_along.Goals as goal

pub returns : goal.returns
returns c = λ next. commit_tracks c.args.feeds.now next
