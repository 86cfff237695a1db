-- By the law on definitions.
use Rattle.audit_check.proofs.LeafLaws.{looked_tracks}
use Rattle.audit_check.proofs.laws.a_look_goes_along.Goals as goal

pub returns : goal.returns
returns c = λ k. looked_tracks c.args.feeds.now k
