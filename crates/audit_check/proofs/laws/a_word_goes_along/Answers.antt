-- By the law on definitions.
use Rattle.audit_check.proofs.LeafLaws.{word_tracks}
use Rattle.audit_check.proofs.laws.a_word_goes_along.Goals as goal

pub returns : goal.returns
returns c = λ e. word_tracks c.args.feeds.now e
