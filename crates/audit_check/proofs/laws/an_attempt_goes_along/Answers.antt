-- By the law on definitions.
use Rattle.audit_check.proofs.AttemptWalks.{attempt_tracks}
use Rattle.audit_check.proofs.laws.an_attempt_goes_along.Goals as goal

pub returns : goal.returns
returns c = λ numbers right w here s go known knows. attempt_tracks c.args.world.now c.args.around.now numbers right w here s go known knows
