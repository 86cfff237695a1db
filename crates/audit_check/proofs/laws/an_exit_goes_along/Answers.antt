-- By the law on definitions.
use Rattle.audit_check.proofs.AttemptWalks.{exit_walked_tracks}
use Rattle.audit_check.proofs.laws.an_exit_goes_along.Goals as goal

pub returns : goal.returns
returns c = exit_walked_tracks c.args.world.now.feeds c.args.around.now
