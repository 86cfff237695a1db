-- By the law on definitions.
use Rattle.audit_check.proofs.AttemptWalks.{statement_tracks}
use Rattle.audit_check.proofs.laws.a_statement_goes_along.Goals as goal

pub returns : goal.returns
returns c = λ numbers s right. statement_tracks c.args.world.now c.args.around.now numbers s right
