-- By the law on definitions.
use Rattle.audit_check.proofs.WalkLaws.{call_tracks}
use Rattle.audit_check.proofs.laws.a_call_goes_along.Goals as goal

pub returns : goal.returns
returns c = λ numbers k onto p args there right. call_tracks c.args.world.now c.args.around.now numbers k onto p args there right
