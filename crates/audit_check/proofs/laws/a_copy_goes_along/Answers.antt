-- By the law on definitions.
use Rattle.audit_check.proofs.CopyLaws.{copy_tracks}
use Rattle.audit_check.proofs.laws.a_copy_goes_along.Goals as goal

pub returns : goal.returns
returns c = λ k to from words there. copy_tracks c.args.world.now c.args.around.now k to from words there
