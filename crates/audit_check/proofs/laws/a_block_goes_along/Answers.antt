-- By the law on definitions.
use Rattle.audit_check.proofs.WalkLaws.{block_tracks}
use Rattle.audit_check.proofs.laws.a_block_goes_along.Goals as goal

pub returns : goal.returns
returns c = λ k body step there tracks. block_tracks c.args.world.now c.args.around.now k body step there tracks
