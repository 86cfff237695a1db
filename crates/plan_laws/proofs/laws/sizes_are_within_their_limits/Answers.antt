-- Of every program.
use Rattle.plan_laws.proofs.SizeLaws.{sizes_within}
use Rattle.plan_laws.proofs.laws.sizes_are_within_their_limits.Goals as goal

pub returns : goal.returns
returns c = sizes_within c.args.scheme c.args.c.now c.requires
