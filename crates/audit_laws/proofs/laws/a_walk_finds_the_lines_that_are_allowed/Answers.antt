-- By the law on definitions.
use Rattle.audit_laws.proofs.AllowedLaws.{allowed_reach}
use Rattle.audit_laws.proofs.laws.a_walk_finds_the_lines_that_are_allowed.Goals as goal

pub returns : goal.returns
returns c = λ tasks right boots n few fits. allowed_reach c.args.world.now c.args.c.now tasks c.requires right boots n few fits
