-- By the law on definitions.
use Rattle.audit_laws.proofs.BootWalks.{boot_tracks}
use Rattle.audit_laws.proofs.laws.boots_go_along.Goals as goal

pub returns : goal.returns
returns c = λ tasks right b w s knows. boot_tracks c.args.world.now c.args.c.now tasks c.requires right b w s knows
