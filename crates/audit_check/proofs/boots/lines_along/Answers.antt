-- Before the first boot the stores are as declared.
use Rattle.audit_check.proofs.AttemptCode.{first_stores}
use Rattle.audit_check.proofs.boots.lines_along.Goals as goal

pub pass-requires : goal.pass-requires
pass-requires c = first_stores c.args.tasks.now c.args.core.now c.args.feeds.now _ c.requires.tasks c.in_ok-walking.ensures
