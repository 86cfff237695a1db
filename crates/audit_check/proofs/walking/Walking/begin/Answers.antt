-- The beginning's event leaves the stores as they are.
use Rattle.audit_check.proofs.AttemptCode.{begins_stay}
use Rattle.audit_check.proofs.walking.Walking.begin.Goals as goal

pub renew-requires : goal.renew-requires
renew-requires c = begins_stay c.args.around.now _ _ _ c.requires c.in_ok-take_begin.ensures
